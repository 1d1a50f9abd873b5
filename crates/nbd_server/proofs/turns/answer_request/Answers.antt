use Rattle.std.proofs.Common.{◌≡◌, ℕ, ◌+◌, ◌*◌, ◌∙◌, true, ap, sym, arith, slice_range}
use Rattle.nbd_text.specs.Requests.{is_read}
use Rattle.nbd_server.specs.Turns.{wire}
use Rattle.nbd_server.proofs.Messages.{good_reply, if_both}
use Rattle.nbd_server.proofs.turns.answer_request.Goals as goal

pub returns-in-Ok-clause-replies : goal.returns-in-Ok-clause-replies
returns-in-Ok-clause-replies g c = λ left.
    let request = c.args.request.now in
    let room = c.read_request.new.room in
    let start = c.in-Ok.start in
    let size = 512 * g.D.BlockDevice.size c.args.device.now in
    let is : is_read size request ≡ true = ap (λ (n : ℕ). is_read (512 * n) request) (sym c.sectors-size.ensures) ∙ sym c.is_read.ensures ∙ c.if-not-is_read.false in
    let end : start + 16 + request.length ≡ start + (16 + request.length) = omega arith in
    if_both (g.D.BlockDevice.content c.args.device.now) (g.met.D.BlockDevice.whole c.args.device.now) c.in-Ok.ensures.told (λ content whole told.
    good_reply g.D.BlockDevice.reads content size request (wire left (g.K.Sink.gained c.args.out.now) c.args.device.now) (wire left (g.K.Sink.gained c.put-in-Ok.new.out) c.read_request.new.device)
    c.put-in-Ok.result (slice_range room start (start + 16 + request.length)) whole is c.in-Ok.ensures.reads (ap (λ (n : ℕ). slice_range room start n) end ∙ told) c.put-in-Ok.ensures.puts)
