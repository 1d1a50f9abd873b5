use Rattle.std.proofs.Common.{◌≡◌, ◌++◌, ◌∙◌, length, refl, sym, arith, Some, Ok, Err}
use Rattle.std.proofs.lemmas.Result.{err_from_is_err_and}
use Rattle.std.specs.Io.KnownBytes.{Appends}
use Rattle.outside.specs.Streams.{AppendsFront}
use Rattle.nbd_text.specs.Requests.{request_of}
use Rattle.nbd_text.specs.declared.numbers.TheConstants.{REQUEST_HEAD}
use Rattle.nbd_text.specs.declared.phase.Phase.TheVariants.{Requests}
use Rattle.nbd_server.specs.Turns.{wire}
use Rattle.nbd_server.proofs.Pieces.{consumes_more}
use Rattle.nbd_server.proofs.Messages.{closed_request, cut_request, if_both, if_known, replied}
use Rattle.nbd_server.proofs.turns.request_turn.Goals as goal

pub returns-in_err-take_request-clause-turns : goal.returns-in_err-take_request-clause-turns
returns-in_err-take_request-clause-turns g c =
    let before = rw c.if-not-branch.false at c.in_ok-take_head.ensures.takes in
    let whole : length c.take_head.new.head ≡ REQUEST_HEAD = omega (arith, c.take_head.auto.head) in
    let is : request_of c.take_head.new.head ≡ Some c.in-Some.request = sym c.read.ensures ∙ c.in-Some.is in
    let p = err_from_is_err_and c.from_residual-in_err-take_request.result c.from_residual-in_err-take_request.ensures.1 in
    rw (p.1, p.2) (if_known (g.D.BlockDevice.content c.args.device.now) (λ content.
    cut_request g.D.BlockDevice.reads content (g.S.Source.left c.args.source.now) (g.S.Source.left c.take_head.new.source) (g.S.Source.left c.take_request.new.source) (g.K.Sink.gained c.args.out.now) c.args.device.now
    c.take_head.new.head c.in-Some.request c.in_err-take_request.field-0.0 whole is before c.in_err-take_request.ensures.takes))

pub returns-then-request-eq-CMD_DISC-clause-turns : goal.returns-then-request-eq-CMD_DISC-clause-turns
returns-then-request-eq-CMD_DISC-clause-turns g c =
    let before = rw c.if-not-branch.false at c.in_ok-take_head.ensures.takes in
    let whole : length c.take_head.new.head ≡ REQUEST_HEAD = omega (arith, c.take_head.auto.head) in
    let is : request_of c.take_head.new.head ≡ Some c.in-Some.request = sym c.read.ensures ∙ c.in-Some.is in
    let takes = c.in_ok-take_request.ensures.takes in
    if_known (g.D.BlockDevice.content c.args.device.now) (λ content.
    closed_request g.D.BlockDevice.reads content (g.S.Source.left c.args.source.now) (g.S.Source.left c.take_head.new.source) (g.S.Source.left c.take_request.new.source) (g.K.Sink.gained c.args.out.now) c.args.device.now
    c.take_head.new.head takes.0 c.in-Some.request whole is before takes.1 takes.2 c.if-request-eq-CMD_DISC.true)

pub returns-in_err-answer_request-clause-turns : goal.returns-in_err-answer_request-clause-turns
returns-in_err-answer_request-clause-turns g c =
    let before = rw c.if-not-branch.false at c.in_ok-take_head.ensures.takes in
    let whole : length c.take_head.new.head ≡ REQUEST_HEAD = omega (arith, c.take_head.auto.head) in
    let is : request_of c.take_head.new.head ≡ Some c.in-Some.request = sym c.read.ensures ∙ c.in-Some.is in
    let takes = c.in_ok-take_request.ensures.takes in
    let p = err_from_is_err_and c.from_residual-in_err-answer_request.result c.from_residual-in_err-answer_request.ensures.1 in
    let first = g.S.Source.left c.args.source.now in
    let third = g.S.Source.left c.take_request.new.source in
    let old = wire first (g.K.Sink.gained c.args.out.now) c.args.device.now in
    let mid = wire third (g.K.Sink.gained c.args.out.now) c.args.device.now in
    let new = wire third (g.K.Sink.gained c.answer_request.new.out) c.answer_request.new.device in
    rw (p.1, p.2, c.in_err-answer_request.ensures.only) (if_both (g.D.BlockDevice.content c.args.device.now) (c.in_err-answer_request.ensures.replies third) (c.in_err-answer_request.ensures.replies third) (λ content replies again. (
      c.take_head.new.head ++ takes.0,
      consumes_more first (g.S.Source.left c.take_head.new.source) third c.take_head.new.head takes.0 before takes.1,
      replied g.D.BlockDevice.reads content old mid new c.take_head.new.head takes.0 c.in-Some.request (Err c.in_err-answer_request.field-0.0) (λ turn. AppendsFront old.gained new.gained turn.reply)
          whole is takes.2 c.if-request-eq-CMD_DISC.false refl refl replies (λ failed puts. puts),
    )))

pub returns-clause-turns : goal.returns-clause-turns
returns-clause-turns g c =
    let before = rw c.if-not-branch.false at c.in_ok-take_head.ensures.takes in
    let whole : length c.take_head.new.head ≡ REQUEST_HEAD = omega (arith, c.take_head.auto.head) in
    let is : request_of c.take_head.new.head ≡ Some c.in-Some.request = sym c.read.ensures ∙ c.in-Some.is in
    let takes = c.in_ok-take_request.ensures.takes in
    let first = g.S.Source.left c.args.source.now in
    let third = g.S.Source.left c.take_request.new.source in
    let old = wire first (g.K.Sink.gained c.args.out.now) c.args.device.now in
    let mid = wire third (g.K.Sink.gained c.args.out.now) c.args.device.now in
    let new = wire third (g.K.Sink.gained c.answer_request.new.out) c.answer_request.new.device in
    if_both (g.D.BlockDevice.content c.args.device.now) (c.in_ok-answer_request.ensures.replies third) (c.in_ok-answer_request.ensures.replies third) (λ content replies again. (
      c.take_head.new.head ++ takes.0,
      consumes_more first (g.S.Source.left c.take_head.new.source) third c.take_head.new.head takes.0 before takes.1,
      replied g.D.BlockDevice.reads content old mid new c.take_head.new.head takes.0 c.in-Some.request (Ok c.in_ok-answer_request.field-0) (λ turn. (turn.phase ≡ Requests) × Appends old.gained new.gained turn.reply)
          whole is takes.2 c.if-request-eq-CMD_DISC.false refl refl replies (λ failed puts. (refl, puts)),
    ))
