use Rattle.std.proofs.Common.{ℕ, ◌*◌, ◌∙◌, ap, sym}
use Rattle.nbd_server.proofs.Messages.{if_both, if_known}
use Rattle.nbd_server.proofs.turns.turn.Goals as goal

pub returns-in-Flags-clause-turns : goal.returns-in-Flags-clause-turns
returns-in-Flags-clause-turns g c =
    rw c.in-Flags.is (if_known (g.D.BlockDevice.content c.args.device.now) (λ content. c.flags_turn.ensures.turns content (g.K.Sink.gained c.args.out.now) c.args.device.now))

pub returns-in-Options-clause-turns : goal.returns-in-Options-clause-turns
returns-in-Options-clause-turns g c =
    let whole = g.met.D.BlockDevice.whole c.args.device.now in
    rw c.in-Options.is (if_both (g.D.BlockDevice.content c.args.device.now) whole whole (λ content size again.
    c.option_turn.ensures.turns content c.args.device.now (size ∙ ap (λ (n : ℕ). 512 * n) (sym c.sectors.ensures))))
