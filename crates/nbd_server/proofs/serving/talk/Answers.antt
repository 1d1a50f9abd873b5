use Rattle.std.proofs.Common.{◌∙◌, refl, sym, arith}
use Rattle.std.proofs.lemmas.Result.{err_from_is_err_and}
use Rattle.nbd_server.specs.Turns.{wire}
use Rattle.nbd_server.specs.declared.stop.NbdStop.TheVariants.{SourceFault, OutFault}
use Rattle.nbd_server.proofs.Messages.{if_both, if_known, no_err}
use Rattle.nbd_server.proofs.Reached.{goes_on, starts}
use Rattle.nbd_server.proofs.Ends.{ends_err, ends_full, ends_input, ends_over}
use Rattle.nbd_server.proofs.serving.talk.Goals as goal

pub turn-requires-clause-open : goal.turn-requires-clause-open
turn-requires-clause-open g c = c.loop.invariant.goes

pub turn-requires-clause-small : goal.turn-requires-clause-small
turn-requires-clause-small g c = rw c.loop.invariant.same_size c.requires.small

pub loop-init : goal.loop-init
loop-init g c = record {
  reached = if_known (g.D.BlockDevice.content c.args.device.now) (λ content. starts g.D.BlockDevice.reads content (wire (g.S.Source.left c.args.source.now) (g.K.Sink.gained c.args.out.now) c.args.device.now));
  goes = refl;
  same_content = refl;
  same_size = refl;
  same_fixed = refl;
  later = omega arith;
  source = refl;
  sink = refl;
}

pub returns-in_err-next-clause-talks : goal.returns-in_err-next-clause-talks
returns-in_err-next-clause-talks g c =
    let p = err_from_is_err_and c.from_residual.result c.from_residual.ensures.1 in
    let turns = rw c.loop.invariant.same_content at c.in_err-next.ensures.turns in
    let old = wire (g.S.Source.left c.args.source.now) (g.K.Sink.gained c.args.out.now) c.args.device.now in
    let mid = wire (g.S.Source.left c.loop.source) (g.K.Sink.gained c.loop.out) c.loop.device in
    let new = wire (g.S.Source.left c.turn.new.source) (g.K.Sink.gained c.turn.new.out) c.turn.new.device in
    rw (p.1, p.2) (if_both (g.D.BlockDevice.content c.args.device.now) c.loop.invariant.reached turns (λ content reached does.
    ends_err g.D.BlockDevice.reads content old mid new c.loop.phase c.loop.counter c.in_err-next.field-0.0 c.loop.invariant.goes reached does))

pub returns-in_default-clause-talks : goal.returns-in_default-clause-talks
returns-in_default-clause-talks g c =
    let turns = rw (c.loop.invariant.same_content, c.in_default.is) at c.in_ok-next.ensures.turns in
    let old = wire (g.S.Source.left c.args.source.now) (g.K.Sink.gained c.args.out.now) c.args.device.now in
    let mid = wire (g.S.Source.left c.loop.source) (g.K.Sink.gained c.loop.out) c.loop.device in
    let new = wire (g.S.Source.left c.turn.new.source) (g.K.Sink.gained c.turn.new.out) c.turn.new.device in
    if_both (g.D.BlockDevice.content c.args.device.now) c.loop.invariant.reached turns (λ content reached does.
    ends_input g.D.BlockDevice.reads content old mid new c.loop.phase c.loop.counter c.loop.invariant.goes reached does)

pub returns-then-not-is_open-clause-talks : goal.returns-then-not-is_open-clause-talks
returns-then-not-is_open-clause-talks g c =
    let turns = rw (c.loop.invariant.same_content, c.in-Some.is) at c.in_ok-next.ensures.turns in
    let old = wire (g.S.Source.left c.args.source.now) (g.K.Sink.gained c.args.out.now) c.args.device.now in
    let mid = wire (g.S.Source.left c.loop.source) (g.K.Sink.gained c.loop.out) c.loop.device in
    let new = wire (g.S.Source.left c.turn.new.source) (g.K.Sink.gained c.turn.new.out) c.turn.new.device in
    rw c.end_of.ensures (if_both (g.D.BlockDevice.content c.args.device.now) c.loop.invariant.reached turns (λ content reached does.
    ends_over g.D.BlockDevice.reads content old mid new c.loop.phase c.in-Some.next c.loop.counter c.loop.invariant.goes reached does (sym c.is_open.ensures ∙ c.if-not-is_open.true)))

pub loop-preserved : goal.loop-preserved
loop-preserved g c =
    let turns = rw (c.loop.invariant.same_content, c.in-Some.is) at c.in_ok-next.ensures.turns in
    let old = wire (g.S.Source.left c.args.source.now) (g.K.Sink.gained c.args.out.now) c.args.device.now in
    let mid = wire (g.S.Source.left c.loop.source) (g.K.Sink.gained c.loop.out) c.loop.device in
    let new = wire (g.S.Source.left c.turn.new.source) (g.K.Sink.gained c.turn.new.out) c.turn.new.device in
    record {
      reached = if_both (g.D.BlockDevice.content c.args.device.now) c.loop.invariant.reached turns (λ content reached does.
          goes_on g.D.BlockDevice.reads content old mid new c.loop.phase c.in-Some.next c.loop.counter c.loop.invariant.goes reached does);
      goes = sym c.is_open.ensures ∙ c.if-not-is_open.false;
      same_content = c.in_ok-next.ensures.kept.0 ∙ c.loop.invariant.same_content;
      same_size = c.in_ok-next.ensures.kept.1 ∙ c.loop.invariant.same_size;
      same_fixed = c.in_ok-next.ensures.fixed ∙ c.loop.invariant.same_fixed;
      later = omega (arith, c.loop.invariant.later, c.in_ok-next.ensures.later);
      source = c.in_ok-next.ensures.source.stays (no_err c.in_ok-next.field-0 SourceFault) ∙ c.loop.invariant.source;
      sink = c.in_ok-next.ensures.sink.stays (no_err c.in_ok-next.field-0 OutFault) ∙ c.loop.invariant.sink;
    }

pub returns-clause-talks : goal.returns-clause-talks
returns-clause-talks g c =
    let old = wire (g.S.Source.left c.args.source.now) (g.K.Sink.gained c.args.out.now) c.args.device.now in
    let now = wire (g.S.Source.left c.loop.source) (g.K.Sink.gained c.loop.out) c.loop.device in
    if_both (g.D.BlockDevice.content c.args.device.now) c.loop.invariant.reached c.loop.invariant.reached (λ content reached again.
    ends_full g.D.BlockDevice.reads content old now c.loop.phase c.loop.counter c.loop.invariant.goes reached (omega arith))
