use Rattle.std.proofs.Common.{◌≡◌, ◌++◌, ◌∙◌, Ok, inl, inr, take, rules, arith, length-append}
use Rattle.std.proofs.lemmas.List.{length-take}
use Rattle.nbd_server.proofs.Pieces.{at_end, consumes_more, took, within_front}
use Rattle.nbd_server.proofs.taking.skip.Goals as goal

pub loop-preserved : goal.loop-preserved
loop-preserved g c =
    let e : c.take.result ≡ Ok c.in_ok-count.count = search rules in
    let n = c.in_ok-count.count in
    let few = within_front c.take.result n c.take.new.to e c.take.ensures.bound in
    let taken = took (g.S.Source.left c.loop.source) (g.S.Source.left c.take.new.self) c.take.new.to c.take.result n e c.take.ensures.bytes in
    record {
      some = omega arith;
      room = omega (arith, c.take.auto.to, length-take c.min-most.result c.loop.room);
      part = c.loop.invariant.part ++ take n c.take.new.to;
      consumed = consumes_more (g.S.Source.left c.args.source.now) (g.S.Source.left c.loop.source) (g.S.Source.left c.take.new.self) c.loop.invariant.part (take n c.take.new.to) c.loop.invariant.consumed taken;
      size = omega (arith, length-append c.loop.invariant.part (take n c.take.new.to), length-take n c.take.new.to);
      same = (rw e at c.take.ensures.cause.stays) ∙ c.loop.invariant.same;
    }

pub returns-then-count-eq0-clause-skips : goal.returns-then-count-eq0-clause-skips
returns-then-count-eq0-clause-skips g c =
    let e : c.take.result ≡ Ok c.in_ok-count.count = search rules in
    let n = c.in_ok-count.count in
    let few = within_front c.take.result n c.take.new.to e c.take.ensures.bound in
    let taken = took (g.S.Source.left c.loop.source) (g.S.Source.left c.take.new.self) c.take.new.to c.take.result n e c.take.ensures.bytes in (
      c.loop.invariant.part ++ take n c.take.new.to,
      (
        consumes_more (g.S.Source.left c.args.source.now) (g.S.Source.left c.loop.source) (g.S.Source.left c.take.new.self) c.loop.invariant.part (take n c.take.new.to) c.loop.invariant.consumed taken,
        omega (arith, c.take.auto.to, length-take c.min-most.result c.loop.room, length-append c.loop.invariant.part (take n c.take.new.to), length-take n c.take.new.to),
        (λ short. elim c.then-count-eq0.either [
          | inl none ↦ at_end (g.S.Source.left c.loop.source) (g.S.Source.left c.take.new.self) c.take.new.to c.take.result n e none (omega (arith, c.take.auto.to, length-take c.min-most.result c.loop.room)) c.take.ensures.bytes
          | inr whole ↦ absurd (omega (arith, length-append c.loop.invariant.part (take n c.take.new.to), length-take n c.take.new.to, whole.1))
        ]),
      ),
      omega (arith, length-append c.loop.invariant.part (take n c.take.new.to), length-take n c.take.new.to),
    )
