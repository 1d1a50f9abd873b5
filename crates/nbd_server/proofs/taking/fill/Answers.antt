use Rattle.std.proofs.Common.{◌≡◌, ◌≤◌, ◌-◌, ◌∙◌, Ok, length, rules, arith}
use Rattle.std.proofs.lemmas.List.{length-drop}
use Rattle.nbd_server.proofs.Pieces.{filled_length, fills_more, took, within_front}
use Rattle.nbd_server.proofs.taking.fill.Goals as goal

pub loop-preserved : goal.loop-preserved
loop-preserved g c =
    let e : c.take.result ≡ Ok c.in_ok-count.count = search rules in
    let n = c.in_ok-count.count in
    let few = within_front c.take.result n c.take.new.to e c.take.ensures.bound in
    let taken = took (g.S.Source.left c.loop.source) (g.S.Source.left c.take.new.self) c.take.new.to c.take.result n e c.take.ensures.bytes in
    let below : c.loop.filled ≤ length c.loop.to = omega arith in
    let size : length c.take.new.to ≡ length c.loop.to - c.loop.filled = omega (arith, c.take.auto.to, length-drop c.loop.filled c.loop.to) in
    record {
      some = omega arith;
      room = omega (arith, c.take.auto.to, filled_length c.loop.filled (length c.loop.to - c.loop.filled) c.loop.to c.take.new.to size (omega arith));
      consumed = fills_more (g.S.Source.left c.args.source.now) (g.S.Source.left c.loop.source) (g.S.Source.left c.take.new.self) c.loop.filled (length c.loop.to - c.loop.filled) n c.loop.to c.take.new.to below few c.loop.invariant.consumed taken;
      same = (rw e at c.take.ensures.cause.stays) ∙ c.loop.invariant.same;
    }
