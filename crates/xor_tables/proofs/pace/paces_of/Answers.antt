use Rattle.std.proofs.Common.{◌≡◌, ◌≤◌, All, length, arith, ap, sym, subst, ◌∙◌}
use Rattle.std.proofs.lemmas.List.{take_all}
use Rattle.std.specs.List.{flat_map}
use Rattle.xor_tables.specs.Paces.{paces_of, IsPaceOf}
use Rattle.xor_tables.proofs.Paces.{each_pace, with_chunk}
use Rattle.xor_tables.proofs.pace.paces_of.Goals as goal

pub returns-clause-each : goal.returns-clause-each
returns-clause-each c =
    let all : length c.args.plan.now.bounds.chunks.items ≤ c.loop-chunk.chunk-index = (let end = c.loop-chunk-test.false in let same = ap length c.as_slice-chunk-items.ensures.value in omega arith) in
    let is : c.loop-chunk.paces.items ≡ paces_of c.args.plan.now
    = c.loop-chunk.invariant ∙ ap (flat_map (with_chunk c.args.plan.now.bounds.delays.items)) (take_all c.loop-chunk.chunk-index c.args.plan.now.bounds.chunks.items all) in
    subst (All (IsPaceOf c.args.plan.now)) (sym is) (each_pace c.args.plan.now)
