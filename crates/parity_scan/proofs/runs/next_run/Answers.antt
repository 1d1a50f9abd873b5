use Rattle.std.proofs.Common.{get_or, refl, arith, subst, sym}
use Rattle.raid_params.specs.declared.types.Geometry.{Geometry}
use Rattle.parity_scan.specs.Pass.{IsOwnRun}
use Rattle.parity_scan.specs.declared.tally.Tally.{Tally}
use Rattle.parity_scan.specs.declared.tally.Tally.TheVariants.{Left}
use Rattle.parity_scan.proofs.NextRun.{next_more, own_at}
use Rattle.parity_scan.proofs.runs.next_run.Goals as goal

pub loop-k-preserved : goal.loop-k-preserved
loop-k-preserved c =
    let own : (e : Geometry) (d : Tally) → IsOwnRun c.args.scanned.now.scope.now (get_or c.args.scanned.now.sets.now c.loop-k.k e) (get_or c.args.tallies.now c.loop-k.k d) c.args.at c.own_run.result =
    λ e d. own_at c.args.scanned.now.scope.now c.args.scanned.now.sets.now c.args.tallies.now c.loop-k.k c.args.at c.index-scanned-k.result _ e d c.own_run.result (omega arith) (omega arith) c.index-scanned-k.is refl
    (subst (λ (geo : Geometry). IsOwnRun c.args.scanned.now.scope.now geo (get_or c.args.tallies.now c.loop-k.k (Left 0)) c.args.at c.own_run.result) (sym c.index-scanned-k.is) c.own_run.ensures) in
    next_more c.args.scanned.now.scope.now c.args.scanned.now.sets.now c.args.tallies.now c.loop-k.k c.args.at c.index-scanned-k.result c.loop-k.next c.own_run.result c.earlier-next.result (omega arith)
    c.loop-k.invariant own c.earlier-next.ensures.either c.earlier-next.ensures.one c.earlier-next.ensures.other
