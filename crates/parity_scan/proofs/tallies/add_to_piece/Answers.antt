use Rattle.std.proofs.Common.{◌+◌, get_or, refl, rules, arith, subst, sym}
use Rattle.raid_params.specs.declared.types.Geometry.{Geometry}
use Rattle.parity_scan.specs.ImageRows.{AddsRun}
use Rattle.parity_scan.specs.declared.tally.Tally.TheVariants.{Left}
use Rattle.parity_scan.proofs.Adding.{adds_here, piece_more}
use Rattle.parity_scan.proofs.tallies.add_to_piece.Goals as goal

pub loop-i-preserved : goal.loop-i-preserved
loop-i-preserved c = record {
  long = search rules;
  done = λ i d e below.
      piece_more
      (λ n old new. (e' : Geometry) → AddsRun c.args.scanned.now.scope.now (get_or c.args.scanned.now.sets.now (c.args.start + n) e') c.args.run c.args.regions.now old new)
      c.loop-i.i c.args.piece.now c.loop-i.piece c.tally_after.result (omega arith)
      (λ n d' less e'. c.loop-i.invariant.done n d' e' less)
      c.loop-i.invariant.rest
      (λ d' e'. adds_here c.args.scanned.now.scope.now c.args.scanned.now.sets.now (c.args.start + c.loop-i.i) c.loop-i.i c.args.run c.args.regions.now c.index-scanned-start.result c.loop-i.piece _ c.tally_after.result d' e'
      (omega arith) (omega arith) c.index-scanned-start.is refl
      (subst (λ (geo : Geometry). AddsRun c.args.scanned.now.scope.now geo c.args.run c.args.regions.now (get_or c.loop-i.piece c.loop-i.i (Left 0)) c.tally_after.result) (sym c.index-scanned-start.is)
      c.tally_after.ensures.adds))
      i d below e;
  rest = λ i d above. search rules;
  known = c.tally_after.ensures.known;
  room = c.tally_after.ensures.room;
}
