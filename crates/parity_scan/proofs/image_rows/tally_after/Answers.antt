use Rattle.std.proofs.Common.{◌∙◌, sym, ap}
use Rattle.parity_scan.specs.ImageRows.{asks}
use Rattle.parity_scan.specs.declared.tally.Tally.{Tally}
use Rattle.parity_scan.specs.declared.tally.Tally.TheVariants.{Left}
use Rattle.parity_scan.proofs.Adding.{adds_by, adds_none}
use Rattle.parity_scan.proofs.image_rows.tally_after.Goals as goal

pub returns-then-not-asks-clause-adds : goal.returns-then-not-asks-clause-adds
returns-then-not-asks-clause-adds c =
    adds_none c.args.scope.now c.args.geo.now c.args.run c.args.regions.now c.args.tally (Left c.in-Left.left) (sym c.in-Left.is)
    (ap (λ (t : Tally). asks c.args.scope.now c.args.geo.now t c.args.run) c.in-Left.is ∙ sym c.asks.ensures ∙ c.if-not-asks.true)

pub returns-clause-adds : goal.returns-clause-adds
returns-clause-adds c =
    adds_by c.args.scope.now c.args.geo.now c.args.run c.args.regions.now c.args.tally c.in-Left.left c.rows_left_after.result c.in-Left.is
    (ap (λ (t : Tally). asks c.args.scope.now c.args.geo.now t c.args.run) c.in-Left.is ∙ sym c.asks.ensures ∙ c.if-not-asks.false)
    (λ images hold. let after = c.rows_left_after.ensures.left images hold in rw (c.rows_before-from.ensures, c.rows_before-to.ensures) at after)
