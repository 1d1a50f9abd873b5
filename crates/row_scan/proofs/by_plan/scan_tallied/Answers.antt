use Rattle.std.proofs.Common.{sym, subst}
use Rattle.outside.specs.Attached.{told_all}
use Rattle.parity_scan.specs.Tallies.{AllTallies, BeginsAs}
use Rattle.search_scope.specs.declared.scope.Scope.{Scope}
use Rattle.row_scan.proofs.by_plan.scan_tallied.Goals as goal

pub scan_tallied-requires-clause-begin : goal.scan_tallied-requires-clause-begin
scan_tallied-requires-clause-begin g c κs within =
    subst (λ (scope : Scope). AllTallies (BeginsAs (told_all (g.I.Images.seen c.args.images.now).attached) scope) c.args.sets.now c.args.tallies.now) (sym c.scope-scope.ensures.scope) c.requires.begin
