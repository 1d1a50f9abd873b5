use Rattle.std.proofs.Common.{ℕ, Option, sym, ap, ◌∙◌}
use Rattle.damaged_mirror.specs.Damaged.{is_good_held}
use Rattle.damaged_mirror.proofs.GoodCopies.{good_told}
use Rattle.damaged_mirror.proofs.good.is_good_held.Goals as goal

pub returns-in-Some : goal.returns-in-Some
returns-in-Some c =
    good_told c.is_good.result c.args.rescue.now c.in-Some.image c.args.sector c.is_good.ensures
    ∙ ap (λ (o : Option ℕ). is_good_held c.args.rescue.now o c.args.sector) (sym c.in-Some.is)
