use Rattle.std.proofs.Common.{ℕ, ◌≤◌, length, sym, subst, ◌∙◌, arith}
use Rattle.std.specs.Bool.{Decides}
use Rattle.std.proofs.lemmas.Bool.Decides.{same_from_decides}
use Rattle.relation_prefix.specs.Sampled.{allows_by}
use Rattle.relation_prefix.specs.Ties.{CanHaveAll}
use Rattle.relation_prefix.proofs.Pinned.{values_allow, values_of}
use Rattle.relation_prefix.proofs.Told.{told}
use Rattle.relation_prefix.proofs.pins.allows.Goals as goal

pub returns-clause-of_table : goal.returns-clause-of_table
returns-clause-of_table c sectors table head row equation of is are e weigh =
    let ties = c.args.ties.now in
    let weights = c.args.weights.now in
    let slots = c.args.slots.now in (
      λ good.
          (let v = c.can_have_all.ensures.0 good in
          values_allow sectors table ties head row equation weights slots c.requires.ties of is are (λ i. omega (arith, c.type_inv.weights i)) weigh v.0 v.1.bytes v.1.held (λ whole. v.1.foreign (whole ∙ e))),
      λ allowed.
          (let v = values_of sectors table ties head row equation weights slots of is are weigh allowed in
          c.can_have_all.ensures.1 (v.0, record { bytes = v.1.bytes; held = v.1.held; foreign = λ whole. v.1.foreign (whole ∙ sym e) })),
    )

pub returns-clause-by_ties : goal.returns-clause-by_ties
returns-clause-by_ties c head row equation e weigh =
    let ties = c.args.ties.now in
    let weights = c.args.weights.now in
    let slots = c.args.slots.now in
    let few : length slots ≤ head.members = omega (arith, e, c.requires.members) in
    same_from_decides c.can_have_all.result (allows_by ties head row slots equation) c.can_have_all.ensures
    (subst (λ (m : ℕ). Decides (allows_by ties head row slots equation) (CanHaveAll ties weights m slots)) e (told ties head row slots equation weights few weigh))
