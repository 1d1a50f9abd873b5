use Rattle.std.proofs.Common.{ℕ, ◌≡◌, None, Some, length, sym, subst, ◌∙◌, arith, inl, inr}
use Rattle.std.specs.Bool.{Decides}
use Rattle.std.proofs.lemmas.Bool.{cases_Bool}
use Rattle.relation_prefix.specs.Systems.{Solves}
use Rattle.relation_prefix.specs.Ties.{CanHaveAll}
use Rattle.relation_prefix.proofs.Systems.{solvable}
use Rattle.relation_prefix.proofs.pins.can_have_all.Goals as goal

pub returns-then-slots-members : goal.returns-then-slots-members
returns-then-slots-members c =
    let whole : length c.args.slots.now ≡ c.args.members = omega (arith, c.requires.members, c.if-slots-members.true) in
    subst (λ (n : ℕ). Decides c.whole_fits.result (CanHaveAll c.args.ties.now c.args.weights.now n c.args.slots.now)) whole c.whole_fits.ensures

pub returns : goal.returns
returns c = (
  λ good.
      (let found = solvable c.pin_slots.new.system.conditions c.pin_slots.ensures.triangular in
      let have = (c.pin_slots.ensures.pinned good found.0 found.1).0 found.2 in
      (found.0, record { bytes = found.1; held = have.1; foreign = λ whole. absurd (let short = c.if-slots-members.false in omega arith) })),
  λ v. elim (cases_Bool c.pin_slots.result) [
    | inl so ↦ so
    | inr never ↦ absurd
        (let nothing : Solves v.0 c.new-system.result.conditions = λ t condition there. absurd (let clash : None ≡ Some condition = sym (c.new-system.ensures.none t) ∙ there in cc) in
        c.pin_slots.ensures.contradiction never v.0 v.1.bytes nothing v.1.held)
  ],
)
