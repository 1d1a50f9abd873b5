use Rattle.std.proofs.Common.{ℕ, ◌≡◌, ◌+◌, ◌<◌, ◌++◌, ◌∷◌, [], List, Option, Some, None, ap, subst, arith}
use Rattle.raid_params.specs.declared.limits.TheConstants.{MOST}
use Rattle.raid_params.specs.Slots.{empties}
use Rattle.slot_math.specs.Ways.{IsPlace}
use Rattle.candidate_enum.proofs.Keeping.{some_empty, kept_without_image, kept_without_empty}
use Rattle.candidate_enum.proofs.walk.Walk.forget.Goals as goal

is_image : (last : Option ℕ) (image : ℕ) → IsPlace MOST last → last ≡ Some image → image < MOST
is_image last image h e = let P : Option ℕ → Type 0 = λ x. IsPlace MOST x in subst P e h

with_last : (p : List (Option ℕ)) (x y : Option ℕ) → x ≡ y → p ++ x ∷ [] ≡ p ++ y ∷ []
with_last p x y e = ap (λ (z : Option ℕ). p ++ z ∷ []) e

pub overflow_shl-self : goal.overflow_shl-self
overflow_shl-self c =
    let lt : c.in-Some.image < MOST = is_image c.args.last c.in-Some.image c.requires.place c.in-Some.is in
    omega arith

pub returns-in-Some-clause-kept : goal.returns-in-Some-clause-kept
returns-in-Some-clause-kept c =
    let walk = c.args.self.now in
    let p = walk.slots.items in
    let lt : c.in-Some.image < MOST = is_image c.args.last c.in-Some.image c.requires.place c.in-Some.is in
    kept_without_image p (p ++ c.args.last ∷ []) walk.free walk.empty c.in-Some.image c.requires.kept (omega arith) c.requires.distinct (with_last p c.args.last (Some c.in-Some.image) c.in-Some.is)

pub overflow_sub-self : goal.overflow_sub-self
overflow_sub-self c =
    let walk = c.args.self.now in
    let p = walk.slots.items in
    let n : walk.empty ≡ empties p + 1 = some_empty p (p ++ c.args.last ∷ []) walk.free walk.empty c.requires.kept (with_last p c.args.last None c.in-None.is) in
    omega arith

pub returns-in-None-clause-kept : goal.returns-in-None-clause-kept
returns-in-None-clause-kept c =
    let walk = c.args.self.now in
    let p = walk.slots.items in
    kept_without_empty p (p ++ c.args.last ∷ []) walk.free walk.empty c.requires.kept (with_last p c.args.last None c.in-None.is)
