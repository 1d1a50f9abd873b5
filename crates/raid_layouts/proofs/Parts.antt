-- What the block of a slot is in a row, by its role.
use Rattle.std.proofs.Common.{◌≡◌, ◌≢◌, ℕ, arith, ap, ◌∙◌, refl, Option, Some, None, true, false, Bool}
use Rattle.std.proofs.lemmas.Bool.{eqb-true}
use Rattle.std.proofs.lemmas.Bool.Decides.{nat_tests}
use Rattle.std.specs.Prelude.{IsTrue, if◌then◌else◌}
use Rattle.raid_params.specs.declared.types.Head.{Head}
use Rattle.raid_params.specs.declared.types.Part.{Part}
use Rattle.raid_params.specs.declared.types.Part.TheVariants.{Block, P, Q}
use Rattle.raid_params.specs.Validity.{is_valid_head}
use Rattle.raid_terms.specs.Cells.{part_of, stands_in, weight_at}
use Rattle.raid_terms.specs.Exponent.{HoldsData}
use Rattle.raid_terms.specs.Role.{p_of, q_of}
use Rattle.raid_layouts.proofs.Levels.{layout_of}
use Rattle.raid_layouts.proofs.Powers.{data_not_p, data_not_q}

-- the place is this slot
pub stands_here : (slot : ℕ) (place : Option ℕ) → place ≡ Some slot → stands_in slot place ≡ true
stands_here slot None e = (cc)
stands_here slot (Some p) e = let at : p ≡ slot = (cc) in grind (arith, nat_tests)

-- or it is not
pub stands_elsewhere : (slot : ℕ) (place : Option ℕ) → place ≢ Some slot → stands_in slot place ≡ false
stands_elsewhere slot None ne = refl
stands_elsewhere slot (Some p) ne = let off : p ≢ slot = λ e. ne (ap (λ (x : ℕ). Some x) e) in grind (arith, nat_tests)

-- where it is this slot, that is its place
pub stands_true : (slot : ℕ) (place : Option ℕ) → stands_in slot place ≡ true → place ≡ Some slot
stands_true slot None e = (cc)
stands_true slot (Some p) e = ap (λ (x : ℕ). Some x) (eqb-true p slot e)

abbrev pub chosen : Bool → Bool → ℕ → Part
chosen p q k = if p then P else if q then Q else Block k

pub part_p : (head : Head) (row slot : ℕ) → p_of head row ≡ Some slot → part_of head row slot ≡ P
part_p head row slot e = ap (λ (b : Bool). chosen b (stands_in slot (q_of head row)) (weight_at head.level head row slot)) (stands_here slot (p_of head row) e)

off_p : (head : Head) (row slot : ℕ) → p_of head row ≢ Some slot → part_of head row slot ≡ chosen false (stands_in slot (q_of head row)) (weight_at head.level head row slot)
off_p head row slot ne = ap (λ (b : Bool). chosen b (stands_in slot (q_of head row)) (weight_at head.level head row slot)) (stands_elsewhere slot (p_of head row) ne)

pub part_q : (head : Head) (row slot : ℕ) → IsTrue (is_valid_head head) → q_of head row ≡ Some slot → part_of head row slot ≡ Q
part_q head row slot valid e =
    off_p head row slot (λ p. (layout_of head row valid).p_not_q slot p e)
    ∙ ap (λ (b : Bool). chosen false b (weight_at head.level head row slot)) (stands_here slot (q_of head row) e)

pub part_beside : (head : Head) (row slot : ℕ) → p_of head row ≢ Some slot → q_of head row ≢ Some slot → part_of head row slot ≡ Block (weight_at head.level head row slot)
part_beside head row slot np nq =
    off_p head row slot np
    ∙ ap (λ (b : Bool). chosen false b (weight_at head.level head row slot)) (stands_elsewhere slot (q_of head row) nq)

pub part_data : (head : Head) (row slot : ℕ) → IsTrue (is_valid_head head) → HoldsData head row slot → part_of head row slot ≡ Block (weight_at head.level head row slot)
part_data head row slot valid has = part_beside head row slot (data_not_p head row slot valid has) (data_not_q head row slot valid has)
