-- The sectors of a slot by its role.
use Rattle.std.proofs.Common.{◌≡◌, ℕ, ◌/◌, List, Some, Bool, true, false, cond, refl, sym, ap, ◌∙◌}
use Rattle.std.specs.Prelude.{IsTrue}
use Rattle.raid_layouts.proofs.Levels.{layout_of}
use Rattle.raid_layouts.proofs.Parts.{stands_elsewhere, stands_here}
use Rattle.raid_layouts.proofs.Powers.{item_is}
use Rattle.raid_params.specs.Validity.{is_valid_head}
use Rattle.raid_params.specs.declared.types.Head.{Head}
use Rattle.raid_params.specs.declared.types.Level.{Level}
use Rattle.raid_params.specs.declared.types.Level.TheVariants.{Raid0, Raid5, Raid6}
use Rattle.raid_params.specs.declared.types.Pattern.{Pattern}
use Rattle.raid_terms.specs.Cells.{stands_in}
use Rattle.raid_terms.specs.Exponent.{item_in}
use Rattle.raid_terms.specs.Role.{HasRole, Item, item_of, p_of, q_at, q_of, turn}
use Rattle.sample_arrays.specs.Arrays.{member_sector, p_sector, q_sector, row_sector}

-- which of three it is
first_is : (a b : Bool) (x y z : List ℕ) → a ≡ true → cond a x (cond b y z) ≡ x
first_is a b x y z e = rw e refl

second_is : (a b : Bool) (x y z : List ℕ) → a ≡ false → b ≡ true → cond a x (cond b y z) ≡ y
second_is a b x y z e f = rw (e, f) refl

third_is : (a b : Bool) (x y z : List ℕ) → a ≡ false → b ≡ false → cond a x (cond b y z) ≡ z
third_is a b x y z e f = rw (e, f) refl

pub on_p : (volume : ℕ → List ℕ) (head : Head) (slot t : ℕ) → p_of head (t / head.chunk) ≡ Some slot → p_sector volume head t ≡ member_sector volume head slot t
on_p volume head slot t is =
    sym (first_is (stands_in slot (p_of head (t / head.chunk))) (stands_in slot (q_of head (t / head.chunk)))
    (p_sector volume head t) (q_sector volume head t) (volume (row_sector head t (item_in head (t / head.chunk) slot)))
    (stands_here slot (p_of head (t / head.chunk)) is))

pub on_q : (volume : ℕ → List ℕ) (head : Head) (slot t : ℕ) → IsTrue (is_valid_head head) → q_of head (t / head.chunk) ≡ Some slot →
    q_sector volume head t ≡ member_sector volume head slot t
on_q volume head slot t valid is =
    let row = t / head.chunk in
    sym (second_is (stands_in slot (p_of head (t / head.chunk))) (stands_in slot (q_of head (t / head.chunk)))
    (p_sector volume head t) (q_sector volume head t) (volume (row_sector head t (item_in head (t / head.chunk) slot)))
    (stands_elsewhere slot (p_of head (t / head.chunk)) (λ e. (layout_of head (t / head.chunk) valid).p_not_q slot e is))
    (stands_here slot (q_of head (t / head.chunk)) is))

pub on_item : (volume : ℕ → List ℕ) (head : Head) (slot t item : ℕ) → IsTrue (is_valid_head head) → HasRole head (t / head.chunk) slot (Item item) →
    volume (row_sector head t item) ≡ member_sector volume head slot t
on_item volume head slot t item valid is =
    let l = layout_of head (t / head.chunk) valid in
    let at : Some slot ≡ Some (item_of head (t / head.chunk) item) = ap (λ (x : ℕ). Some x) is.1 in
    sym (third_is (stands_in slot (p_of head (t / head.chunk))) (stands_in slot (q_of head (t / head.chunk)))
    (p_sector volume head t) (q_sector volume head t) (volume (row_sector head t (item_in head (t / head.chunk) slot)))
    (stands_elsewhere slot (p_of head (t / head.chunk)) (λ e. l.not_p item is.0 (e ∙ at)))
    (stands_elsewhere slot (q_of head (t / head.chunk)) (λ e. l.not_q item is.0 (e ∙ at)))
    ∙ ap (λ (i : ℕ). volume (row_sector head t i)) (item_is head (t / head.chunk) slot item valid is.0 is.1))

level_at : (level : Level) (pattern : Pattern) (n row slot : ℕ) → q_at level pattern n row ≡ Some slot → level ≡ Raid6
level_at Raid0 pattern n row slot e = absurd (cc)
level_at Raid5 pattern n row slot e = absurd (cc)
level_at Raid6 pattern n row slot e = refl

pub level_of_q : (head : Head) (row slot : ℕ) → q_of head row ≡ Some slot → head.level ≡ Raid6
level_of_q head row slot e = level_at head.level head.pattern head.members (turn head row) slot e
