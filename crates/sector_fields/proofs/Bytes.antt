-- What standing bytes say of a sector.
use Rattle.std.proofs.Common.{◌≡◌, ℕ, ◌+◌, ◌<◌, zero, suc, List, [], ◌∷◌, true, length, take, drop, get_or, slice_index, nat_eq, arith, sym, ◌∙◌}
use Rattle.std.proofs.lemmas.Bool.{and_parts, eqb-true}
use Rattle.std.proofs.lemmas.List.{get_or-drop, get_or-take}
use lib.Pointwise.{pointwise}
use Rattle.sector_fields.specs.Fields.{has_bytes}

-- lists that are equal item by item are equal at each place
same_at : (word ys : List ℕ) (k : ℕ) → pointwise nat_eq word ys ≡ true → k < length word → get_or ys k 0 ≡ get_or word k 0
same_at [] ys k h below = absurd (omega arith)
same_at (w ∷ word) [] k h below = cc
same_at (w ∷ word) (y ∷ ys) zero h below = sym (eqb-true w y (and_parts _ _ h).0)
same_at (w ∷ word) (y ∷ ys) (suc k) h below = same_at word ys k (and_parts _ _ h).1 (omega arith)

-- a byte of the bytes that stand at a place
pub byte_of : (sector : List ℕ) (at : ℕ) (word : List ℕ) (k : ℕ) → has_bytes sector at word ≡ true → k < length word → slice_index sector (at + k) ≡ slice_index word k
unfolding has_bytes
byte_of sector at word k h below =
    sym (get_or-drop at sector k 0) ∙ sym (get_or-take (length word) (drop at sector) k 0 below)
    ∙ same_at word (take (length word) (drop at sector)) k h below
