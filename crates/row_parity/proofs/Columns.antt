-- A column is sound where some bytes for its missing cells cancel what is known of it.
use Rattle.std.proofs.Common.{ℕ, ◌≡◌, Bool, true, false, not, ◌||◌, nat_eq, List, length, refl, sym, ap, ◌∙◌, bit_xor}
use Rattle.std.proofs.lemmas.Bool.{eqb-true, eq-eqb, and_parts, and_from}
use Rattle.raid_params.specs.declared.types.Cell.{Cell}
use Rattle.raid_params.specs.declared.types.Part.{Part}
use Rattle.raid_terms.specs.Parity.{in_p, in_q, has_p, has_q, p_holds, q_holds, equations_hold, filled, is_sound_column}
use Rattle.row_parity.specs.Syndromes.{known_sum}
use Rattle.row_parity.proofs.Members.{any_passes, passing}
use Rattle.row_parity.proofs.Fillings.{lost, put, AreBytes, from_filled, put_in_filled}
use Rattle.row_parity.proofs.RowSums.{part_sum, sum_put}

-- these bytes for these parts make the equations hold, where p and q are the sums of what is known
pub record Cancels (has_p has_q : Bool) (parts : List Part) (xs : List ℕ) (p q : ℕ) : Type 0 where
  pub by_p : has_p ≡ true → bit_xor p (part_sum in_p parts xs) ≡ 0
  pub by_q : has_q ≡ true → bit_xor q (part_sum in_q parts xs) ≡ 0

pub holds : (b : Bool) (s : ℕ) → (b ≡ true → s ≡ 0) → (not b || nat_eq s 0) ≡ true
holds true s h = eq-eqb s 0 (h refl)
holds false s h = refl

pub from_holds : (b : Bool) (s : ℕ) → (not b || nat_eq s 0) ≡ true → b ≡ true → s ≡ 0
from_holds true s h e = eqb-true s 0 h
from_holds false s h e = cc

pub p_holds_put : (cells : List Cell) (bytes xs : List ℕ) → length bytes ≡ length cells → AreBytes (lost cells) xs →
    p_holds cells (put cells bytes xs) ≡ (not (has_p cells) || nat_eq (bit_xor (known_sum in_p cells bytes) (part_sum in_p (lost cells) xs)) 0)
p_holds_put cells bytes xs e fit = ap (λ (s : ℕ). not (has_p cells) || nat_eq s 0) (sum_put in_p cells bytes xs e fit)

pub q_holds_put : (cells : List Cell) (bytes xs : List ℕ) → length bytes ≡ length cells → AreBytes (lost cells) xs →
    q_holds cells (put cells bytes xs) ≡ (not (has_q cells) || nat_eq (bit_xor (known_sum in_q cells bytes) (part_sum in_q (lost cells) xs)) 0)
q_holds_put cells bytes xs e fit = ap (λ (s : ℕ). not (has_q cells) || nat_eq s 0) (sum_put in_q cells bytes xs e fit)

-- what the bytes at the missing cells of a column have to do
abbrev pub ColumnCancels : List Cell → List ℕ → List ℕ → Type 0
ColumnCancels cells bytes xs = Cancels (has_p cells) (has_q cells) (lost cells) xs (known_sum in_p cells bytes) (known_sum in_q cells bytes)

pub sound : (cells : List Cell) (bytes xs : List ℕ) → length bytes ≡ length cells → AreBytes (lost cells) xs → ColumnCancels cells bytes xs → is_sound_column cells bytes ≡ true
sound cells bytes xs e fit c =
    any_passes (equations_hold cells) (filled cells bytes) (put cells bytes xs) (put_in_filled cells bytes xs e fit)
    (and_from (p_holds cells (put cells bytes xs)) (q_holds cells (put cells bytes xs))
    (p_holds_put cells bytes xs e fit ∙ holds (has_p cells) (bit_xor (known_sum in_p cells bytes) (part_sum in_p (lost cells) xs)) c.by_p)
    (q_holds_put cells bytes xs e fit ∙ holds (has_q cells) (bit_xor (known_sum in_q cells bytes) (part_sum in_q (lost cells) xs)) c.by_q))

pub from_equations : (cells : List Cell) (bytes xs column : List ℕ) → length bytes ≡ length cells → AreBytes (lost cells) xs → column ≡ put cells bytes xs →
    equations_hold cells column ≡ true → ColumnCancels cells bytes xs
from_equations cells bytes xs column e fit same holding =
    let parts = and_parts (p_holds cells (put cells bytes xs)) (q_holds cells (put cells bytes xs)) (ap (equations_hold cells) (sym same) ∙ holding) in
    record {
      by_p = from_holds (has_p cells) (bit_xor (known_sum in_p cells bytes) (part_sum in_p (lost cells) xs)) (sym (p_holds_put cells bytes xs e fit) ∙ parts.0);
      by_q = from_holds (has_q cells) (bit_xor (known_sum in_q cells bytes) (part_sum in_q (lost cells) xs)) (sym (q_holds_put cells bytes xs e fit) ∙ parts.1);
    }

pub from_sound : (cells : List Cell) (bytes : List ℕ) → length bytes ≡ length cells → is_sound_column cells bytes ≡ true →
    (xs : List ℕ) × AreBytes (lost cells) xs × ColumnCancels cells bytes xs
from_sound cells bytes e s =
    let found = passing (equations_hold cells) (filled cells bytes) s in
    let f = from_filled cells bytes found.0 e found.1 in
    (f.0, f.1, from_equations cells bytes f.0 found.0 e f.1 f.2 found.2)
