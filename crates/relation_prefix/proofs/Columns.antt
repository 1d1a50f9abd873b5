-- What a sound row of a set says of each of its columns.
use Rattle.std.proofs.Common.{ℕ, zero, suc, ◌≡◌, ◌≢◌, ◌<◌, ◌≤◌, ◌+◌, Bool, true, false, not, List, Option, None, Some, length, refl, ◌∙◌, arith, subst, inl, inr, bit_xor}
use Rattle.std.proofs.lemmas.Bool.{and_parts, cases_lt}
use Rattle.std.specs.List.{AllByRecursion, count_by, find, list_all, range_with_len}
use Rattle.std.specs.Option.{option_map}
use Rattle.gf256.specs.Field.{power_of, product}
use Rattle.raid_layouts.proofs.Counts.{both_numbers, count_p, count_parity, count_q, counted_any, number}
use Rattle.raid_layouts.proofs.Shapes.{shaped_head, shaped_slots}
use Rattle.raid_layouts.proofs.Solvable.{row_is}
use Rattle.raid_params.specs.Size.{redundancy}
use Rattle.raid_params.specs.Validity.{is_shaped}
use Rattle.raid_params.specs.declared.types.Cell.{Cell}
use Rattle.raid_params.specs.declared.types.Geometry.{Geometry}
use Rattle.raid_params.specs.declared.types.Level.{Level}
use Rattle.raid_params.specs.declared.types.Level.TheVariants.{Raid0, Raid5, Raid6}
use Rattle.raid_params.specs.declared.types.Part.{Part}
use Rattle.raid_params.specs.declared.types.Part.TheVariants.{Block, P, Q}
use Rattle.raid_params.specs.declared.types.Pattern.{Pattern}
use Rattle.raid_terms.specs.Cells.{row_cells}
use Rattle.raid_terms.specs.Parity.{has_q, in_p, in_q, is_data, is_q, is_sound, is_sound_column}
use Rattle.raid_terms.specs.Role.{q_at, turn}
use Rattle.row_parity.specs.Syndromes.{known_sum}
use Rattle.row_parity.proofs.Soundness.{sound_where_whole, sound_without_data, sound_without_p, sound_without_q, NotFull}
use Rattle.relation_prefix.specs.declared.equation.Equation.{Equation}
use Rattle.relation_prefix.specs.declared.equation.Equation.TheVariants.{OfP, OfQ, QByP}
use Rattle.relation_prefix.specs.Equations.{left_without}

pub all_at : (f : ℕ → Bool) (a n : ℕ) → list_all f (range_with_len a n) ≡ true → (x : ℕ) → a ≤ x → x < a + n → f x ≡ true
all_at f a zero h x low high = absurd (omega arith)
all_at f a (suc n) h x low high =
    let both = and_parts (f a) (list_all f (range_with_len (a + 1) n)) h in
    elim (cases_lt a x) [
      | inl above ↦ all_at f (a + 1) n both.1 x (omega arith) (omega arith)
      | inr here ↦ (let e : a ≡ x = omega arith in subst (λ (y : ℕ). f y ≡ true) e both.0)
    ]

all_true : (n a : ℕ) → list_all (λ (x : ℕ). true) (range_with_len a n) ≡ true
all_true zero a = refl
all_true (suc n) a = all_true n (a + 1)

all_same : (b : Bool) → list_all (λ (x : ℕ). b) (range_with_len 0 512) ≡ b
all_same true = all_true 512 0
all_same false = refl

-- a row of which all columns are the same is sound where this one is
one_column : (cells : List Cell) (bytes : List ℕ) → is_sound cells (λ x. bytes) ≡ is_sound_column cells bytes
unfolding is_sound
one_column cells bytes = all_same (is_sound_column cells bytes)

-- each column of a sound row is sound
pub each_column : (cells : List Cell) (column : ℕ → List ℕ) → is_sound cells column ≡ true → (x : ℕ) → x < 512 → is_sound_column cells (column x) ≡ true
unfolding is_sound
each_column cells column h x lt = all_at (λ y. is_sound_column cells (column y)) 0 512 h x (omega arith) (omega arith)

level_q : (level : Level) (pattern : Pattern) (n row : ℕ) → level ≡ Raid6 → number (q_at level pattern n row) ≡ 1
level_q Raid0 pattern n row e = absurd (cc)
level_q Raid5 pattern n row e = absurd (cc)
level_q Raid6 pattern n row e = refl

pub q_at_six : (geo : Geometry) (images row : ℕ) → is_shaped geo images ≡ true → geo.head.level ≡ Raid6 → has_q (row_cells geo row) ≡ true
q_at_six geo images row shaped six =
    let count = count_q geo.head row geo.slots.items (shaped_head geo images shaped) (shaped_slots geo images shaped) in
    let one = level_q geo.head.level geo.head.pattern geo.head.members (turn geo.head row) six in
    counted_any (λ c. is_q c.part) (row_cells geo row) (omega arith)

parity_of : (geo : Geometry) (images row : ℕ) → is_shaped geo images ≡ true → count_by (λ c. not (is_data c.part)) (row_cells geo row) ≡ redundancy geo.head.level
parity_of geo images row shaped =
    let valid = shaped_head geo images shaped in
    let long = shaped_slots geo images shaped in
    let p = count_p geo.head row geo.slots.items valid long in
    let q = count_q geo.head row geo.slots.items valid long in
    let parity = count_parity (row_cells geo row) in
    let all = both_numbers geo.head.level geo.head.pattern geo.head.members (turn geo.head row) in
    omega arith

-- fewer are missing than the level survives
abbrev pub IsOpen : Geometry → ℕ → Type 0
IsOpen geo row = count_by (λ c. c.missing) (row_cells geo row) ≢ redundancy geo.head.level

not_full : (geo : Geometry) (images row : ℕ) → is_shaped geo images ≡ true → IsOpen geo row → NotFull (row_cells geo row)
not_full geo images row shaped less = λ e. less (e ∙ parity_of geo images row shaped)

abbrev pub IsFirstLost : Geometry → ℕ → Option Part → Type 0
IsFirstLost geo row o = o ≡ option_map (λ c. c.part) (find (λ c. c.missing) (row_cells geo row))

-- the sums of an equation over the cells that are there
abbrev pub Cancels : Equation → List Cell → List ℕ → Type 0
Cancels OfP cells bytes = known_sum in_p cells bytes ≡ 0
Cancels OfQ cells bytes = known_sum in_q cells bytes ≡ 0
Cancels (QByP k) cells bytes = bit_xor (known_sum in_q cells bytes) (product (power_of k) (known_sum in_p cells bytes)) ≡ 0

module _ (geo : Geometry) (images row : ℕ) (shaped : is_shaped geo images ≡ true) (less : IsOpen geo row) (bytes : List ℕ) (long : length bytes ≡ length (row_cells geo row))
    (fits : AllByRecursion (λ b. b < 256) bytes) (sound : is_sound_column (row_cells geo row) bytes ≡ true) where
  pub p_cancels : IsFirstLost geo row None → Cancels OfP (row_cells geo row) bytes
  p_cancels first =
      ((sound_where_whole (row_cells geo row) (λ x. bytes) None (row_is geo images row shaped) (not_full geo images row shaped less) (λ x. (long, fits)) first refl).0
      (one_column (row_cells geo row) bytes ∙ sound)).0 0 (omega arith)

  pub q_cancels : IsFirstLost geo row None → geo.head.level ≡ Raid6 → Cancels OfQ (row_cells geo row) bytes
  q_cancels first six =
      ((sound_where_whole (row_cells geo row) (λ x. bytes) None (row_is geo images row shaped) (not_full geo images row shaped less) (λ x. (long, fits)) first refl).0
      (one_column (row_cells geo row) bytes ∙ sound)).1 (q_at_six geo images row shaped six) 0 (omega arith)

  pub left_cancels : (part : Part) → IsFirstLost geo row (Some part) → Cancels (left_without part) (row_cells geo row) bytes
  left_cancels P first =
      (sound_without_p (row_cells geo row) (λ x. bytes) (Some P) (row_is geo images row shaped) (not_full geo images row shaped less) (λ x. (long, fits)) first refl).0
      (one_column (row_cells geo row) bytes ∙ sound) 0 (omega arith)
  left_cancels Q first =
      (sound_without_q (row_cells geo row) (λ x. bytes) (Some Q) (row_is geo images row shaped) (not_full geo images row shaped less) (λ x. (long, fits)) first refl).0
      (one_column (row_cells geo row) bytes ∙ sound) 0 (omega arith)
  left_cancels (Block k) first =
      (sound_without_data (row_cells geo row) (λ x. bytes) (Some (Block k)) k (row_is geo images row shaped) (not_full geo images row shaped less) (λ x. (long, fits)) first refl).0
      (one_column (row_cells geo row) bytes ∙ sound) 0 (omega arith)
