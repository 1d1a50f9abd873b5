-- What passes of the product, tried on small arrays whose answers were worked out by hand.
use Rattle.std.proofs.Common.{◌≡◌, ◌<◌, ◌+◌, ◌*◌, ℕ, zero, suc, Bool, true, false, ◌&&◌, not, nat_le, count_by, List, [], ◌∷◌, ◌++◌, length, map, filter, refl, ap, sym, arith, ◌∙◌, Some, replicate, get_or, slice_get, slice_index, slice_index_or}
use Rattle.std.proofs.lemmas.List.{get_or-append-add, get_or_append_left, get_or-replicate, length-replicate}
use Rattle.std.specs.Option.{option_map_or}
use Rattle.std.specs.List.{list_all, range_with_len}
use Rattle.raid_params.specs.declared.types.Bounds.{Bounds}
use Rattle.raid_params.specs.declared.types.Geometry.{Geometry}
use Rattle.raid_params.specs.declared.types.Head.{Head}
use Rattle.raid_params.specs.declared.types.Level.{Level}
use Rattle.raid_params.specs.declared.types.Level.TheVariants.{Raid5}
use Rattle.raid_params.specs.declared.types.Pattern.{Pattern}
use Rattle.raid_params.specs.declared.types.Pattern.TheVariants.{La, Ls, ParityLast}
use Rattle.raid_params.specs.declared.types.Syndrome.TheVariants.{NoQ}
use Rattle.raid_params.specs.declared.types.Cell.{Cell}
use Rattle.raid_terms.specs.Cells.{row_cells}
use Rattle.raid_terms.specs.Parity.{passes_parity, is_sound, is_sound_column, is_sound_row, member_column, filled, sum_of}
use Rattle.search_terms.specs.Product.{heads, product}
use Rattle.raid_params.specs.Validity.{is_chunk}
use Rattle.search_terms.specs.SlotLists.{all_lists}
use Rattle.raid_params.specs.Slots.{stands, is_distinct, empties}

bounds_of : List Level → List ℕ → List Pattern → ℕ → ℕ → Bounds
bounds_of levels members patterns missing foreign = record {
  levels = record { items = levels };
  members = record { items = members };
  patterns = record { items = patterns };
  delays = record { items = 1 ∷ [] };
  syndromes = record { items = NoQ ∷ [] };
  chunks = record { items = 1 ∷ [] };
  offsets = record { items = 0 ∷ [] };
  missing = missing;
  foreign = foreign;
}

-- left-symmetric over three members, one sector a chunk
three : Bounds
three = bounds_of (Raid5 ∷ []) (3 ∷ []) (Ls ∷ []) 0 0

-- each pattern comes with all delays before the next pattern does, and parity that does not move has the delay 1 alone
rotation_of : Head → Pattern × ℕ
rotation_of head = (head.pattern, head.delay)

two_delays : map rotation_of (heads (record (bounds_of (Raid5 ∷ []) (3 ∷ []) (La ∷ ParityLast ∷ []) 0 0) { delays = record { items = 1 ∷ 2 ∷ [] } })) ≡
    (La, 1) ∷ (La, 2) ∷ (ParityLast, 1) ∷ []
unfolding bounds_of rotation_of is_chunk
two_delays = refl

sector : ℕ → List ℕ
sector byte = replicate 512 byte

-- the set of a rank meets the parity test, over members of two sectors
rank_passes : List (List ℕ) → Bounds → ℕ → ℕ → Bool
rank_passes images bounds bad_rows rank = option_map_or (λ geo. passes_parity images geo 2 2 bad_rows) (slice_get (product (length images) bounds) rank) false

passing_ranks : List (List ℕ) → Bounds → ℕ → ℕ → List ℕ
passing_ranks images bounds bad_rows total = filter (rank_passes images bounds bad_rows) (range_with_len 0 total)

a : List ℕ
a = sector 1 ++ sector 2

b : List ℕ
b = sector 3 ++ sector 4

c : List ℕ
c = sector 2 ++ sector 6

c_changed : List ℕ
c_changed = sector 2 ++ sector 7

-- a test that answers alike on all numbers of a range
and_twice : (b : Bool) → (b && b) ≡ b
and_twice true = refl
and_twice false = refl

all_alike : (test : ℕ → Bool) (b : Bool) (from n : ℕ) → ((x : ℕ) → x < from + suc n → test x ≡ b) → list_all test (range_with_len from (suc n)) ≡ b
all_alike test true from zero alike = ap (λ t. t && true) (alike from (omega arith))
all_alike test false from zero alike = ap (λ t. t && true) (alike from (omega arith))
all_alike test b from (suc n) alike =
    ap (λ t. test from && t) (all_alike test b (from + 1) n (λ x below. alike x (omega arith)))
    ∙ ap (λ t. t && b) (alike from (omega arith))
    ∙ and_twice b

-- a row whose columns are alike is as sound as one of them
alike_columns : (cells : List Cell) (column : ℕ → List ℕ) (bytes : List ℕ) → ((x : ℕ) → x < 512 → column x ≡ bytes) → is_sound cells column ≡ is_sound_column cells bytes
unfolding is_sound
alike_columns cells column bytes alike =
    all_alike (λ x. is_sound_column cells (column x)) (is_sound_column cells bytes) 0 511 (λ x below. ap (is_sound_column cells) (alike x (omega arith)))

-- the bytes of an image of two sectors
in_front : (n u v at : ℕ) → at < n → get_or (replicate n u ++ replicate n v) at 0 ≡ u
in_front n u v at below = get_or_append_left (replicate n u) (replicate n v) 0 at (omega (arith, length-replicate n u)) ∙ get_or-replicate n at u 0 below

in_back : (n u v at i : ℕ) → at < n → i ≡ n + at → get_or (replicate n u ++ replicate n v) i 0 ≡ v
in_back n u v at i below is =
    ap (λ (k : ℕ). get_or (replicate n u ++ replicate n v) k 0) (is ∙ ap (λ (k : ℕ). k + at) (sym (length-replicate n u)))
    ∙ get_or-append-add (replicate n u) (replicate n v) at 0
    ∙ get_or-replicate n at v 0 below

in_first : (u v x : ℕ) → x < 512 → slice_index (sector u ++ sector v) (512 * (0 + 0) + x) ≡ u
unfolding sector
in_first u v x below =
    let at : 512 * (0 + 0) + x ≡ x = omega arith in
    ap (λ (i : ℕ). get_or (replicate 512 u ++ replicate 512 v) i 0) at ∙ in_front 512 u v x below

in_second : (u v x : ℕ) → x < 512 → slice_index (sector u ++ sector v) (512 * (0 + 1) + x) ≡ v
unfolding sector
in_second u v x below = in_back 512 u v x (512 * (0 + 1) + x) below (omega arith)

-- the set of three images in this order
in_order : ℕ → ℕ → ℕ → Geometry
in_order i j k = record { head = record { level = Raid5; members = 3; pattern = Ls; delay = 1; syndrome = NoQ; chunk = 1; offset = 0 }; slots = record { items = Some i ∷ Some j ∷ Some k ∷ [] } }

first_row : (images : List (List ℕ)) (i j k u v w u' v' w' : ℕ) → slice_index_or images i [] ≡ sector u ++ sector u' → slice_index_or images j [] ≡ sector v ++ sector v' → slice_index_or images k [] ≡ sector w ++ sector w' →
    is_sound_row images (in_order i j k) 0 ≡ is_sound_column (row_cells (in_order i j k) 0) (u ∷ v ∷ w ∷ [])
unfolding in_order
first_row images i j k u v w u' v' w' at_i at_j at_k =
    alike_columns (row_cells (in_order i j k) 0) (member_column images (in_order i j k) 0) (u ∷ v ∷ w ∷ []) (λ x below.
    rw (at_i, at_j, at_k, in_first u u' x below, in_first v v' x below, in_first w w' x below) refl)

second_row : (images : List (List ℕ)) (i j k u v w u' v' w' : ℕ) → slice_index_or images i [] ≡ sector u ++ sector u' → slice_index_or images j [] ≡ sector v ++ sector v' → slice_index_or images k [] ≡ sector w ++ sector w' →
    is_sound_row images (in_order i j k) 1 ≡ is_sound_column (row_cells (in_order i j k) 1) (u' ∷ v' ∷ w' ∷ [])
unfolding in_order
second_row images i j k u v w u' v' w' at_i at_j at_k =
    alike_columns (row_cells (in_order i j k) 1) (member_column images (in_order i j k) 1) (u' ∷ v' ∷ w' ∷ []) (λ x below.
    rw (at_i, at_j, at_k, in_second u u' x below, in_second v v' x below, in_second w w' x below) refl)

-- whether a column of each row is sound says whether the set passes
passes_as : (images : List (List ℕ)) (i j k bad_rows : ℕ) (first second : Bool) → is_sound_row images (in_order i j k) 0 ≡ first → is_sound_row images (in_order i j k) 1 ≡ second →
    passes_parity images (in_order i j k) 2 2 bad_rows ≡ nat_le (count_by (λ b. not b) (first ∷ second ∷ [])) bad_rows
unfolding in_order
passes_as images i j k bad_rows first second one two = rw (one, two) refl

passes_by : (images : List (List ℕ)) (i j k u v w u' v' w' bad_rows : ℕ) → slice_index_or images i [] ≡ sector u ++ sector u' → slice_index_or images j [] ≡ sector v ++ sector v' → slice_index_or images k [] ≡ sector w ++ sector w' →
    passes_parity images (in_order i j k) 2 2 bad_rows
    ≡ nat_le (count_by (λ b. not b) (is_sound_column (row_cells (in_order i j k) 0) (u ∷ v ∷ w ∷ []) ∷ is_sound_column (row_cells (in_order i j k) 1) (u' ∷ v' ∷ w' ∷ []) ∷ [])) bad_rows
passes_by images i j k u v w u' v' w' bad_rows at_i at_j at_k =
    passes_as images i j k bad_rows _ _ (first_row images i j k u v w u' v' w' at_i at_j at_k) (second_row images i j k u v w u' v' w' at_i at_j at_k)

-- 1 + 3 + 2 and 2 + 4 + 6 cancel bit by bit, so every order passes: here the first and the last
first_passes : rank_passes (a ∷ b ∷ c ∷ []) three 0 0 ≡ true
unfolding a b c in_order rank_passes bounds_of three all_lists stands is_distinct empties is_chunk filled sum_of
first_passes = passes_by (a ∷ b ∷ c ∷ []) 0 1 2 1 3 2 2 4 6 0 refl refl refl

last_passes : rank_passes (a ∷ b ∷ c ∷ []) three 0 5 ≡ true
unfolding a b c in_order rank_passes bounds_of three all_lists stands is_distinct empties is_chunk filled sum_of
last_passes = passes_by (a ∷ b ∷ c ∷ []) 2 1 0 2 3 1 6 4 2 0 refl refl refl

-- 2, 4 and 7 do not, in any order
changed : List (List ℕ)
changed = a ∷ b ∷ c_changed ∷ []

changed_0 : (bad_rows : ℕ) → rank_passes changed three bad_rows 0 ≡ nat_le 1 bad_rows
unfolding changed a b c_changed in_order rank_passes bounds_of three all_lists stands is_distinct empties is_chunk filled sum_of
changed_0 bad_rows = passes_by changed 0 1 2 1 3 2 2 4 7 bad_rows refl refl refl

changed_1 : (bad_rows : ℕ) → rank_passes changed three bad_rows 1 ≡ nat_le 1 bad_rows
unfolding changed a b c_changed in_order rank_passes bounds_of three all_lists stands is_distinct empties is_chunk filled sum_of
changed_1 bad_rows = passes_by changed 0 2 1 1 2 3 2 7 4 bad_rows refl refl refl

changed_2 : (bad_rows : ℕ) → rank_passes changed three bad_rows 2 ≡ nat_le 1 bad_rows
unfolding changed a b c_changed in_order rank_passes bounds_of three all_lists stands is_distinct empties is_chunk filled sum_of
changed_2 bad_rows = passes_by changed 1 0 2 3 1 2 4 2 7 bad_rows refl refl refl

changed_3 : (bad_rows : ℕ) → rank_passes changed three bad_rows 3 ≡ nat_le 1 bad_rows
unfolding changed a b c_changed in_order rank_passes bounds_of three all_lists stands is_distinct empties is_chunk filled sum_of
changed_3 bad_rows = passes_by changed 1 2 0 3 2 1 4 7 2 bad_rows refl refl refl

changed_4 : (bad_rows : ℕ) → rank_passes changed three bad_rows 4 ≡ nat_le 1 bad_rows
unfolding changed a b c_changed in_order rank_passes bounds_of three all_lists stands is_distinct empties is_chunk filled sum_of
changed_4 bad_rows = passes_by changed 2 0 1 2 1 3 7 2 4 bad_rows refl refl refl

changed_5 : (bad_rows : ℕ) → rank_passes changed three bad_rows 5 ≡ nat_le 1 bad_rows
unfolding changed a b c_changed in_order rank_passes bounds_of three all_lists stands is_distinct empties is_chunk filled sum_of
changed_5 bad_rows = passes_by changed 2 1 0 2 3 1 7 4 2 bad_rows refl refl refl

changed_ranks : (bad_rows : ℕ) → passing_ranks changed three bad_rows 6 ≡ filter (λ rank. nat_le 1 bad_rows) (range_with_len 0 6)
unfolding passing_ranks
changed_ranks bad_rows = rw (changed_0 bad_rows, changed_1 bad_rows, changed_2 bad_rows, changed_3 bad_rows, changed_4 bad_rows, changed_5 bad_rows) refl

none_pass : passing_ranks (a ∷ b ∷ c_changed ∷ []) three 0 6 ≡ []
unfolding changed
none_pass = changed_ranks 0

-- unless one row may be unsound
one_bad_row : passing_ranks (a ∷ b ∷ c_changed ∷ []) three 1 6 ≡ 0 ∷ 1 ∷ 2 ∷ 3 ∷ 4 ∷ 5 ∷ []
unfolding changed
one_bad_row = changed_ranks 1
