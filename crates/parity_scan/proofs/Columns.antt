-- The rows of regions.
use Rattle.std.proofs.Common.{◌≡◌, ℕ, ◌+◌, ◌/◌, ◌<◌, ◌≤◌, Bool, true, false, not, cond, List, length, refl, sym, ap, ◌∙◌, arith, add-one}
use Rattle.std.specs.List.{list_any}
use Rattle.raid_params.specs.declared.types.Cell.{Cell}
use Rattle.raid_params.specs.declared.types.Geometry.{Geometry}
use Rattle.raid_terms.specs.Cells.{row_cells}
use Rattle.raid_terms.specs.Parity.{equations_hold, filled, is_sound, is_sound_column}
use Rattle.row_parity.specs.Regions.{region_column}
use Rattle.member_regions.specs.Regions.{Room}
use Rattle.member_regions.proofs.Counting.{all_same, count_suc, count_grows}
use Rattle.member_regions.proofs.Sets.{row_length}
use Rattle.parity_scan.specs.Block.{is_sound_in, unsound_in}

-- columns that are filled alike are sound alike
pub sound_alike : (cells : List Cell) (f g : ℕ → List ℕ) → ((x : ℕ) → x < 512 → filled cells (f x) ≡ filled cells (g x)) → is_sound cells f ≡ is_sound cells g
unfolding is_sound
sound_alike cells f g same =
    all_same (λ x. is_sound_column cells (f x)) (λ x. is_sound_column cells (g x)) 0 512
    (λ x low high. ap (λ (columns : List (List ℕ)). list_any (equations_hold cells) columns) (same x (omega arith)))

-- the sectors number j are a sound row where they are one of the cells of their row
pub sound_here : (geo : Geometry) (room : Room) (first j : ℕ) (cells : List Cell) → cells ≡ row_cells geo ((first + j) / geo.head.chunk) →
    is_sound cells (region_column (length cells) room.stride room.bytes j) ≡ is_sound_in geo room first j
unfolding is_sound_in
sound_here geo room first j cells are =
    ap (λ (n : ℕ). is_sound cells (region_column n room.stride room.bytes j)) (row_length geo ((first + j) / geo.head.chunk) cells are)
    ∙ ap (λ (cs : List Cell). is_sound cs (region_column (length geo.slots.items) room.stride room.bytes j)) are

-- no row, none unsound
pub unsound_none : (geo : Geometry) (room : Room) (first : ℕ) → unsound_in geo room first 0 ≡ 0
unfolding unsound_in
unsound_none geo room first = refl

-- one more row
pub unsound_more : (geo : Geometry) (room : Room) (first n : ℕ) → unsound_in geo room first (n + 1) ≡ unsound_in geo room first n + cond (not (is_sound_in geo room first n)) 1 0
unfolding unsound_in
unsound_more geo room first n = rw add-one (count_suc (λ j. not (is_sound_in geo room first j)) 0 n n (omega arith))

-- more rows have no fewer unsound ones
pub unsound_grows : (geo : Geometry) (room : Room) (first n m : ℕ) → n ≤ m → unsound_in geo room first n ≤ unsound_in geo room first m
unfolding unsound_in
unsound_grows geo room first n m le = count_grows (λ j. not (is_sound_in geo room first j)) 0 n m le

-- a sound row
pub unsound_sound : (geo : Geometry) (room : Room) (first n m : ℕ) (sound : Bool) → m ≡ n + 1 → sound ≡ is_sound_in geo room first n → sound ≡ true → unsound_in geo room first m ≡ unsound_in geo room first n
unsound_sound geo room first n m sound at is holds =
    ap (unsound_in geo room first) at ∙ unsound_more geo room first n ∙ (let p : is_sound_in geo room first n ≡ true = sym is ∙ holds in rw p (omega arith))

-- an unsound row
pub unsound_unsound : (geo : Geometry) (room : Room) (first n m : ℕ) (sound : Bool) → m ≡ n + 1 → sound ≡ is_sound_in geo room first n → sound ≡ false → unsound_in geo room first m ≡ unsound_in geo room first n + 1
unsound_unsound geo room first n m sound at is fails =
    ap (unsound_in geo room first) at ∙ unsound_more geo room first n ∙ (let p : is_sound_in geo room first n ≡ false = sym is ∙ fails in rw p refl)
