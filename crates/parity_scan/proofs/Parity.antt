-- The rows of a block are those of the array.
use Rattle.std.proofs.Common.{◌≡◌, ℕ, zero, suc, ◌+◌, ◌*◌, ◌/◌, ◌<◌, ◌≤◌, Bool, true, false, not, cond, List, length, get_or, ap, ◌∙◌, arith, IfSome, Some, None}
use Rattle.std.specs.Prelude.{nat_le}
use Rattle.std.proofs.lemmas.Bool.Decides.{nat_tests}
use Rattle.std.specs.declared.option.Option.{Option}
use Rattle.raid_params.specs.declared.types.Geometry.{Geometry}
use Rattle.raid_terms.specs.Cells.{row_cells}
use Rattle.raid_terms.specs.Parity.{is_sound_row, member_byte, member_column, unsound_rows}
use Rattle.row_parity.specs.Regions.{region_column}
use Rattle.member_regions.specs.Regions.{HoldRead, Room}
use Rattle.parity_scan.specs.Block.{is_sound_in, unsound_in}
use Rattle.member_regions.proofs.Counting.{count_suc}
use Rattle.member_regions.proofs.Alike.{filled_alike, later_byte}
use Rattle.parity_scan.proofs.Columns.{sound_alike, unsound_none, unsound_more}

-- a row of a block is that of the array
held_sound : (images : List (List ℕ)) (geo : Geometry) (first count : ℕ) (room : Room) (j : ℕ) →
    HoldRead images geo.slots.items geo.head.offset room.stride first (512 * count) (length geo.slots.items) room.bytes → j < count → is_sound_in geo room first j ≡ is_sound_row images geo (first + j)
unfolding is_sound_in
held_sound images geo first count room j hold below =
    sound_alike (row_cells geo ((first + j) / geo.head.chunk)) (region_column (length geo.slots.items) room.stride room.bytes j) (member_column images geo (first + j))
    (λ x inside. filled_alike (member_byte images geo.head.offset (first + j) x) (λ i. get_or room.bytes (room.stride * i + (512 * j + x)) 0) geo.head ((first + j) / geo.head.chunk) 0 0 geo.slots.items
    (λ i within there. let at : 0 + i ≡ i = omega arith in rw at (hold i (512 * j + x) within (omega arith) there) ∙ later_byte images geo.head.offset first j x (get_or geo.slots.items i None)))

-- the unsound rows of the block come after those before it
pub unsound_after : (images : List (List ℕ)) (geo : Geometry) (first count : ℕ) (room : Room) (n : ℕ) →
    HoldRead images geo.slots.items geo.head.offset room.stride first (512 * count) (length geo.slots.items) room.bytes → n ≤ count → unsound_rows images geo (first + n) ≡ unsound_rows images geo first + unsound_in geo room first n
unsound_after images geo first count room zero hold le =
    let at : first + 0 ≡ first = omega arith in
    rw at (omega (arith, unsound_none geo room first))
unsound_after images geo first count room (suc n) hold le =
    let on : first + suc n ≡ suc (first + n) = omega arith in
    let whole = count_suc (λ t. not (is_sound_row images geo t)) 0 (first + n) (first + n) (omega arith) in
    let block = unsound_more geo room first n in
    let same = ap {B = ℕ} (λ (b : Bool). cond (not b) 1 0) (held_sound images geo first count room n hold (omega arith)) in
    let before = unsound_after images geo first count room n hold (omega arith) in
    let one : n + 1 ≡ suc n = omega arith in
    let block' = rw one at block in
    rw on (omega (arith, whole, block', same, before))

-- after a block, where its bytes are known
pub told_after : (told : Option (List (List ℕ))) (geo : Geometry) (first count n : ℕ) (room : Room) →
    IfSome told (λ bytes. HoldRead bytes geo.slots.items geo.head.offset room.stride first (512 * count) (length geo.slots.items) room.bytes) → n ≡ unsound_in geo room first count →
    IfSome told (λ bytes. unsound_rows bytes geo (first + count) ≡ unsound_rows bytes geo first + n)
told_after None geo first count n room hold is = tt
told_after (Some bytes) geo first count n room hold is = omega (arith, unsound_after bytes geo first count room count hold (omega arith))

pub at_most : (n m : ℕ) → n ≤ m → nat_le n m ≡ true
at_most n m le = grind (arith, nat_tests)

pub above : (n m : ℕ) → m < n → nat_le n m ≡ false
above n m lt = grind (arith, nat_tests)
