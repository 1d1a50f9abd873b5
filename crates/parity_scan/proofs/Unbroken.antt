-- Where nothing can break a row, none is unsound.
use Rattle.std.proofs.Common.{◌≡◌, ℕ, zero, suc, ◌/◌, Bool, true, not, cond, List, sym, ap, refl, arith, All, Option, None, Some, IfSome}
use Rattle.std.proofs.lemmas.Bool.{eqb-true}
use Rattle.outside.specs.Attached.{told_all}
use Rattle.outside.specs.Seen.{Image, OnlyReads, Seen, TellsBytes}
use Rattle.outside.proofs.Reading.{reads_none, reads_up}
use Rattle.outside.proofs.Told.{told_below}
use Rattle.raid_layouts.proofs.Counts.{both_numbers, count_missing, count_p, count_parity, count_q}
use Rattle.raid_layouts.proofs.Shapes.{shaped_head, shaped_slots}
use Rattle.raid_layouts.proofs.Solvable.{row_is}
use Rattle.raid_params.specs.Size.{redundancy}
use Rattle.raid_params.specs.Slots.{empties}
use Rattle.raid_params.specs.declared.types.Geometry.{Geometry}
use Rattle.raid_terms.specs.Cells.{row_cells}
use Rattle.raid_terms.specs.Parity.{is_sound_row, member_column, passes_parity, tested_rows, unsound_rows}
use Rattle.raid_terms.specs.Role.{turn}
use Rattle.row_parity.proofs.Soundness.{sound_where_full}
use Rattle.member_regions.proofs.ColumnBytes.{member_columns}
use Rattle.member_regions.proofs.Counting.{count_suc}
use Rattle.member_regions.specs.Members.{HoldBytes, IsTestable}
use Rattle.parity_scan.specs.Scan.{is_unbreakable, IsScannable}
use Rattle.parity_scan.proofs.Parity.{at_most}
use Rattle.parity_scan.proofs.Sets.{scannable_testable}

-- a row of a set that nothing can break
sound_row : (images : List (List ℕ)) (geo : Geometry) (t : ℕ) → HoldBytes images → IsTestable geo → is_unbreakable geo ≡ true → is_sound_row images geo t ≡ true
sound_row images geo t bytes set none =
    let valid = shaped_head geo set.images set.shaped in
    let long = shaped_slots geo set.images set.shaped in
    let equal : empties geo.slots.items ≡ redundancy geo.head.level = eqb-true (empties geo.slots.items) (redundancy geo.head.level) none in
    let p = count_p geo.head (t / geo.head.chunk) geo.slots.items valid long in
    let q = count_q geo.head (t / geo.head.chunk) geo.slots.items valid long in
    let all = both_numbers geo.head.level geo.head.pattern geo.head.members (turn geo.head (t / geo.head.chunk)) in
    let missing = count_missing geo.head (t / geo.head.chunk) 0 geo.slots.items in
    let parity = count_parity (row_cells geo (t / geo.head.chunk)) in
    sound_where_full (row_cells geo (t / geo.head.chunk)) (member_column images geo t) (row_is geo set.images (t / geo.head.chunk) set.shaped)
    (member_columns images geo t (t / geo.head.chunk) (row_cells geo (t / geo.head.chunk)) bytes refl)
    (omega arith)

-- so none are unsound
pub none_unsound : (images : List (List ℕ)) (geo : Geometry) (n : ℕ) → HoldBytes images → IsTestable geo → is_unbreakable geo ≡ true → unsound_rows images geo n ≡ 0
none_unsound images geo zero bytes set none = refl
none_unsound images geo (suc n) bytes set none =
    let more = count_suc (λ t. not (is_sound_row images geo t)) 0 n n (omega arith) in
    let here = ap {B = ℕ} (λ (b : Bool). cond (not b) 1 0) (sound_row images geo n bytes set none) in
    let before = none_unsound images geo n bytes set none in
    omega arith

-- over the bytes of the images
pub none_told : (attached : List Image) (geo : Geometry) (n : ℕ) → All TellsBytes attached → IsTestable geo → is_unbreakable geo ≡ true → IfSome (told_all attached) (λ bytes. 0 ≡ unsound_rows bytes geo n)
none_told attached geo n tells set none = by_told (told_all attached) refl
  where
    by_told : (told : Option (List (List ℕ))) → told_all attached ≡ told → IfSome told (λ bytes. 0 ≡ unsound_rows bytes geo n)
    by_told None e = tt
    by_told (Some bytes) e = sym (none_unsound bytes geo n (λ i k. told_below attached bytes i k tells e) set none)

-- such a set passes the parity test over the bytes of its images, however few rows may be unsound
pub unbreakable_passes : (attached : List Image) (geo : Geometry) (end window badrows : ℕ) → All TellsBytes attached → IsScannable geo end attached → is_unbreakable geo ≡ true →
    IfSome (told_all attached) (λ bytes. passes_parity bytes geo end window badrows ≡ true)
unbreakable_passes attached geo end window badrows tells set none = by_told (told_all attached) refl
  where
    by_told : (told : Option (List (List ℕ))) → told_all attached ≡ told → IfSome told (λ bytes. passes_parity bytes geo end window badrows ≡ true)
    by_told None e = tt
    by_told (Some bytes) e =
        let no = none_unsound bytes geo (tested_rows geo end window) (λ i k. told_below attached bytes i k tells e) (scannable_testable geo end attached set) none in
        at_most (unsound_rows bytes geo (tested_rows geo end window)) badrows (omega arith)

-- nothing is read
pub reads_nothing : (seen : Seen) (n : ℕ) → OnlyReads seen seen n
reads_nothing seen n = reads_up seen seen (reads_none seen) (omega arith)
