-- A row in which no cell is missing, by P's test of it.
use Rattle.std.proofs.Common.{ℕ, ◌≡◌, ◌<◌, ◌+◌, ◌*◌, ◌/◌, Bool, true, false, ◌&&◌, cond, List, [], ◌∷◌, suc, length, map, get_or, min, refl, sym, ap, subst, ◌∙◌, arith, Option, Some, None, IfSome, IsSomeAnd}
use Rattle.std.proofs.lemmas.List.{length-map}
use Rattle.std.specs.Bool.{Decides}
use Rattle.std.specs.List.{AllByRecursion}
use Rattle.raid_params.specs.declared.types.Cell.{Cell}
use Rattle.raid_params.specs.declared.types.Geometry.{Geometry}
use Rattle.raid_params.specs.declared.types.Part.{Part}
use Rattle.raid_terms.specs.Cells.{row_cells}
use Rattle.raid_terms.specs.Parity.{filled, has_q, in_p, in_q, is_sound, is_sound_row, IsRow, member_byte, member_column}
use Rattle.row_parity.specs.Syndromes.{AllCancel, AreColumns, Cancel, known_sum}
use Rattle.row_parity.proofs.Shapes.{length_lost, parity_count}
use Rattle.row_parity.proofs.Soundness.{lost_none, NotFull, sound_where_whole}
use Rattle.member_regions.proofs.Sets.{row_length, testable_row}
use Rattle.member_regions.specs.Members.{IsTestable}
use Rattle.member_regions.specs.Regions.{Room}
use Rattle.parity_scan.specs.ImageRows.{HoldsSet}
use Rattle.member_regions.specs.ImageSums.{room_byte}
use Rattle.parity_scan.specs.ChunkRows.{IsChunkRow}
use Rattle.parity_scan.specs.ImageSums.{AddsAllBut, held_byte, IsWhole, slots_column}
use Rattle.parity_scan.specs.declared.left_out.ChunkRow.{ChunkRow}
use Rattle.parity_scan.specs.declared.left_out.LeftOut.{LeftOut}
use Rattle.parity_scan.specs.declared.runs.Run.{Run}
use Rattle.parity_scan.proofs.Columns.{sound_alike}

-- fewer cells are missing than hold parity
not_full : (cells : List Cell) (slots : List (Option ℕ)) (n : ℕ) → IsRow cells → IsWhole cells slots n → NotFull cells
not_full cells slots n row whole =
    let none = lost_none cells None (sym whole.there) refl in
    let missing = sym (length_lost cells) ∙ ap (λ (ps : List Part). length ps) none in
    let parity = parity_count cells row in
    λ same. absurd (let one = sym missing ∙ same ∙ parity ∙ ap (λ (b : Bool). cond b 1 0 + cond (has_q cells) 1 0) whole.p in omega arith)

slots_fit : (f : ℕ → ℕ) (slots : List (Option ℕ)) (n : ℕ) → ((image : ℕ) → image < n → f image < 256) → ((k : ℕ) (d : Option ℕ) → k < length slots → IsSomeAnd (get_or slots k d) (λ image. image < n)) →
    AllByRecursion (λ b. b < 256) (map (held_byte f) slots)
slots_fit f [] n bytes held = tt
slots_fit f (None ∷ slots) n bytes held = absurd (held 0 None (omega arith))
slots_fit f (Some image ∷ slots) n bytes held = (bytes image (held 0 None (omega arith)), slots_fit f slots n bytes (λ k d below. held (suc k) d (omega arith)))

-- the columns of a sector, and the last of them again after it
abbrev cut : Room → List (Option ℕ) → ℕ → ℕ → List ℕ
cut room slots place x = slots_column room slots place (min x 511)

-- the bytes of the images at a place
abbrev pub HasBytesAt : Room → ℕ → ℕ → Type 0
HasBytesAt room n place = (image x : ℕ) → image < n → x < 512 → room_byte room (512 * place + x) image < 256

cut_columns : (cells : List Cell) (slots : List (Option ℕ)) (n place : ℕ) (room : Room) → length cells ≡ length slots → IsWhole cells slots n → HasBytesAt room n place → AreColumns cells (cut room slots place)
cut_columns cells slots n place room long whole bytes = λ x. (
  length-map slots (held_byte (room_byte room (512 * place + min x 511))) ∙ sym long,
  slots_fit (room_byte room (512 * place + min x 511)) slots n (λ image inside. bytes image (min x 511) inside (omega arith)) whole.held,
)

cut_here : (x : ℕ) → x < 512 → min x 511 ≡ x
cut_here x below = omega arith

uncut : (adds : Part → ℕ → ℕ) (cells : List Cell) (slots : List (Option ℕ)) (place : ℕ) (room : Room) → Cancel adds cells (cut room slots place) → Cancel adds cells (slots_column room slots place)
uncut adds cells slots place room cancel = λ x below. subst (λ (k : ℕ). known_sum adds cells (slots_column room slots place k) ≡ 0) (cut_here x below) (cancel x below)

recut : (adds : Part → ℕ → ℕ) (cells : List Cell) (slots : List (Option ℕ)) (place : ℕ) (room : Room) → Cancel adds cells (slots_column room slots place) → Cancel adds cells (cut room slots place)
recut adds cells slots place room cancel = λ x below. subst (λ (k : ℕ). known_sum adds cells (slots_column room slots place k) ≡ 0) (sym (cut_here x below)) (cancel x below)

-- it is sound where both equations hold
whole_decides : (cells : List Cell) (slots : List (Option ℕ)) (n place : ℕ) (room : Room) → IsRow cells → length cells ≡ length slots → IsWhole cells slots n → HasBytesAt room n place →
    Decides (is_sound cells (slots_column room slots place)) (AllCancel cells (slots_column room slots place))
whole_decides cells slots n place room row long whole bytes =
    let d = sound_where_whole cells (cut room slots place) None row (not_full cells slots n row whole) (cut_columns cells slots n place room long whole bytes) (sym whole.there) refl in
    let same : is_sound cells (cut room slots place) ≡ is_sound cells (slots_column room slots place) =
    sound_alike cells (cut room slots place) (slots_column room slots place) (λ x below. ap (λ (k : ℕ). filled cells (slots_column room slots place k)) (cut_here x below)) in (
      λ sound. let both = d.0 (same ∙ sound) in (uncut in_p cells slots place room both.0, λ q. uncut in_q cells slots place room (both.1 q)),
      λ both. sym same ∙ d.1 (recut in_p cells slots place room both.0, λ q. recut in_q cells slots place room (both.1 q)),
    )

by_p : (sound holds q : Bool) (P Q : Type 0) → Decides holds P → Decides sound (P × (q ≡ true → Q)) → (holds && q) ≡ false → holds ≡ sound
by_p true true q P Q p both free = refl
by_p false false q P Q p both free = refl
by_p true false q P Q p both free = absurd (let h = p.1 (both.0 refl).0 in cc)
by_p false true false P Q p both free = absurd (let h = both.1 (p.0 refl, λ e. absurd cc) in cc)
by_p false true true P Q p both free = absurd cc

-- so P's test decides it, where P's equation fails or there is no Q
pub told_by_p : (cells : List Cell) (slots : List (Option ℕ)) (n place : ℕ) (room : Room) (holds : Bool) → IsRow cells → length cells ≡ length slots → IsWhole cells slots n → HasBytesAt room n place →
    Decides holds (Cancel in_p cells (slots_column room slots place)) → (holds && has_q cells) ≡ false → holds ≡ is_sound cells (slots_column room slots place)
told_by_p cells slots n place room holds row long whole bytes p free =
    by_p (is_sound cells (slots_column room slots place)) holds (has_q cells) (Cancel in_p cells (slots_column room slots place)) (Cancel in_q cells (slots_column room slots place)) p
    (whole_decides cells slots n place room row long whole bytes) free

map_alike : (f g : Option ℕ → ℕ) (xs : List (Option ℕ)) → ((k : ℕ) → k < length xs → f (get_or xs k None) ≡ g (get_or xs k None)) → map f xs ≡ map g xs
map_alike f g [] same = refl
map_alike f g (x ∷ xs) same =
    ap (λ (y : ℕ). y ∷ map f xs) (same 0 (omega arith)) ∙ ap (λ (ys : List ℕ). g x ∷ ys) (map_alike f g xs (λ k below. same (suc k) (omega arith)))

slot_alike : (images : List (List ℕ)) (geo : Geometry) (run : Run) (room : Room) (place t slot x : ℕ) (held : Option ℕ) → HoldsSet images run room geo → place < run.count →
    geo.head.offset + t ≡ run.first + place → x < 512 → get_or geo.slots.items slot None ≡ held → held_byte (room_byte room (512 * place + x)) held ≡ member_byte images geo.head.offset t x held
slot_alike images geo run room place t slot x None hold below at inside is = refl
slot_alike images geo run room place t slot x (Some image) hold below at inside is =
    let same : 512 * run.first + (512 * place + x) ≡ 512 * (geo.head.offset + t) + x = omega arith in
    hold slot image is (512 * place + x) (omega arith) ∙ ap (λ k. get_or (get_or images image []) k 0) same

-- the sectors at a place are those of a row of the array
pub place_sound : (images : List (List ℕ)) (geo : Geometry) (run : Run) (room : Room) (place t : ℕ) (cells : List Cell) → HoldsSet images run room geo → place < run.count →
    geo.head.offset + t ≡ run.first + place → cells ≡ row_cells geo (t / geo.head.chunk) → is_sound cells (slots_column room geo.slots.items place) ≡ is_sound_row images geo t
place_sound images geo run room place t cells hold below at are =
    ap (λ (cs : List Cell). is_sound cs (slots_column room geo.slots.items place)) are
    ∙ sound_alike (row_cells geo (t / geo.head.chunk)) (slots_column room geo.slots.items place) (member_column images geo t)
    (λ x inside. ap (filled (row_cells geo (t / geo.head.chunk)))
    (map_alike (held_byte (room_byte room (512 * place + x))) (member_byte images geo.head.offset t x) geo.slots.items
    (λ slot there. slot_alike images geo run room place t slot x (get_or geo.slots.items slot None) hold below at inside refl)))

-- the same of a chunk row
pub told_row : (geo : Geometry) (n place : ℕ) (room : Room) (row : ChunkRow) (out : LeftOut) (holds : Bool) → IsTestable geo → IsChunkRow geo n row.at row → row.out ≡ Some out → HasBytesAt room n place →
    (AddsAllBut row.cells.items geo.slots.items n out → Decides holds (Cancel in_p row.cells.items (slots_column room geo.slots.items place))) → (holds && has_q row.cells.items) ≡ false →
    holds ≡ is_sound row.cells.items (slots_column room geo.slots.items place)
told_row geo n place room row out holds set is there bytes p free =
    let whole : IsWhole row.cells.items geo.slots.items n = subst (λ (o : Option LeftOut). IfSome o (λ o'. IsWhole row.cells.items geo.slots.items n)) there is.whole in
    let but : AddsAllBut row.cells.items geo.slots.items n out = subst (λ (o : Option LeftOut). IfSome o (AddsAllBut row.cells.items geo.slots.items n)) there is.but in
    told_by_p row.cells.items geo.slots.items n place room holds (testable_row geo row.at row.cells.items set is.cells) (row_length geo row.at row.cells.items is.cells) whole bytes (p but) free

-- a chunk row by its own number
pub row_itself : (geo : Geometry) (n at : ℕ) (row : ChunkRow) → IsChunkRow geo n at row → IsChunkRow geo n row.at row
row_itself geo n at row is = record { place = refl; cells = is.cells ∙ ap (row_cells geo) (sym is.place); within = is.within; whole = is.whole; but = is.but; factors = is.factors }
