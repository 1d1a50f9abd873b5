-- The rows of a set over a block of image sectors.
use Rattle.std.proofs.Common.{◌≡◌, ℕ, ◌+◌, ◌*◌, ◌<◌, ◌≤◌, Bool, true, false, not, cond, List, length, get_or, take, drop, ◌-◌, refl, sym, ap, ◌∙◌, arith, add-one, Option, Some, None, IfSome, Fits, w8, subst}
use Rattle.std.proofs.lemmas.List.{get_or-drop, get_or-take}
use Rattle.std.specs.Prelude.{slice_range}
use Rattle.std.specs.Option.{is_none}
use Rattle.raid_params.specs.declared.types.Cell.{Cell}
use Rattle.raid_params.specs.declared.types.Geometry.{Geometry}
use Rattle.raid_terms.specs.Cells.{row_cells}
use Rattle.raid_terms.specs.Parity.{column_of, is_sound, is_sound_row, unsound_rows}
use Rattle.member_regions.specs.Regions.{Room}
use Rattle.member_regions.proofs.Alike.{filled_alike}
use Rattle.member_regions.proofs.Counting.{count_suc, count_grows}
use Rattle.member_regions.proofs.Sets.{row_length}
use Rattle.member_regions.specs.ImageSums.{room_byte}
use Rattle.row_parity.proofs.Soundness.{HasBytes}
use Rattle.std.specs.Bool.{Decides}
use Rattle.std.proofs.lemmas.Bool.Decides.{same_from_decides}
use Rattle.parity_scan.specs.Equations.{AreBytesAt, DecideRow, IsMet}
use Rattle.parity_scan.specs.ImageSums.{held_byte, slots_column}
use Rattle.parity_scan.proofs.Columns.{sound_alike}

-- the sectors of a set's images were copied into a row
abbrev pub IsCopied : Geometry → Room → ℕ → ℕ → List ℕ → Type 0
IsCopied geo room place n row = (slot image x : ℕ) → slot < n → get_or geo.slots.items slot None ≡ Some image → x < 512 →
    get_or row (512 * slot + x) 0 ≡ get_or room.bytes (room.stride * image + (512 * place + x)) 0

copied_held : (geo : Geometry) (room : Room) (row : List ℕ) (place slot x : ℕ) (held : Option ℕ) → IsCopied geo room place (length geo.slots.items) row →
    slot < length geo.slots.items → x < 512 → get_or geo.slots.items slot None ≡ held → is_none held ≡ false → get_or row (512 * slot + x) 0 ≡ held_byte (room_byte room (512 * place + x)) held
copied_held geo room row place slot x None copied within inside is there = absurd (cc)
copied_held geo room row place slot x (Some image) copied within inside is there = copied slot image x within is inside

-- a row that was copied is sound where the sectors at its place are
pub copied_sound : (geo : Geometry) (room : Room) (row : List ℕ) (place at : ℕ) (cells : List Cell) → IsCopied geo room place (length geo.slots.items) row → cells ≡ row_cells geo at →
    is_sound cells (column_of (length cells) row) ≡ is_sound cells (slots_column room geo.slots.items place)
copied_sound geo room row place at cells copied are =
    ap (λ (n : ℕ). is_sound cells (column_of n row)) (row_length geo at cells are)
    ∙ ap (λ (cs : List Cell). is_sound cs (column_of (length geo.slots.items) row)) are
    ∙ sound_alike (row_cells geo at) (column_of (length geo.slots.items) row) (slots_column room geo.slots.items place)
    (λ x inside. filled_alike (held_byte (room_byte room (512 * place + x))) (λ i. get_or row (512 * i + x) 0) geo.head at 0 0 geo.slots.items
    (λ i within there. let here : 0 + i ≡ i = omega arith in rw here (copied_held geo room row place i x (get_or geo.slots.items i None) copied within inside refl there)))
    ∙ ap (λ (cs : List Cell). is_sound cs (slots_column room geo.slots.items place)) (sym are)

-- a byte of a region
pub region_byte : (room : Room) (region : List ℕ) (image place x : ℕ) → region ≡ slice_range room.bytes (room.stride * image + 512 * place) (room.stride * image + 512 * place + 512 * 1) → x < 512 →
    get_or region x 0 ≡ room_byte room (512 * place + x) image
region_byte room region image place x is below =
    let from = room.stride * image + 512 * place in
    let at : from + x ≡ room.stride * image + (512 * place + x) = omega arith in
    ap (λ (xs : List ℕ). get_or xs x 0) is ∙ get_or-take (from + 512 * 1 - from) (drop from room.bytes) x 0 (omega arith) ∙ get_or-drop from room.bytes x 0
    ∙ ap (λ (k : ℕ). get_or room.bytes k 0) at

-- one more row
pub unsound_next : (images : List (List ℕ)) (geo : Geometry) (t : ℕ) → unsound_rows images geo (t + 1) ≡ unsound_rows images geo t + cond (not (is_sound_row images geo t)) 1 0
unsound_next images geo t = rw add-one (count_suc (λ t'. not (is_sound_row images geo t')) 0 t t (omega arith))

-- more rows have no fewer unsound ones
pub unsound_rises : (images : List (List ℕ)) (geo : Geometry) (n m : ℕ) → n ≤ m → unsound_rows images geo n ≤ unsound_rows images geo m
unsound_rises images geo n m le = count_grows (λ t. not (is_sound_row images geo t)) 0 n m le

-- a sound row
pub next_sound : (images : List (List ℕ)) (geo : Geometry) (t rest sum : ℕ) (sound : Bool) → sound ≡ is_sound_row images geo t → sound ≡ true →
    unsound_rows images geo t + rest ≡ sum → unsound_rows images geo (t + 1) + rest ≡ sum
next_sound images geo t rest sum sound is holds e =
    let p : is_sound_row images geo t ≡ true = sym is ∙ holds in
    let more : unsound_rows images geo (t + 1) ≡ unsound_rows images geo t + 0 = rw p at (unsound_next images geo t) in
    omega arith

-- an unsound one
pub next_unsound : (images : List (List ℕ)) (geo : Geometry) (t : ℕ) (sound : Bool) → sound ≡ is_sound_row images geo t → sound ≡ false →
    unsound_rows images geo (t + 1) ≡ unsound_rows images geo t + 1
next_unsound images geo t sound is fails =
    let p : is_sound_row images geo t ≡ false = sym is ∙ fails in
    rw p at (unsound_next images geo t)

-- the prefix of a row
pub copied_front : (geo : Geometry) (room : Room) (place n : ℕ) (row : List ℕ) → IsCopied geo room place n row → IsCopied geo room place n (take (512 * n) row)
copied_front geo room place n row copied = λ slot image x within is inside. get_or-take (512 * n) row (512 * slot + x) 0 (omega arith) ∙ copied slot image x within is inside

-- what a test of a copied row says
pub held_sound : (geo : Geometry) (room : Room) (row : List ℕ) (place at : ℕ) (cells same : List Cell) (held : Bool) → IsCopied geo room place (length geo.slots.items) row → cells ≡ row_cells geo at → same ≡ cells →
    held ≡ is_sound same (column_of (length same) (take (512 * length same) row)) → held ≡ is_sound cells (slots_column room geo.slots.items place)
held_sound geo room row place at cells same held copied are alike is =
    let long : length same ≡ length geo.slots.items = row_length geo at same (alike ∙ are) in
    let front = subst (λ (n : ℕ). IsCopied geo room place (length geo.slots.items) (take (512 * n) row)) (sym long) (copied_front geo room place (length geo.slots.items) row copied) in
    is ∙ copied_sound geo room (take (512 * length same) row) place at same front (alike ∙ are) ∙ ap (λ (cs : List Cell). is_sound cs (slots_column room geo.slots.items place)) alike

-- the equation that decides it says the same
decided : (cells : List Cell) (slots : List (Option ℕ)) (asked : Option (List ℕ)) (factors : List ℕ) → IfSome asked (DecideRow cells slots) → asked ≡ Some factors → DecideRow cells slots factors
decided cells slots asked factors decides is = subst (λ (o : Option (List ℕ)). IfSome o (DecideRow cells slots)) is decides

pub told_sound : (room : Room) (slots : List (Option ℕ)) (place : ℕ) (cells : List Cell) (asked : Option (List ℕ)) (factors : List ℕ) (told : Option Bool) (sound : Bool) →
    AreBytesAt room slots place → IfSome asked (DecideRow cells slots) → asked ≡ Some factors →
    IfSome told (λ met. Decides met (IsMet room place factors)) → told ≡ Some sound → sound ≡ is_sound cells (slots_column room slots place)
told_sound room slots place cells asked factors told sound bytes decides is said there =
    same_from_decides sound (is_sound cells (slots_column room slots place)) (subst (λ (o : Option Bool). IfSome o (λ met. Decides met (IsMet room place factors))) there said)
    (decided cells slots asked factors decides is room place bytes)

pub tested_met : (room : Room) (slots : List (Option ℕ)) (place : ℕ) (cells : List Cell) (asked : Option (List ℕ)) (factors : List ℕ) (sound : Bool) →
    AreBytesAt room slots place → IfSome asked (DecideRow cells slots) → asked ≡ Some factors →
    sound ≡ is_sound cells (slots_column room slots place) → Decides sound (IsMet room place factors)
tested_met room slots place cells asked factors sound bytes decides is holds =
    subst (λ (b : Bool). Decides b (IsMet room place factors)) (sym holds) (decided cells slots asked factors decides is room place bytes)
