-- Rows that are put item by item.
use Rattle.std.proofs.Common.{◌≡◌, ℕ, ◌+◌, ◌-◌, ◌*◌, ◌%◌, ◌<◌, ◌≤◌, List, [], ◌++◌, length, take, drop, Option, Result, Ok, Err, refl, sym, ap, ◌∙◌, subst, arith, append_assoc, true}
use Rattle.std.proofs.lemmas.Nat.{mod_below, mul-le}
use Rattle.outside.specs.Streams.{AppendsFront, Puts}
use Rattle.raid_params.specs.Size.{data_blocks, rows}
use Rattle.raid_params.specs.Validity.{is_valid_head}
use Rattle.raid_params.specs.declared.types.Geometry.{Geometry}
use Rattle.raid_params.specs.declared.types.Head.{Head}
use Rattle.raid_params.specs.declared.types.Part.{Part}
use Rattle.raid_layouts.proofs.Parts.{part_data}
use Rattle.raid_terms.specs.Cells.{part_of}
use Rattle.raid_terms.specs.Parity.{is_data}
use Rattle.raid_terms.specs.Address.{home_item, home_row, LiesAt}
use Rattle.raid_terms.specs.Role.{item_of}
use Rattle.virtual_volume.specs.Parts.{chunk_of, items_of, rows_of}
use Rattle.member_regions.proofs.Sets.{testable_chunk, testable_head}
use Rattle.member_regions.specs.Members.{IsTestable}
use Rattle.lost_members.specs.Needs.{HoldData, is_data_at}
use Rattle.virtual_volume.specs.Waiting.{Passed, Passes}
use Rattle.virtual_volume.proofs.Blocks.{chunk_data, region_chunk}
use Rattle.std.specs.Io.KnownBytes.{Appends}
use Rattle.std.specs.Prelude.{IsTrue, MatchResult, OnOk, slice_range}
use Rattle.std.specs.Result.{IsErrAnd}
use Rattle.std.proofs.lemmas.List.{append-nil}
use Rattle.raid_terms.specs.Volume.{volume}
use Rattle.virtual_volume.proofs.Fronts.{appends_all, front_more, passes_cut, passes_join, passes_none}
use Rattle.virtual_volume.proofs.Whole.{items_more, items_none, items_split, rows_join, rows_more, rows_none, volume_rows}

-- rows of a batch lie within it
pub row_inside : (r rows chunk : ℕ) → r < rows → r * chunk + chunk ≤ rows * chunk
row_inside r rows chunk h =
    let most : (r + 1) * chunk ≤ rows * chunk = mul-le (r + 1) chunk rows chunk (omega arith) (omega arith) in
    let next : (r + 1) * chunk ≡ r * chunk + chunk = grind arith in
    omega arith

-- an item's slot is data
pub item_data : (head : Head) (row item slot : ℕ) → IsTrue (is_valid_head head) → item < data_blocks head → slot ≡ item_of head row item → is_data (part_of head row slot) ≡ true
item_data head row item slot valid below is = ap (λ (p : Part). is_data p) (part_data head row slot valid (item, (below, is)))

-- the part of the regions that is put for an item is the chunk of its slot
pub item_part : (images : List (List ℕ)) (geo : Geometry) (stride first count row item slot at : ℕ) (sectors part : List ℕ) → IsTestable geo → item < data_blocks geo.head →
    slot ≡ item_of geo.head row item → slot < length geo.slots.items →
    HoldData images geo stride first count sectors → first + at ≡ row * geo.head.chunk → at + geo.head.chunk ≤ count → length part ≡ 512 * geo.head.chunk →
    part ≡ slice_range sectors (stride * slot + 512 * at) (stride * slot + 512 * at + 512 * geo.head.chunk) → part ≡ chunk_of images geo row (item_of geo.head row item)
item_part images geo stride first count row item slot at sectors part set below is within hold place few long cut =
    let size : stride * slot + 512 * at + 512 * geo.head.chunk - (stride * slot + 512 * at) ≡ 512 * geo.head.chunk = omega arith in
    region_chunk images geo stride first count slot row at sectors part within (item_data geo.head row item slot (testable_head geo set) below is) hold place few long
    (cut ∙ ap (λ (n : ℕ). take n (drop (stride * slot + 512 * at) sectors)) size)
    ∙ ap (λ (s : ℕ). chunk_of images geo row s) is

-- a sector of the volume lies on data
pub home_data : (geo : Geometry) (slot sector v : ℕ) → IsTestable geo → LiesAt geo.head slot sector v → is_data_at geo slot sector ≡ true
home_data geo slot sector v set lies =
    let valid = testable_head geo set in
    chunk_data geo (home_row geo.head v) slot sector (v % geo.head.chunk) (item_data geo.head (home_row geo.head v) (home_item geo.head v) slot valid lies.item.0 lies.item.1)
    (mod_below v geo.head.chunk (testable_chunk geo set)) lies.place

pub items_start : (images : List (List ℕ)) (geo : Geometry) (row : ℕ) (old : Option (List ℕ)) (waits : List ℕ) → Passes old old waits waits (items_of images geo row 0)
items_start images geo row old waits = subst (λ (l : List ℕ). Passes old old waits waits l) (sym (items_none images geo row)) (passes_none old waits)

-- one more item was put
pub items_on : (images : List (List ℕ)) (geo : Geometry) (row item : ℕ) (a b c : Option (List ℕ)) (before between after part : List ℕ) →
    part ≡ chunk_of images geo row (item_of geo.head row item) → Passes a b before between (items_of images geo row item) → Passes b c between after part →
    Passes a c before after (items_of images geo row (item + 1))
items_on images geo row item a b c before between after part is p q =
    passes_join a b c before between after (items_of images geo row item) part (items_of images geo row (item + 1))
    (items_more images geo row item (item + 1) refl ∙ ap (λ (l : List ℕ). items_of images geo row item ++ l) (sym is)) p q

-- putting it failed
pub items_cut : (images : List (List ℕ)) (geo : Geometry) (row item n : ℕ) (a b c : Option (List ℕ)) (before between part : List ℕ) → item < n →
    part ≡ chunk_of images geo row (item_of geo.head row item) → Passes a b before between (items_of images geo row item) → AppendsFront b c (between ++ part) →
    AppendsFront a c (before ++ items_of images geo row n)
items_cut images geo row item n a b c before between part lt is p q =
    let split = items_split images geo row (item + 1) n (omega arith) in
    let all : items_of images geo row n ≡ items_of images geo row item ++ (part ++ split.0) =
    split.1 ∙ ap (λ (l : List ℕ). l ++ split.0) (items_more images geo row item (item + 1) refl ∙ ap (λ (l : List ℕ). items_of images geo row item ++ l) (sym is))
    ∙ append_assoc (items_of images geo row item) part split.0 in
    passes_cut a b c before between (items_of images geo row item) (part ++ split.0) (items_of images geo row n) all p
    (front_more b c (between ++ part) split.0 (between ++ (part ++ split.0)) (sym (append_assoc between part split.0)) q)

pub rows_start : (images : List (List ℕ)) (geo : Geometry) (first : ℕ) (old : Option (List ℕ)) (waits : List ℕ) → Passes old old waits waits (rows_of images geo first 0)
rows_start images geo first old waits = subst (λ (l : List ℕ). Passes old old waits waits l) (sym (rows_none images geo first)) (passes_none old waits)

-- one more row was put
pub rows_on : (images : List (List ℕ)) (geo : Geometry) (first r : ℕ) (a b c : Option (List ℕ)) (before between after : List ℕ) →
    Passes a b before between (rows_of images geo first r) → Passes b c between after (items_of images geo (first + r) (data_blocks geo.head)) →
    Passes a c before after (rows_of images geo first (r + 1))
rows_on images geo first r a b c before between after p q =
    passes_join a b c before between after (rows_of images geo first r) (items_of images geo (first + r) (data_blocks geo.head)) (rows_of images geo first (r + 1))
    (rows_more images geo first r (r + 1) refl) p q

-- rows were put, and putting more of them failed
pub rows_cut : (images : List (List ℕ)) (geo : Geometry) (first r m n next : ℕ) (a b c : Option (List ℕ)) (before between : List ℕ) → r + m ≤ n → next ≡ first + r →
    Passes a b before between (rows_of images geo first r) → AppendsFront b c (between ++ rows_of images geo next m) → AppendsFront a c (before ++ rows_of images geo first n)
rows_cut images geo first r m n next a b c before between few e p q =
    let more : List ℕ = rows_of images geo next m in
    let rest : List ℕ = rows_of images geo (first + r + m) (n - (r + m)) in
    let tail : rows_of images geo next (n - r) ≡ rows_of images geo next m ++ rows_of images geo (first + r + m) (n - (r + m))
    = rows_join images geo next m (n - (r + m)) (n - r) (first + r + m) (omega arith) (omega arith) in
    let all : rows_of images geo first n ≡ rows_of images geo first r ++ (rows_of images geo next m ++ rows_of images geo (first + r + m) (n - (r + m)))
    = rows_join images geo first r (n - r) n next (omega arith) e ∙ ap (λ (l : List ℕ). rows_of images geo first r ++ l) tail in
    passes_cut a b c before between (rows_of images geo first r) (rows_of images geo next m ++ rows_of images geo (first + r + m) (n - (r + m))) (rows_of images geo first n) all p
    (front_more b c (between ++ rows_of images geo next m) (rows_of images geo (first + r + m) (n - (r + m)))
    (between ++ (rows_of images geo next m ++ rows_of images geo (first + r + m) (n - (r + m))))
    (sym (append_assoc between (rows_of images geo next m) (rows_of images geo (first + r + m) (n - (r + m))))) q)

-- a row alone
pub one_row : (images : List (List ℕ)) (geo : Geometry) (first : ℕ) → rows_of images geo first 1 ≡ items_of images geo first (data_blocks geo.head)
one_row images geo first =
    let at : first + 0 ≡ first = omega arith in
    rows_more images geo first 0 1 (omega arith)
    ∙ ap (λ (l : List ℕ). l ++ items_of images geo (first + 0) (data_blocks geo.head)) (rows_none images geo first)
    ∙ ap (λ (t : ℕ). items_of images geo t (data_blocks geo.head)) at

-- all rows are the volume
pub rows_whole : (images : List (List ℕ)) (geo : Geometry) (end n : ℕ) (waits : List ℕ) → waits ≡ [] → n ≡ rows geo.head end → waits ++ rows_of images geo 0 n ≡ volume images geo end
rows_whole images geo end n waits e f =
    ap (λ (l : List ℕ). l ++ rows_of images geo 0 n) e ∙ ap (λ (t : ℕ). rows_of images geo 0 t) f ∙ sym (volume_rows images geo end)

-- all rows passed, and nothing waits
rows_written : (images : List (List ℕ)) (geo : Geometry) (end n : ℕ) (a b c : Option (List ℕ)) (before between after : List ℕ) → before ≡ [] → after ≡ [] → n ≡ rows geo.head end →
    Passes a b before between (rows_of images geo 0 n) → Passes b c between after [] → Appends a c (volume images geo end)
rows_written images geo end n a b c before between after e f is p q =
    subst (λ (l : List ℕ). Appends a c l) (rows_whole images geo end n before e is)
    (appends_all a c before after (rows_of images geo 0 n) f
    (passes_join a b c before between after (rows_of images geo 0 n) [] (rows_of images geo 0 n) (sym (append-nil (rows_of images geo 0 n))) p q))

-- all rows passed, and what waited could not be put
rows_unflushed : (images : List (List ℕ)) (geo : Geometry) (end n : ℕ) (a b c : Option (List ℕ)) (before between : List ℕ) → before ≡ [] → n ≡ rows geo.head end →
    Passes a b before between (rows_of images geo 0 n) → AppendsFront b c (between ++ []) → AppendsFront a c (volume images geo end)
rows_unflushed images geo end n a b c before between e is p q =
    subst (λ (l : List ℕ). AppendsFront a c l) (rows_whole images geo end n before e is)
    (passes_cut a b c before between (rows_of images geo 0 n) [] (rows_of images geo 0 n) (sym (append-nil (rows_of images geo 0 n))) p q)

-- all rows passed, and what waited was put or not
pub rows_flushed : {T E F : Type 0} (Q : E → F → Type 0) (images : List (List ℕ)) (geo : Geometry) (end n : ℕ) (a b c : Option (List ℕ)) (before between after : List ℕ) (r : Result T E) (m : Result T F) →
    before ≡ [] → n ≡ rows geo.head end → OnOk r (after ≡ []) → MatchResult r (λ x. m ≡ Ok x) (λ e. IsErrAnd m (Q e)) →
    Passes a b before between (rows_of images geo 0 n) → Passed b c between after r [] → Puts a c m (volume images geo end)
rows_flushed Q images geo end n a b c before between after (Ok x) m e is none same p q = rw same (rows_written images geo end n a b c before between after e none is p q)
rows_flushed Q images geo end n a b c before between after (Err x) (Ok v) e is none same p q = absurd same
rows_flushed Q images geo end n a b c before between after (Err x) (Err y) e is none same p q = rows_unflushed images geo end n a b c before between e is p q
