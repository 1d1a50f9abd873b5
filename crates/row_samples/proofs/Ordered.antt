-- The images of a scope, read as members each in the slot of its number.
use Rattle.std.proofs.Common.{◌≡◌, ℕ, zero, suc, ◌+◌, ◌*◌, ◌<◌, ◌≤◌, ◌^◌, List, [], ◌∷◌, ◌++◌, length, map, get_or, arith, ap, sym, refl, subst, ◌∙◌, IsSomeAnd, Option, Some, None}
use Rattle.std.proofs.lemmas.List.FromFn.{get_or-map-range_with_len, length-map-range_with_len, map-range_with_len_more}
use Rattle.std.specs.List.{count_by, range_with_len, slice_get}
use Rattle.std.specs.Option.{is_none, is_some}
use Rattle.outside.proofs.Reading.{reads_join, reads_up}
use Rattle.outside.specs.Seen.{Image, OnlyReads, Seen}
use Rattle.std.proofs.lemmas.Nat.{mul-le}
use Rattle.raid_layouts.proofs.Counts.{count_cons}
use Rattle.raid_terms.specs.Parity.{member_byte}
use Rattle.member_regions.specs.Members.{held, Reaches}
use Rattle.member_regions.specs.Regions.{HoldRead, Room}
use Rattle.search_scope.specs.Scopes.{IsScope, AgreeWith}
use Rattle.search_scope.specs.declared.scope.Scope.{Scope}
use Rattle.row_samples.specs.Rows.{HoldSector}

-- the images in the slots of their numbers
abbrev pub in_order : ℕ → List (Option ℕ)
in_order n = map (λ i. Some i) (range_with_len 0 n)

pub order_length : (n : ℕ) → length (in_order n) ≡ n
order_length n = length-map-range_with_len (λ (i : ℕ). Some i) 0 n

pub order_more : (n : ℕ) → in_order n ++ Some n ∷ [] ≡ in_order (n + 1)
order_more n = sym (map-range_with_len_more (λ (i : ℕ). Some i) 0 n n (let z : 0 + n ≡ n = omega arith in z))

order_at : (n i : ℕ) (d : Option ℕ) → i < n → get_or (in_order n) i d ≡ Some i
order_at n i d lt = get_or-map-range_with_len (λ (k : ℕ). Some k) 0 n i i d lt (let z : 0 + i ≡ i = omega arith in z)

-- each slot holds one
all_held : (a n : ℕ) → count_by is_some (map (λ i. Some i) (range_with_len a n)) ≡ n
all_held a zero = refl
all_held a (suc n) =
    let one = count_cons {A = Option ℕ} is_some (Some a) (map (λ i. Some i) (range_with_len (a + 1) n)) in
    let rest = all_held (a + 1) n in
    omega arith

order_held : (slots : List (Option ℕ)) (n : ℕ) → slots ≡ in_order n → held slots ≡ n
unfolding held
order_held slots n e = ap (count_by is_some) e ∙ all_held 0 n

-- an image that is attached reaches as far as it is long
at_mapped : (attached : List Image) (k to : ℕ) → k < length attached → to ≤ get_or (map (λ image. image.sectors) attached) k 0 → IsSomeAnd (slice_get attached k) (λ image. to ≤ image.sectors)
at_mapped [] k to lt le = absurd (omega arith)
at_mapped (image ∷ attached) zero to lt le = le
at_mapped (image ∷ attached) (suc k) to lt le = at_mapped attached k to (omega arith) le

length_mapped : (attached : List Image) → length (map (λ image. image.sectors) attached) ≡ length attached
length_mapped [] = refl
length_mapped (image ∷ attached) = ap (λ n. suc n) (length_mapped attached)

-- so each slot's reaches to the end of the scope
pub order_reaches : (scope : Scope) (attached : List Image) (slots : List (Option ℕ)) (to k : ℕ) (d : Option ℕ) → IsScope scope → AgreeWith scope attached → slots ≡ in_order (length scope.lengths.items) →
    to ≤ scope.end → k < length slots → Reaches attached to (get_or slots k d)
order_reaches scope attached slots to k d is_scope are e within lt =
    let count : length slots ≡ length scope.lengths.items = ap length e ∙ order_length (length scope.lengths.items) in
    let few : length scope.lengths.items ≡ length attached = ap length (sym are) ∙ length_mapped attached in
    let below : k < length scope.lengths.items = omega arith in
    let ends : scope.end ≤ get_or scope.lengths.items k 0 = is_scope.ends k 0 below in
    let same : get_or (map (λ image. image.sectors) attached) k 0 ≡ get_or scope.lengths.items k 0 = ap (λ (l : List ℕ). get_or l k 0) are in
    let here : get_or slots k d ≡ Some k = ap (λ (l : List (Option ℕ)). get_or l k d) e ∙ order_at (length scope.lengths.items) k d below in
    subst (Reaches attached to) (sym here) (at_mapped attached k to (omega arith) (omega arith))

pub scope_near : (scope : Scope) → IsScope scope → scope.end < 2 ^ 55
scope_near scope is_scope =
    let some = is_scope.lengths.some in
    let ends = is_scope.ends 0 0 (omega arith) in
    let short = is_scope.lengths.short 0 0 (omega arith) in
    omega arith

-- what was read of the members are sectors of the images
pub sector_held : (images : List (List ℕ)) (slots : List (Option ℕ)) (count offset row : ℕ) (room : Room) → slots ≡ in_order count →
    HoldRead images slots offset room.stride row (512 * 1) (length slots) room.bytes → HoldSector images count (offset + row) 0 room
sector_held images slots count offset row room e hold = λ i x below lt.
    let long : length slots ≡ count = ap length e ∙ order_length count in
    let here : get_or slots i None ≡ Some i = ap (λ (l : List (Option ℕ)). get_or l i None) e ∙ order_at count i None below in
    let at : 512 * 0 + x ≡ x = omega arith in
    let read = hold i x (omega arith) (omega arith) (ap (λ (o : Option ℕ). is_none o) here) in
    ap (λ (k : ℕ). get_or room.bytes (room.stride * i + k) 0) at
    ∙ subst (λ (o : Option ℕ). get_or room.bytes (room.stride * i + x) 0 ≡ member_byte images offset row x o) here read

-- what is read of the members is read of the images
pub reads_images : (a b : Seen) (slots : List (Option ℕ)) (count sectors : ℕ) → slots ≡ in_order count → OnlyReads a b (held slots * sectors) → OnlyReads a b (count * sectors)
reads_images a b slots count sectors e reads = subst (λ (n : ℕ). OnlyReads a b (n * sectors)) (order_held slots count e) reads

-- a reading more
pub reads_more : (a b c : Seen) (count first sectors : ℕ) → OnlyReads a b (count * first) → OnlyReads b c (count * sectors) → OnlyReads a c (count * (first + sectors))
reads_more a b c count first sectors ab bc =
    let split : count * (first + sectors) ≡ count * first + count * sectors = grind arith in
    reads_up a c (reads_join a b c ab bc) (omega arith)

pub reads_within : (a c : Seen) (count next rows n : ℕ) → count ≡ n → next ≤ rows → OnlyReads a c (count * next) → OnlyReads a c (n * rows)
reads_within a c count next rows n e le reads =
    let most : count * next ≤ count * rows = mul-le count next count rows (omega arith) le in
    let same : count * rows ≡ n * rows = ap (λ (k : ℕ). k * rows) e in
    reads_up a c reads (omega arith)
