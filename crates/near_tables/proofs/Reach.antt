-- The images, read each into the region of its number, and how much is read of them.
use Rattle.std.proofs.Common.{◌≡◌, ℕ, zero, suc, ◌+◌, ◌-◌, ◌*◌, ◌%◌, ◌<◌, ◌≤◌, ◌^◌, min, List, [], ◌∷◌, ◌++◌, length, map, get_or, arith, ap, sym, refl, subst, ◌∙◌, Bool, true, false, cond, nat_lt, IsTrue, All, IsSomeAnd, Option, Some, None, Result, Ok, Err, OnOk, inl, inr}
use Rattle.std.proofs.lemmas.Bool.{cases_lt, le-ltb, lt-ltb}
use Rattle.std.proofs.lemmas.List.FromFn.{get_or-map-range_with_len, length-map-range_with_len, map-range_with_len_more}
use Rattle.std.proofs.lemmas.Nat.{mul-le}
use Rattle.std.specs.List.{count_by, range_with_len, slice_get, slice_index, slice_index_or, sum_by}
use Rattle.std.specs.Option.{is_none, is_some}
use Rattle.raid_layouts.proofs.Counts.{count_cons}
use Rattle.outside.specs.Seen.{Image, OnlyReads, Seen}
use Rattle.outside.proofs.Reading.{reads_join, reads_up}
use Rattle.raid_terms.specs.Parity.{member_byte}
use Rattle.member_regions.specs.Members.{held, Reaches}
use Rattle.member_regions.specs.Regions.{HoldRead, Room}
use Rattle.near_mirror.specs.Heads.{is_valid_near}
use Rattle.near_mirror.specs.declared.types.Copying.{Copying}
use Rattle.near_mirror.specs.declared.types.Copying.TheVariants.{Near, Far, Offset}
use Rattle.near_mirror.specs.declared.types.NearHead.{NearHead}
use Rattle.near_mirror.proofs.Chunks.{valid_chunk}
use Rattle.slot_math.proofs.Held.{sum_more}
use Rattle.std.proofs.lemmas.List.Sums.{sum_by-le-sum_by}
use Rattle.near_mirror.proofs.Heads.{some_copies}
use Rattle.near_tables.specs.declared.lane_reading.Strips.{Strips}
use Rattle.near_tables.specs.Reading.{HoldStrip, MayRead, parts_of, rest_of, rests_of, sectors_read}
use Rattle.near_tables.specs.Tables.{group_rows, lane_depth, lane_row, row_sector}
use Rattle.near_tables.proofs.Pairs.{by_pairs, pair_sector, row_late}
use Rattle.near_tables.proofs.Strips.{lane_on}
use Rattle.near_tables.proofs.Sums.{sum_both, sum_moved, sum_none, sum_split}

-- the images in the slots of their numbers
abbrev pub in_order : ℕ → List (Option ℕ)
in_order n = map (λ i. Some i) (range_with_len 0 n)

pub order_length : (n : ℕ) → length (in_order n) ≡ n
order_length n = length-map-range_with_len (λ (i : ℕ). Some i) 0 n

pub order_more : (n : ℕ) → in_order n ++ Some n ∷ [] ≡ in_order (n + 1)
order_more n = sym (map-range_with_len_more (λ (i : ℕ). Some i) 0 n n (let z : 0 + n ≡ n = omega arith in z))

order_at : (n i : ℕ) (d : Option ℕ) → i < n → get_or (in_order n) i d ≡ Some i
order_at n i d lt = get_or-map-range_with_len (λ (k : ℕ). Some k) 0 n i i d lt (let z : 0 + i ≡ i = omega arith in z)

-- each slot holds one
all_held : (a n : ℕ) → count_by is_some (map (λ i. Some i) (range_with_len a n)) ≡ n
all_held a zero = refl
all_held a (suc n) =
    let one = count_cons {A = Option ℕ} is_some (Some a) (map (λ i. Some i) (range_with_len (a + 1) n)) in
    let rest = all_held (a + 1) n in
    omega arith

order_held : (slots : List (Option ℕ)) (n : ℕ) → slots ≡ in_order n → held slots ≡ n
unfolding held
order_held slots n e = ap (count_by is_some) e ∙ all_held 0 n

-- an image that is attached is as long as all are
found : (attached : List Image) (k : ℕ) (d : Image) → k < length attached → slice_get attached k ≡ Some (get_or attached k d)
found [] k d lt = absurd (omega arith)
found (image ∷ attached) zero d lt = refl
found (image ∷ attached) (suc k) d lt = found attached k d (omega arith)

pub order_reaches : (attached : List Image) (slots : List (Option ℕ)) (n to k : ℕ) (d : Option ℕ) → slots ≡ in_order n → length attached ≡ n → All (λ image. to ≤ image.sectors) attached →
    k < length slots → Reaches attached to (get_or slots k d)
order_reaches attached slots n to k d e are long lt =
    let count : length slots ≡ n = ap length e ∙ order_length n in
    let here : get_or slots k d ≡ Some k = ap (λ (l : List (Option ℕ)). get_or l k d) e ∙ order_at n k d (omega arith) in
    let none : Image = record { sectors = 0; bytes = None } in
    let P : Option Image → Type 0 = λ o. IsSomeAnd o (λ image. to ≤ image.sectors) in
    subst (Reaches attached to) (sym here) (subst P (sym (found attached k none (omega arith))) (long k none (omega arith)))

-- what was read of the members is a strip of the images
pub strip_held : (bytes : List (List ℕ)) (slots : List (Option ℕ)) (count sector sectors : ℕ) (room : Room) → slots ≡ in_order count →
    HoldRead bytes slots sector room.stride 0 (512 * sectors) (length slots) room.bytes → HoldStrip bytes count sector sectors room
strip_held bytes slots count sector sectors room e hold = λ i y below lt.
    let long : length slots ≡ count = ap length e ∙ order_length count in
    let here : get_or slots i None ≡ Some i = ap (λ (l : List (Option ℕ)). get_or l i None) e ∙ order_at count i None below in
    let at : 512 * (sector + 0) + y ≡ 512 * sector + y = omega arith in
    let read = hold i y (omega arith) lt (ap (λ (o : Option ℕ). is_none o) here) in
    subst (λ (o : Option ℕ). get_or room.bytes (room.stride * i + y) 0 ≡ member_byte bytes sector 0 y o) here read
    ∙ ap (λ (k : ℕ). slice_index (slice_index_or bytes i []) k) at

pub reads_images : (a b : Seen) (slots : List (Option ℕ)) (count sectors : ℕ) → slots ≡ in_order count → OnlyReads a b (held slots * sectors) → OnlyReads a b (count * sectors)
reads_images a b slots count sectors e reads = subst (λ (n : ℕ). OnlyReads a b (n * sectors)) (order_held slots count e) reads

-- what holds where a call did not fail
pub on_ok : {A E : Type 0} (r : Result A E) (P Q : Type 0) → (P → Q) → OnOk r P → OnOk r Q
on_ok (Ok a) P Q step p = step p
on_ok (Err fault) P Q step p = tt

-- a strip of no sectors
pub empty_strip : (bytes : List (List ℕ)) (images sector count : ℕ) (room : Room) → count ≡ 0 → HoldStrip bytes images sector count room
empty_strip bytes images sector count room e = λ i y below lt. absurd (omega arith)

pub reads_no_more : (a b : Seen) (many few most : ℕ) → few ≤ most → OnlyReads a b (many * few) → OnlyReads a b (many * most)
reads_no_more a b many few most le reads = let up : many * few ≤ many * most = mul-le many few many most (omega arith) le in reads_up a b reads up

-- how many sectors of an image are read of the first ones of each lane
abbrev pub spent_by : Copying → ℕ → ℕ → ℕ → ℕ → ℕ
spent_by copying copies chunk limit at =
    sum_by (λ lane. count_by (λ u. nat_lt (row_sector (group_rows copying copies) chunk (lane_row copying lane) u) limit) (range_with_len 0 at)) (range_with_len 0 copies)

abbrev pub spent_of : NearHead → ℕ → ℕ → ℕ
spent_of head limit at = spent_by head.layout.copying head.layout.copies head.chunk limit at

-- none of no sectors
pub spent_none : (head : NearHead) (limit : ℕ) → spent_of head limit 0 ≡ 0
spent_none head limit =
    sum_none (λ lane. count_by (λ u. nat_lt (row_sector (group_rows head.layout.copying head.layout.copies) head.chunk (lane_row head.layout.copying lane) u) limit) (range_with_len 0 0)) 0 head.layout.copies (λ x lt. refl)

-- how many numbers from one on are below a limit
below_count : (start limit n : ℕ) → sum_by (λ x. cond (nat_lt (start + x) limit) 1 0) (range_with_len 0 n) ≡ min n (limit - start)
below_count start limit zero = omega arith
below_count start limit (suc n) =
    let more = sum_more (λ x. cond (nat_lt (start + x) limit) 1 0) n in
    let rest = below_count start limit n in
    let one : suc n ≡ n + 1 = omega arith in
    let all = ap (λ (k : ℕ). sum_by (λ x. cond (nat_lt (start + x) limit) 1 0) (range_with_len 0 k)) one in
    all ∙ more ∙ last (sum_by (λ x. cond (nat_lt (start + x) limit) 1 0) (range_with_len 0 n)) (nat_lt (start + n) limit) rest
    (λ e. lt-from start n limit e) (λ e. le-from start n limit e)
  where
    lt-from : (start n limit : ℕ) → nat_lt (start + n) limit ≡ true → start + n < limit
    lt-from start n limit e = elim (cases_lt (start + n) limit) [
      | inl lt ↦ lt
      | inr le ↦ (let f = le-ltb (start + n) limit le in let g : true ≡ false = sym e ∙ f in absurd (cc))
    ]

    le-from : (start n limit : ℕ) → nat_lt (start + n) limit ≡ false → limit ≤ start + n
    le-from start n limit e = elim (cases_lt (start + n) limit) [
      | inl lt ↦ (let f = lt-ltb (start + n) limit lt in let g : true ≡ false = sym f ∙ e in absurd (cc))
      | inr le ↦ le
    ]

    last : (sum : ℕ) (b : Bool) → sum ≡ min n (limit - start) → (b ≡ true → start + n < limit) → (b ≡ false → limit ≤ start + n) → sum + cond b 1 0 ≡ min (suc n) (limit - start)
    last sum true e f g = let lt = f refl in omega arith
    last sum false e f g = let le = g refl in omega arith

-- of a lane with a strip more
lane_spent : (head : NearHead) (limit at count lane : ℕ) → at % head.chunk + count ≤ head.chunk →
    count_by (λ u. nat_lt (lane_depth head lane u) limit) (range_with_len 0 (at + count)) ≡ count_by (λ u. nat_lt (lane_depth head lane u) limit) (range_with_len 0 at) + rest_of head limit at count lane
lane_spent head limit at count lane inside =
    let f : ℕ → ℕ = λ u. cond (nat_lt (lane_depth head lane u) limit) 1 0 in
    let split = sum_split f 0 at count in
    let same = sum_moved f (λ x. cond (nat_lt (lane_depth head lane at + x) limit) 1 0) (0 + at) 0 count
    (λ x lt. let place : 0 + at + x ≡ at + x = omega arith in
    let zero_on : x ≡ 0 + x = omega arith in
    ap f place ∙ ap (λ (d : ℕ). cond (nat_lt d limit) 1 0) (lane_on head lane at x (omega arith) ∙ ap (λ (k : ℕ). lane_depth head lane at + k) zero_on)) in
    let here = below_count (lane_depth head lane at) limit count in
    omega arith

pub spent_more : (head : NearHead) (limit at count : ℕ) → at % head.chunk + count ≤ head.chunk → spent_of head limit (at + count) ≡ spent_of head limit at + rests_of head limit at count head.layout.copies
spent_more head limit at count inside =
    sum_moved (λ lane. count_by (λ u. nat_lt (lane_depth head lane u) limit) (range_with_len 0 (at + count)))
    (λ lane. count_by (λ u. nat_lt (lane_depth head lane u) limit) (range_with_len 0 at) + rest_of head limit at count lane) 0 0 head.layout.copies
    (λ lane lt. lane_spent head limit at count (0 + lane) inside)
    ∙ sym (sum_both (λ lane. count_by (λ u. nat_lt (lane_depth head lane u) limit) (range_with_len 0 at)) (rest_of head limit at count) 0 head.layout.copies)

-- of numbers no more than below a limit count
count_small : (p : ℕ → Bool) (limit n : ℕ) → ((u : ℕ) → limit ≤ u → p u ≡ false) → sum_by (λ u. cond (p u) 1 0) (range_with_len 0 n) ≤ limit
count_small p limit n late =
    elim (cases_lt n limit) [
      | inl lt ↦ (let few = count_long p n in omega arith)
      | inr le ↦
          (let split = sum_split (λ u. cond (p u) 1 0) 0 limit (n - limit) in
          let none = sum_none (λ u. cond (p u) 1 0) (0 + limit) (n - limit) (λ x lt. ap (λ (b : Bool). cond b 1 0) (late (0 + limit + x) (omega arith))) in
          let long : n ≡ limit + (n - limit) = omega arith in
          let all = ap (λ (k : ℕ). sum_by (λ u. cond (p u) 1 0) (range_with_len 0 k)) long in
          let few = count_long p limit in
          omega arith)
    ]
  where
    one_more : (b : Bool) → cond b 1 0 ≤ 1
    one_more true = omega arith
    one_more false = omega arith

    count_long : (q : ℕ → Bool) (m : ℕ) → sum_by (λ u. cond (q u) 1 0) (range_with_len 0 m) ≤ m
    count_long q zero = omega arith
    count_long q (suc m) =
        let more = sum_more (λ u. cond (q u) 1 0) m in
        let rest = count_long q m in
        let one = one_more (q m) in
        let next : suc m ≡ m + 1 = omega arith in
        let all = ap (λ (k : ℕ). sum_by (λ u. cond (q u) 1 0) (range_with_len 0 k)) next in
        omega arith

-- a sum of so many terms that are no more than a limit
sum_small : (f : ℕ → ℕ) (limit n : ℕ) → ((x : ℕ) → f x ≤ limit) → sum_by f (range_with_len 0 n) ≤ n * limit
sum_small f limit zero few = omega arith
sum_small f limit (suc n) few =
    let more = sum_more f n in
    let rest = sum_small f limit n few in
    let here = few n in
    let next : suc n ≡ n + 1 = omega arith in
    let all = ap (λ (k : ℕ). sum_by f (range_with_len 0 k)) next in
    let wide : suc n * limit ≡ n * limit + limit = grind arith in
    omega arith

sum_below : (f g : ℕ → ℕ) (n : ℕ) → ((x : ℕ) → f x ≤ g x) → sum_by f (range_with_len 0 n) ≤ sum_by g (range_with_len 0 n)
sum_below f g n le = sum_by-le-sum_by f g (range_with_len 0 n) le

-- of lanes after each other in one part no sector counts twice
one_part : (copies chunk limit at : ℕ) → 0 < chunk →
    sum_by (λ lane. count_by (λ u. nat_lt (pair_sector copies chunk lane u) limit) (range_with_len 0 at)) (range_with_len 0 copies) ≤ limit
one_part copies chunk limit at some =
    let g : ℕ → ℕ = λ d. cond (nat_lt d limit) 1 0 in
    let long : at * 1 ≤ at * chunk = mul-le at 1 at chunk (omega arith) some in
    let more = sum_below (λ lane. sum_by (λ u. g (pair_sector copies chunk lane u)) (range_with_len 0 at)) (λ lane. sum_by (λ u. g (pair_sector copies chunk lane u)) (range_with_len 0 (at * chunk))) copies
    (λ lane. let split = sum_split (λ u. g (pair_sector copies chunk lane u)) 0 at (at * chunk - at) in
    let whole : at * chunk ≡ at + (at * chunk - at) = omega arith in
    let all = ap (λ (k : ℕ). sum_by (λ u. g (pair_sector copies chunk lane u)) (range_with_len 0 k)) whole in
    omega arith) in
    let all = by_pairs g copies chunk at some in
    let few = count_small (λ d. nat_lt d limit) limit (copies * at * chunk) (λ u le. le-ltb u limit le) in
    omega arith

most_by : (copying : Copying) (copies chunk limit at : ℕ) → 0 < chunk → spent_by copying copies chunk limit at ≤ parts_of copying copies * limit
most_by Near copies chunk limit at some = let most = one_part copies chunk limit at some in let one : 1 * limit ≡ limit = omega arith in omega arith
most_by Far copies chunk limit at some =
    sum_small (λ lane. count_by (λ u. nat_lt (row_sector 1 chunk 0 u) limit) (range_with_len 0 at)) limit copies
    (λ x. count_small (λ u. nat_lt (row_sector 1 chunk 0 u) limit) limit at (λ u le. let late = row_late 1 chunk 0 u (omega arith) in le-ltb (row_sector 1 chunk 0 u) limit (omega arith)))
most_by Offset copies chunk limit at some = let most = one_part copies chunk limit at some in let one : 1 * limit ≡ limit = omega arith in omega arith

pub spent_most : (head : NearHead) (limit at : ℕ) → IsTrue (is_valid_near head) → spent_of head limit at ≤ sectors_read head limit
spent_most head limit at h = most_by head.layout.copying head.layout.copies head.chunk limit at (valid_chunk head h)

-- a reading more
pub reads_more : (a b c : Seen) (many few more : ℕ) → OnlyReads a b (many * few) → OnlyReads b c (many * more) → OnlyReads a c (many * (few + more))
reads_more a b c many few more ab bc =
    let split : many * (few + more) ≡ many * few + many * more = grind arith in
    reads_up a c (reads_join a b c ab bc) (omega arith)

-- of a lane more
pub rests_more : (head : NearHead) (limit at count lane : ℕ) → rests_of head limit at count (lane + 1) ≡ rests_of head limit at count lane + rest_of head limit at count lane
rests_more head limit at count lane = sum_more (rest_of head limit at count) lane

pub rests_up : (head : NearHead) (limit at count few most : ℕ) → few ≤ most → rests_of head limit at count few ≤ rests_of head limit at count most
rests_up head limit at count few most le =
    let split = sum_split (rest_of head limit at count) 0 few (most - few) in
    let whole : most ≡ few + (most - few) = omega arith in
    let all = ap (λ (k : ℕ). rests_of head limit at count k) whole in
    omega arith

-- the limit of what may be read is numbered in 64 bits
pub limit_short : (images : List Image) (strips : Strips) → MayRead images strips → strips.limit < 2 ^ 55
limit_short images strips over =
    let some = some_copies strips.head over.head in
    let near = over.near 0 (omega arith) in
    omega arith
