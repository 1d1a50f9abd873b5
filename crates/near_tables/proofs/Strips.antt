-- Strips of images in memory, and what is counted in them.
use Rattle.std.proofs.Common.{ℕ, zero, suc, ◌≡◌, ◌+◌, ◌-◌, ◌*◌, ◌^◌, ◌/◌, ◌%◌, ◌<◌, ◌≤◌, ◌≢◌, IsTrue, min, Bool, true, false, not, nat_eq, nat_lt, cond, ◌&&◌, ◌||◌, List, [], length, replicate, drop, take, append-nil, ◌++◌, get_or, slice_range, refl, sym, ap, ap₂, ◌∙◌, arith, inl, inr}
use Rattle.std.specs.Bool.{Decides}
use Rattle.std.specs.List.{list_any, range_with_len, slice_index, sum_by}
use Rattle.std.proofs.lemmas.Bool.{cases_eq, eq-eqb, eqb-true, le-ltb, lt-ltb}
use Rattle.std.proofs.lemmas.List.{drop_all, ext_get_or, get_or-drop, get_or-take, take_all}
use Rattle.std.proofs.lemmas.List.Sums.{count_by-le-length}
use Rattle.std.proofs.Math.Nat.{zero-mul, mul-zero}
use Rattle.std.proofs.lemmas.Nat.{div-add-mod', div-mul-add, le-div, mod-mul-add, mod_below, mul-le}
use Rattle.near_mirror.specs.Heads.{is_valid_near}
use Rattle.near_mirror.proofs.Chunks.{valid_chunk}
use Rattle.near_mirror.proofs.Heads.{few_copies, some_copies}
use Rattle.near_tables.proofs.Rows.{first_lane, group_some, lane_up}
use Rattle.member_regions.specs.ImageSums.{room_byte}
use Rattle.member_regions.specs.Regions.{Room}
use Rattle.near_mirror.specs.declared.types.NearHead.{NearHead}
use Rattle.near_tables.specs.Counting.{AddsPair}
use Rattle.near_tables.specs.Reading.{HoldStrip, HoldsLane, lane_room, regions_differ, rest_of, strip_torn}
use Rattle.near_tables.specs.Tables.{CountsFirst, TornCounts, count_of, group_rows, is_torn_at, lane_counts, lane_depth, lane_gap, lane_row, lane_sector, row_sector, torn_between}
use Rattle.near_tables.specs.Torn.{image_byte, part_start, sectors_differ}
use Rattle.near_tables.proofs.Sums.{sum_moved, sum_none, sum_split}

-- a byte of a region's sector
region_at : (room : Room) (region : List ℕ) (image place x : ℕ) → region ≡ slice_range room.bytes (room.stride * image + 512 * place) (room.stride * image + 512 * place + 512 * 1) → x < 512 →
    get_or region x 0 ≡ room_byte room (512 * place + x) image
region_at room region image place x is below =
    let from = room.stride * image + 512 * place in
    let at : from + x ≡ room.stride * image + (512 * place + x) = omega arith in
    ap (λ (xs : List ℕ). get_or xs x 0) is ∙ get_or-take (from + 512 * 1 - from) (drop from room.bytes) x 0 (omega arith) ∙ get_or-drop from room.bytes x 0
    ∙ ap (λ (k : ℕ). get_or room.bytes k 0) at

-- whether one of some numbers passes
pub none_of : (f : ℕ → Bool) (a n : ℕ) → ((x : ℕ) → a ≤ x → x < a + n → f x ≡ false) → list_any f (range_with_len a n) ≡ false
none_of f a zero h = refl
none_of f a (suc n) h = ap₂ (λ (b c : Bool). b || c) (h a (omega arith) (omega arith)) (none_of f (a + 1) n (λ x low high. h x (omega arith) (omega arith)))

or_left : (a b : Bool) → a ≡ true → (a || b) ≡ true
or_left true b e = refl
or_left false b e = (cc)

or_right : (a b : Bool) → b ≡ true → (a || b) ≡ true
or_right true b e = refl
or_right false b e = e

pub some_of : (f : ℕ → Bool) (a n x : ℕ) → a ≤ x → x < a + n → f x ≡ true → list_any f (range_with_len a n) ≡ true
some_of f a zero x low high e = absurd (omega arith)
some_of f a (suc n) x low high e = elim (cases_eq a x) [
  | inl here ↦ or_left (f a) (list_any f (range_with_len (a + 1) n)) (ap f here ∙ e)
  | inr ne ↦ or_right (f a) (list_any f (range_with_len (a + 1) n)) (some_of f (a + 1) n x (omega arith) (omega arith) e)
]

pub each_fails : (f : ℕ → Bool) (n x : ℕ) → list_any f (range_with_len 0 n) ≡ false → x < n → f x ≡ false
each_fails f n x none lt = by_case (f x) refl
  where
    by_case : (b : Bool) → f x ≡ b → f x ≡ false
    by_case false e = e
    by_case true e = let bad : true ≡ false = sym (some_of f 0 n x (omega arith) (omega arith) e) ∙ none in (cc)

any_same : (f g : ℕ → Bool) (a n : ℕ) → ((x : ℕ) → a ≤ x → x < a + n → f x ≡ g x) → list_any f (range_with_len a n) ≡ list_any g (range_with_len a n)
any_same f g a zero same = refl
any_same f g a (suc n) same = ap₂ (λ (b c : Bool). b || c) (same a (omega arith) (omega arith)) (any_same f g (a + 1) n (λ x low high. same x (omega arith) (omega arith)))

not_false : (b : Bool) → not b ≡ false → b ≡ true
not_false true e = refl
not_false false e = (cc)

-- a flag that says whether bytes are the same says whether some differ
tells_other : (flag : Bool) (f g : ℕ → ℕ) → Decides flag ((x : ℕ) → x < 512 → f x ≡ g x) → not flag ≡ list_any (λ x. not (nat_eq (f x) (g x))) (range_with_len 0 512)
tells_other true f g decides = sym (none_of (λ x. not (nat_eq (f x) (g x))) 0 512 (λ x low high. ap not (eq-eqb (f x) (g x) (decides.0 refl x (omega arith)))))
tells_other false f g decides = by_case (list_any (λ x. not (nat_eq (f x) (g x))) (range_with_len 0 512)) refl
  where
    by_case : (b : Bool) → list_any (λ x. not (nat_eq (f x) (g x))) (range_with_len 0 512) ≡ b → true ≡ b
    by_case true e = refl
    by_case false e = sym (decides.1 (λ x below. eqb-true (f x) (g x) (not_false (nat_eq (f x) (g x)) (each_fails (λ x. not (nat_eq (f x) (g x))) 512 x e below))))

-- whether two sectors in memory differ
pub apart : (first second : Room) (one other j : ℕ) (a b : List ℕ) (flag : Bool) → length a ≡ 512 * 1 → length b ≡ 512 * 1 →
    a ≡ slice_range first.bytes (first.stride * one + 512 * j) (first.stride * one + 512 * j + 512 * 1) → b ≡ slice_range second.bytes (second.stride * other + 512 * j) (second.stride * other + 512 * j + 512 * 1) →
    Decides flag (a ≡ b) → not flag ≡ regions_differ first one second other j
unfolding regions_differ
apart first second one other j a b flag long long' here there decides =
    tells_other flag (λ x. room_byte first (512 * j + x) one) (λ x. room_byte second (512 * j + x) other) (
      λ holds x below. sym (region_at first a one j x here below) ∙ ap (λ (xs : List ℕ). get_or xs x 0) (decides.0 holds) ∙ region_at second b other j x there below,
      λ same. decides.1 (ext_get_or 0 a b (omega arith)
          (λ x inside. let below : x < 512 = omega arith in region_at first a one j x here below ∙ same x below ∙ sym (region_at second b other j x there below))),
    )

-- what differs in memory differs in the images
held_differ : (bytes : List (List ℕ)) (images one other here there wide long j : ℕ) (first second : Room) → HoldStrip bytes images here wide first → HoldStrip bytes images there long second →
    one < images → other < images → j < wide → j < long → regions_differ first one second other j ≡ sectors_differ bytes one (here + j) other (there + j)
unfolding regions_differ sectors_differ
held_differ bytes images one other here there wide long j first second hold keep low below inside within =
    any_same (λ x. not (nat_eq (room_byte first (512 * j + x) one) (room_byte second (512 * j + x) other)))
    (λ x. not (nat_eq (image_byte bytes one (512 * (here + j) + x)) (image_byte bytes other (512 * (there + j) + x)))) 0 512
    (λ x up down. ap₂ (λ (a b : ℕ). not (nat_eq a b))
    (hold one (512 * j + x) low (omega arith) ∙ ap (image_byte bytes one) (let e : 512 * here + (512 * j + x) ≡ 512 * (here + j) + x = omega arith in e))
    (keep other (512 * j + x) below (omega arith) ∙ ap (image_byte bytes other) (let e : 512 * there + (512 * j + x) ≡ 512 * (there + j) + x = omega arith in e)))

-- within a row of chunks sectors follow each other
row_on : (step chunk row at j : ℕ) → at % chunk + j < chunk → row_sector step chunk row (at + j) ≡ row_sector step chunk row at + j
row_on step chunk row at j lt =
    let split : at / chunk * chunk + at % chunk ≡ at = div-add-mod' at chunk in
    let same : at + j ≡ at / chunk * chunk + (at % chunk + j) = omega arith in
    let quotient : (at + j) / chunk ≡ at / chunk = ap (λ (k : ℕ). k / chunk) same ∙ div-mul-add (at / chunk) chunk (at % chunk + j) lt in
    let rest : (at + j) % chunk ≡ at % chunk + j = ap (λ (k : ℕ). k % chunk) same ∙ mod-mul-add (at / chunk) chunk (at % chunk + j) lt in
    ap₂ (λ (q r : ℕ). (step * q + row) * chunk + r) quotient rest ∙ (let e : (step * (at / chunk) + row) * chunk + (at % chunk + j) ≡ (step * (at / chunk) + row) * chunk + at % chunk + j = omega arith in e)

pub lane_on : (head : NearHead) (lane at j : ℕ) → at % head.chunk + j < head.chunk → lane_depth head lane (at + j) ≡ lane_depth head lane at + j
lane_on head lane at j lt = row_on (group_rows head.layout.copying head.layout.copies) head.chunk (lane_row head.layout.copying lane) at j lt

-- the first lane
row_first : (step chunk row at : ℕ) → row ≡ 0 → step * (at / chunk) * chunk + at % chunk ≡ row_sector step chunk row at
row_first step chunk row at e =
    let f : step * (at / chunk) ≡ step * (at / chunk) + row = omega arith in
    ap (λ (k : ℕ). k * chunk + at % chunk) f

pub first_depth : (head : NearHead) (at : ℕ) → group_rows head.layout.copying head.layout.copies * (at / head.chunk) * head.chunk + at % head.chunk ≡ lane_depth head 0 at
first_depth head at = row_first (group_rows head.layout.copying head.layout.copies) head.chunk (lane_row head.layout.copying 0) at (first_lane head.layout.copying)

-- the first sector of the first lane
zero_at : (step chunk row : ℕ) → 0 < chunk → row ≡ 0 → 0 ≡ row_sector step chunk row 0
zero_at step chunk row some e =
    let none : 0 * chunk ≡ 0 = zero-mul chunk in
    let z : 0 ≡ 0 * chunk + 0 = omega arith in
    let q : 0 / chunk ≡ 0 = ap (λ (k : ℕ). k / chunk) z ∙ div-mul-add 0 chunk 0 some in
    let r : 0 % chunk ≡ 0 = ap (λ (k : ℕ). k % chunk) z ∙ mod-mul-add 0 chunk 0 some in
    let f : step * 0 + row ≡ 0 = (let m : step * 0 ≡ 0 = mul-zero step in omega arith) in
    let same : row_sector step chunk row 0 ≡ 0 * chunk + 0 = ap₂ (λ (a b : ℕ). (step * a + row) * chunk + b) q r ∙ ap (λ (k : ℕ). k * chunk + 0) f in
    sym (same ∙ sym z)

pub depth_zero : (head : NearHead) → IsTrue (is_valid_near head) → 0 ≡ lane_depth head 0 0
depth_zero head h = zero_at (group_rows head.layout.copying head.layout.copies) head.chunk (lane_row head.layout.copying 0) (valid_chunk head h) (first_lane head.layout.copying)

-- the same place in another lane
row_after : (step chunk first row at : ℕ) → first ≡ 0 → row_sector step chunk row at ≡ row_sector step chunk first at + row * chunk
row_after step chunk first row at e =
    let same = row_first step chunk first at e in
    let f : (step * (at / chunk) + row) * chunk ≡ step * (at / chunk) * chunk + row * chunk = grind arith in
    omega arith

pub lane_after : (head : NearHead) (lane at : ℕ) → lane_depth head lane at ≡ lane_depth head 0 at + lane_row head.layout.copying lane * head.chunk
lane_after head lane at = row_after (group_rows head.layout.copying head.layout.copies) head.chunk (lane_row head.layout.copying 0) (lane_row head.layout.copying lane) at (first_lane head.layout.copying)

-- later lanes lie no earlier
pub lane_on_up : (head : NearHead) (lane next at : ℕ) → lane ≤ next → lane_depth head lane at ≤ lane_depth head next at
lane_on_up head lane next at le =
    let one = lane_after head lane at in
    let other = lane_after head next at in
    let up : lane_row head.layout.copying lane * head.chunk ≤ lane_row head.layout.copying next * head.chunk = mul-le (lane_row head.layout.copying lane) head.chunk (lane_row head.layout.copying next) head.chunk (lane_up head.layout.copying lane next le) (omega arith) in
    omega arith

-- what is counted with a strip
strip_more : (bytes : List (List ℕ)) (images : ℕ) (head : NearHead) (end limit lane one next other at count rest wide long : ℕ) (first second : Room) → one < images → other < images →
    at % head.chunk + count ≤ head.chunk → rest ≤ count → rest ≤ wide → rest ≤ long →
    HoldStrip bytes images (head.offset + lane_sector head end lane at) wide first → HoldStrip bytes images (head.offset + lane_sector head end next at) long second →
    ((j : ℕ) → j < rest → (lane_depth head lane at + j < limit) × (lane_depth head next at + j < limit)) →
    ((j : ℕ) → rest ≤ j → j < count → limit ≤ lane_depth head next at + j) →
    torn_between bytes head end limit lane one next other (at + count) ≡ torn_between bytes head end limit lane one next other at + strip_torn first second rest one other
strip_more bytes images head end limit lane one next other at count rest wide long first second low below inside short few less hold keep tested past =
    let f : ℕ → ℕ = λ u. cond (is_torn_at bytes head end limit lane one next other u) 1 0 in
    let g : ℕ → ℕ = λ j. cond (regions_differ first one second other j) 1 0 in
    let parts : count ≡ rest + (count - rest) = omega arith in
    let whole = sum_split f 0 at count in
    let front = sum_split f (0 + at) rest (count - rest) in
    let split = ap (λ (k : ℕ). sum_by f (range_with_len (0 + at) k)) parts in
    let none = sum_none f (0 + at + rest) (count - rest)
    (λ x lt.
    let there : lane_depth head next (at + (rest + x)) ≡ lane_depth head next at + (rest + x) = lane_on head next at (rest + x) (omega arith) in
    let high = past (rest + x) (omega arith) (omega arith) in
    let place : 0 + at + rest + x ≡ at + (rest + x) = omega arith in
    ap f place ∙ ap (λ (b : Bool). cond b 1 0)
    (untested (nat_lt (lane_depth head lane (at + (rest + x))) limit) (nat_lt (lane_depth head next (at + (rest + x))) limit)
    (sectors_differ bytes one (head.offset + lane_sector head end lane (at + (rest + x))) other (head.offset + lane_sector head end next (at + (rest + x))))
    (le-ltb (lane_depth head next (at + (rest + x))) limit (omega arith)))) in
    let same = sum_moved f g (0 + at) 0 rest
    (λ x lt.
    let here : lane_depth head lane (at + x) ≡ lane_depth head lane at + x = lane_on head lane at x (omega arith) in
    let there : lane_depth head next (at + x) ≡ lane_depth head next at + x = lane_on head next at x (omega arith) in
    let both = tested x lt in
    let one_lt : lane_depth head lane at + x < limit = both.0 in
    let other_lt : lane_depth head next at + x < limit = both.1 in
    let place : 0 + at + x ≡ at + x = omega arith in
    ap f place ∙ ap (λ (b : Bool). cond b 1 0)
    (tested_both (nat_lt (lane_depth head lane (at + x)) limit) (nat_lt (lane_depth head next (at + x)) limit)
    (sectors_differ bytes one (head.offset + lane_sector head end lane (at + x)) other (head.offset + lane_sector head end next (at + x)))
    (lt-ltb (lane_depth head lane (at + x)) limit (omega arith)) (lt-ltb (lane_depth head next (at + x)) limit (omega arith))
    ∙ ap₂ (λ (s t : ℕ). sectors_differ bytes one s other t)
    (on head.offset (part_start head end lane) (lane_depth head lane (at + x)) (lane_depth head lane at) x here)
    (on head.offset (part_start head end next) (lane_depth head next (at + x)) (lane_depth head next at) x there)
    ∙ sym (held_differ bytes images one other (head.offset + lane_sector head end lane at) (head.offset + lane_sector head end next at) wide long x first second hold keep low below (omega arith) (omega arith))
    ∙ ap (regions_differ first one second other) (sym (zero_first x)))) in
    omega arith
  where
    zero_first : (x : ℕ) → 0 + x ≡ x
    zero_first x = omega arith

    on : (offset start far near x : ℕ) → far ≡ near + x → offset + (start + far) ≡ offset + (start + near) + x
    on offset start far near x e = omega arith

    untested : (a b c : Bool) → b ≡ false → ((a && b) && c) ≡ false
    untested true b c e = ap (λ (x : Bool). x && c) e
    untested false b c e = refl

    tested_both : (a b c : Bool) → a ≡ true → b ≡ true → ((a && b) && c) ≡ c
    tested_both a b c e f = ap₂ (λ (x y : Bool). (x && y) && c) e f

length_range : (a n : ℕ) → length (range_with_len a n) ≡ n
length_range a zero = refl
length_range a (suc n) = ap (λ (k : ℕ). suc k) (length_range (a + 1) n)

-- a table with those of a strip
pub table_more : (bytes : List (List ℕ)) (images : ℕ) (head : NearHead) (end limit at count : ℕ) (rooms : List Room) (old new : TornCounts) → IsTrue (is_valid_near head) →
    at % head.chunk + count ≤ head.chunk → at + count < 2 ^ 60 →
    ((lane : ℕ) → lane < head.layout.copies → HoldsLane bytes images head end limit at count rooms lane) →
    ((pair : ℕ) → pair < 16 → AddsPair images head limit at count rooms pair (get_or old pair []) (get_or new pair [])) →
    CountsFirst bytes images head end limit at old → CountsFirst bytes images head end limit (at + count) new
table_more bytes images head end limit at count rooms old new h inside near hold adds before = λ lane next one other up least low below.
    let few : lane < head.layout.copies = omega arith in
    let later = lane_on_up head lane next at (omega arith) in
    let more = strip_more bytes images head end limit lane one next other at count (rest_of head limit at count next) (rest_of head limit at count lane) (rest_of head limit at count next) (lane_room rooms lane) (lane_room rooms next) low below inside
    (omega arith) (omega arith) (omega arith) (hold lane few) (hold next least) (λ j lt. (omega arith, omega arith)) (λ j high lt. omega arith) in
    let so_far = before lane next one other up least low below in
    let four = few_copies head h in
    let row : (4 * lane + next) / 4 ≡ lane = ap (λ (k : ℕ). k / 4) (turned lane next) ∙ div-mul-add lane 4 next (omega arith) in
    let place : (4 * lane + next) % 4 ≡ next = ap (λ (k : ℕ). k % 4) (turned lane next) ∙ mod-mul-add lane 4 next (omega arith) in
    let added = of_pair bytes images head limit at count rooms (get_or old (4 * lane + next) []) (get_or new (4 * lane + next) []) ((4 * lane + next) / 4) lane ((4 * lane + next) % 4) next one other row place up least low below (adds (4 * lane + next) (omega arith)) in
    let most = count_by-le-length (is_torn_at bytes head end limit lane one next other) (range_with_len 0 (at + count)) in
    let wide = length_range 0 (at + count) in
    omega arith
  where
    turned : (a b : ℕ) → 4 * a + b ≡ a * 4 + b
    turned a b = omega arith

    of_pair : (bytes : List (List ℕ)) (images : ℕ) (head : NearHead) (limit at count : ℕ) (rooms : List Room) (old new : List (List ℕ)) (a lane b next one other : ℕ) → a ≡ lane → b ≡ next → lane + lane_gap head.layout.copying ≤ next → next < head.layout.copies → one < images → other < images →
        ((one other : ℕ) → a + lane_gap head.layout.copying ≤ b → b < head.layout.copies → one < images → other < images → count_of new one other ≡ min (count_of old one other + strip_torn (lane_room rooms a) (lane_room rooms b) (rest_of head limit at count b) one other) (2 ^ 64 - 1)) →
        count_of new one other ≡ min (count_of old one other + strip_torn (lane_room rooms lane) (lane_room rooms next) (rest_of head limit at count next) one other) (2 ^ 64 - 1)
    of_pair bytes images head limit at count rooms old new a lane b next one other e f up least low below adds = rw (← e, ← f) (adds one other (omega arith) (omega arith) low below)

-- no sector, nothing counted
pub counts_none : (bytes : List (List ℕ)) (images : ℕ) (head : NearHead) (end limit : ℕ) (table : TornCounts) →
    ((lane next one other : ℕ) → count_of (lane_counts table lane next) one other ≡ 0) → CountsFirst bytes images head end limit 0 table
counts_none bytes images head end limit table zeros = λ lane next one other up least low below. zeros lane next one other

-- sectors of later numbers are later
row_up : (step chunk row at k : ℕ) → 0 < chunk → 1 ≤ step → at ≤ k → row_sector step chunk row at ≤ row_sector step chunk row k
row_up step chunk row at k some long le =
    let split : at / chunk * chunk + at % chunk ≡ at = div-add-mod' at chunk in
    let other : k / chunk * chunk + k % chunk ≡ k = div-add-mod' k chunk in
    let up : at / chunk ≤ k / chunk = le-div (at / chunk) k chunk some (omega arith) in
    elim (cases_eq (at / chunk) (k / chunk)) [
      | inl same ↦ (let e : (step * (at / chunk) + row) * chunk ≡ (step * (k / chunk) + row) * chunk = ap (λ (q : ℕ). (step * q + row) * chunk) same in
          let f : at / chunk * chunk ≡ k / chunk * chunk = ap (λ (q : ℕ). q * chunk) same in omega arith)
      | inr ne ↦ (let apart : at / chunk ≢ k / chunk = ne in
          let below = mod_below at chunk some in
          let first : step * (at / chunk + 1) ≤ step * (k / chunk) = mul-le step (at / chunk + 1) step (k / chunk) (omega arith) (omega arith) in
          let wide : step * (at / chunk + 1) ≡ step * (at / chunk) + step = grind arith in
          let second : (step * (at / chunk) + row + 1) * chunk ≤ (step * (k / chunk) + row) * chunk = mul-le (step * (at / chunk) + row + 1) chunk (step * (k / chunk) + row) chunk (omega arith) (omega arith) in
          let broad : (step * (at / chunk) + row + 1) * chunk ≡ (step * (at / chunk) + row) * chunk + chunk = grind arith in
          omega arith)
    ]

lane_later : (head : NearHead) (lane at k : ℕ) → IsTrue (is_valid_near head) → at ≤ k → lane_depth head 0 at ≤ lane_depth head lane k
lane_later head lane at k h le =
    let some = some_copies head h in
    let first = row_up (group_rows head.layout.copying head.layout.copies) head.chunk (lane_row head.layout.copying 0) at k (valid_chunk head h) (group_some head.layout.copying head.layout.copies (omega arith)) le in
    let later = lane_on_up head 0 lane k (omega arith) in
    omega arith

-- where no tested sector is left, the table is whole
pub table_whole : (bytes : List (List ℕ)) (images : ℕ) (head : NearHead) (end limit at : ℕ) (table : TornCounts) → IsTrue (is_valid_near head) → at ≤ limit → limit ≤ lane_depth head 0 at →
    CountsFirst bytes images head end limit at table → CountsFirst bytes images head end limit limit table
table_whole bytes images head end limit at table h le past counts = λ lane next one other up least low below.
    counts lane next one other up least low below ∙
    (let f : ℕ → ℕ = λ u. cond (is_torn_at bytes head end limit lane one next other u) 1 0 in
    let long : limit ≡ at + (limit - at) = omega arith in
    let none = sum_none f (0 + at) (limit - at)
    (λ x lt. let late = lane_later head lane at (0 + at + x) h (omega arith) in
    ap (λ (b : Bool). cond ((b && nat_lt (lane_depth head next (0 + at + x)) limit)
    && sectors_differ bytes one (head.offset + lane_sector head end lane (0 + at + x)) other (head.offset + lane_sector head end next (0 + at + x))) 1 0)
    (le-ltb (lane_depth head lane (0 + at + x)) limit (omega arith))) in
    let split = sum_split f 0 at (limit - at) in
    sym (ap (λ (k : ℕ). torn_between bytes head end limit lane one next other k) long ∙ (let e : torn_between bytes head end limit lane one next other (at + (limit - at)) ≡ torn_between bytes head end limit lane one next other at = omega arith in e)))

-- a table of zeros
zeros_at : (m i : ℕ) → slice_index (replicate m 0) i ≡ 0
zeros_at zero i = refl
zeros_at (suc m) zero = refl
zeros_at (suc m) (suc i) = zeros_at m i

no_counts : (n m k i : ℕ) → count_of (replicate n (replicate m 0)) k i ≡ 0
no_counts zero m k i = refl
no_counts (suc n) m zero i = zeros_at m i
no_counts (suc n) m (suc k) i = no_counts n m k i

no_pair : (l n m pair one other : ℕ) → count_of (get_or (replicate l (replicate n (replicate m 0))) pair []) one other ≡ 0
no_pair zero n m pair one other = refl
no_pair (suc l) n m zero one other = no_counts n m one other
no_pair (suc l) n m (suc pair) one other = no_pair l n m pair one other

pub no_lanes : (l n m : ℕ) (table : TornCounts) → table ≡ replicate l (replicate n (replicate m 0)) → (lane next one other : ℕ) → count_of (lane_counts table lane next) one other ≡ 0
no_lanes l n m table e lane next one other = ap (λ (t : TornCounts). count_of (lane_counts t lane next) one other) e ∙ no_pair l n m (4 * lane + next) one other

-- what was written over the whole of a list
pub written_whole : {A : Type 0} (capacity : ℕ) (old new : List A) → length new ≡ length old → length old ≤ capacity → new ≡ take capacity (new ++ drop (length new) old)
written_whole capacity old new same fits =
    let none : drop (length new) old ≡ [] = drop_all (length new) old (omega arith) in
    sym (ap (λ (l : List _). take capacity (new ++ l)) none ∙ ap (take capacity) (append-nil new) ∙ take_all capacity new (omega arith))
