-- A table tells how many sectors are torn.
use Rattle.std.proofs.Common.{ℕ, ◌≡◌, ◌+◌, ◌-◌, ◌*◌, ◌<◌, ◌≤◌, Bool, true, false, cond, ◌&&◌, nat_lt, List, refl, sym, ap, ◌∙◌, arith, IsTrue, Option, Some, None}
use Rattle.std.specs.List.{count_by, sum_by, range_with_len, slice_index_or}
use Rattle.std.proofs.lemmas.Bool.{le-ltb}
use Rattle.std.proofs.lemmas.Nat.{mul-le}
use Rattle.slot_math.proofs.Held.{image_below}
use Rattle.near_mirror.specs.Copies.{copy_sector, copy_slot, near_rows, near_sectors, slot_of}
use Rattle.near_mirror.specs.Heads.{is_valid_near}
use Rattle.near_mirror.specs.Volume.{copy_image}
use Rattle.near_mirror.specs.declared.types.NearHead.{NearHead}
use Rattle.near_mirror.proofs.Chunks.{valid_chunk}
use Rattle.near_mirror.proofs.Heads.{some_members}
use Rattle.near_tables.specs.Laws.{TablesTellWhatIsTorn}
use Rattle.near_tables.specs.Tables.{IsTornTable, TornCounts, copy_held, copy_lane, copy_torn, count_between, is_torn_at, lane_counts, lane_depth, lane_gap, lane_sector, pair_torn, pairs_torn, torn_between}
use Rattle.near_tables.specs.Torn.{copies_differ, copy_depth, is_tested, is_torn, rows_tested, sectors_differ, tested_below, torn, torn_copies, with_slots}
use Rattle.near_tables.proofs.LaneRanges.{lane_within}
use Rattle.near_tables.proofs.Pairs.{by_pairs, lane_late, pair_copy, pair_sector, past_volume, volume_within}
use Rattle.near_tables.proofs.Rows.{lanes_up, tested_fewer}
use Rattle.near_tables.proofs.Sums.{sum_moved, sum_none, sum_split}

and_none : (b : Bool) → (b && false) ≡ false
and_none true = refl
and_none false = refl

-- no tested sector lies past the whole rows
pub tested_within : (head : NearHead) (end window : ℕ) → tested_below head end window ≤ near_rows head end * head.chunk
tested_within head end window =
    let few = mul-le (rows_tested head.layout.copying head.members head.layout.copies (near_rows head end)) head.chunk (near_rows head end) head.chunk (tested_fewer head.layout.copying head.members head.layout.copies (near_rows head end)) (omega arith) in
    omega arith

-- a copy past the limit is not tested
untested : (head : NearHead) (end limit first second v : ℕ) (b : Bool) → limit ≤ copy_depth head end second v → (is_tested head end limit first second v && b) ≡ false
untested head end limit first second v b past =
    ap (λ (c : Bool). (nat_lt (copy_depth head end first v) limit && c) && b) (le-ltb (copy_depth head end second v) limit past)
    ∙ ap (λ (c : Bool). c && b) (and_none (nat_lt (copy_depth head end first v) limit))

-- what is torn between two copies, chunk by chunk of a group
torn_by_pairs : (bytes : List (List ℕ)) (end window : ℕ) (head : NearHead) (slots : List (Option ℕ)) (first second : ℕ) → IsTrue (is_valid_near head) → 1 ≤ second →
    torn_copies bytes end window (with_slots head slots) first second
    ≡ sum_by (λ j. count_by (λ u. is_torn bytes end (tested_below head end window) (with_slots head slots) first second (pair_sector head.members head.chunk j u)) (range_with_len 0 (near_rows head end * head.chunk))) (range_with_len 0 head.members)
torn_by_pairs bytes end window head slots first second h later =
    let f : ℕ → ℕ = λ v. cond (is_torn bytes end (tested_below head end window) (with_slots head slots) first second v) 1 0 in
    let within = volume_within head end in
    let long : near_sectors head end + (head.members * near_rows head end * head.chunk - near_sectors head end) ≡ head.members * near_rows head end * head.chunk = omega arith in
    let none = sum_none f (0 + near_sectors head end) (head.members * near_rows head end * head.chunk - near_sectors head end)
    (λ x lt. let past = past_volume head end (0 + near_sectors head end + x) second h later (omega arith) in
    ap (λ (b : Bool). cond b 1 0) (untested head end (tested_below head end window) first second (0 + near_sectors head end + x)
    (copies_differ bytes head.offset (copy_image (with_slots head slots) first (0 + near_sectors head end + x)) (copy_sector head end first (0 + near_sectors head end + x)) (copy_image (with_slots head slots) second (0 + near_sectors head end + x)) (copy_sector head end second (0 + near_sectors head end + x)))
    (omega arith))) in
    let split = sum_split f 0 (near_sectors head end) (head.members * near_rows head end * head.chunk - near_sectors head end) in
    let all : sum_by f (range_with_len 0 (near_sectors head end + (head.members * near_rows head end * head.chunk - near_sectors head end))) ≡ sum_by f (range_with_len 0 (head.members * near_rows head end * head.chunk))
    = ap (λ (k : ℕ). sum_by f (range_with_len 0 k)) long in
    let same : sum_by f (range_with_len 0 (near_sectors head end)) ≡ sum_by f (range_with_len 0 (head.members * near_rows head end * head.chunk)) = omega arith in
    same ∙ by_pairs f head.members head.chunk (near_rows head end) (valid_chunk head h)

-- what is torn of a pair, by what its slots hold
abbrev torn_pair : List (List ℕ) → NearHead → ℕ → ℕ → ℕ → ℕ → Option ℕ → Option ℕ → ℕ → Bool
torn_pair bytes head end limit lane next one other u =
    (nat_lt (lane_depth head lane u) limit && nat_lt (lane_depth head next u) limit)
    && copies_differ bytes head.offset one (lane_sector head end lane u) other (lane_sector head end next u)

-- the same with each part in place of its equal
same_torn : (bytes : List (List ℕ)) (offset limit a b c d s t x y : ℕ) (slots : List (Option ℕ)) (m n p q : ℕ) → a ≡ b → c ≡ d → s ≡ t → x ≡ y → m ≡ n → p ≡ q →
    ((nat_lt a limit && nat_lt c limit) && copies_differ bytes offset (slice_index_or slots m None) s (slice_index_or slots p None) x)
    ≡ ((nat_lt b limit && nat_lt d limit) && copies_differ bytes offset (slice_index_or slots n None) t (slice_index_or slots q None) y)
same_torn bytes offset limit a b c d s t x y slots m n p q e f g h i j = rw (e, f, g, h, i, j) refl

pair_is : (bytes : List (List ℕ)) (end limit : ℕ) (head : NearHead) (slots : List (Option ℕ)) (first second j u : ℕ) → IsTrue (is_valid_near head) → j < head.members →
    is_torn bytes end limit (with_slots head slots) first second (pair_sector head.members head.chunk j u)
    ≡ torn_pair bytes head end limit (copy_lane head first j) (copy_lane head second j) (copy_held head slots first j) (copy_held head slots second j) u
pair_is bytes end limit head slots first second j u h lt =
    let one = pair_copy head end j first u h lt in
    let other = pair_copy head end j second u h lt in
    same_torn bytes head.offset limit (copy_depth head end first (pair_sector head.members head.chunk j u)) (lane_depth head (copy_lane head first j) u)
    (copy_depth head end second (pair_sector head.members head.chunk j u)) (lane_depth head (copy_lane head second j) u)
    (copy_sector head end first (pair_sector head.members head.chunk j u)) (lane_sector head end (copy_lane head first j) u)
    (copy_sector head end second (pair_sector head.members head.chunk j u)) (lane_sector head end (copy_lane head second j) u) slots
    (copy_slot head first (pair_sector head.members head.chunk j u)) (slot_of head.layout.copying head.members head.layout.copies first j)
    (copy_slot head second (pair_sector head.members head.chunk j u)) (slot_of head.layout.copying head.members head.layout.copies second j)
    one.depth other.depth one.sector other.sector one.slot other.slot

-- no sector of a pair is torn where a slot is empty
empty_pair : (bytes : List (List ℕ)) (head : NearHead) (end limit lane next area : ℕ) (one other : Option ℕ) →
    ((first second : ℕ) → copies_differ bytes head.offset one first other second ≡ false) → count_by (torn_pair bytes head end limit lane next one other) (range_with_len 0 area) ≡ 0
empty_pair bytes head end limit lane next area one other none =
    sum_none (λ u. cond (torn_pair bytes head end limit lane next one other u) 1 0) 0 area
    (λ x lt. ap (λ (b : Bool). cond b 1 0)
    (ap (λ (b : Bool). (nat_lt (lane_depth head lane (0 + x)) limit && nat_lt (lane_depth head next (0 + x)) limit) && b) (none (lane_sector head end lane (0 + x)) (lane_sector head end next (0 + x)))
    ∙ and_none (nat_lt (lane_depth head lane (0 + x)) limit && nat_lt (lane_depth head next (0 + x)) limit)))

-- no sector past the limit counts
to_limit : (bytes : List (List ℕ)) (head : NearHead) (end limit lane one next other area : ℕ) → IsTrue (is_valid_near head) → limit ≤ area →
    count_by (is_torn_at bytes head end limit lane one next other) (range_with_len 0 area) ≡ torn_between bytes head end limit lane one next other limit
to_limit bytes head end limit lane one next other area h le =
    let f : ℕ → ℕ = λ u. cond (is_torn_at bytes head end limit lane one next other u) 1 0 in
    let long : area ≡ limit + (area - limit) = omega arith in
    let none = sum_none f (0 + limit) (area - limit)
    (λ x lt. let late = lane_late head lane (0 + limit + x) h in
    ap (λ (b : Bool). cond ((b && nat_lt (lane_depth head next (0 + limit + x)) limit)
    && sectors_differ bytes one (head.offset + lane_sector head end lane (0 + limit + x)) other (head.offset + lane_sector head end next (0 + limit + x))) 1 0)
    (le-ltb (lane_depth head lane (0 + limit + x)) limit (omega arith))) in
    let split = sum_split f 0 limit (area - limit) in
    ap (λ (k : ℕ). sum_by f (range_with_len 0 k)) long ∙ (let e : sum_by f (range_with_len 0 (limit + (area - limit))) ≡ sum_by f (range_with_len 0 limit) = omega arith in e)

-- what the table says of a pair is what is torn of it
said : (bytes : List (List ℕ)) (images end limit area : ℕ) (head : NearHead) (table : TornCounts) (lane next : ℕ) (one other : Option ℕ) → IsTrue (is_valid_near head) → lane + lane_gap head.layout.copying ≤ next → next < head.layout.copies → limit ≤ area →
    IsTornTable bytes images head end limit table → ((i : ℕ) → one ≡ Some i → i < images) → ((i : ℕ) → other ≡ Some i → i < images) →
    count_between (lane_counts table lane next) one other ≡ count_by (torn_pair bytes head end limit lane next one other) (range_with_len 0 area)
said bytes images end limit area head table lane next None other h up most le is low below = sym (empty_pair bytes head end limit lane next area None other (λ first second. refl))
said bytes images end limit area head table lane next (Some one) None h up most le is low below = sym (empty_pair bytes head end limit lane next area (Some one) None (λ first second. refl))
said bytes images end limit area head table lane next (Some one) (Some other) h up most le is low below =
    is lane next one other up most (low one refl) (below other refl)
    ∙ sym (to_limit bytes head end limit lane one next other area h le)

-- of two copies
copies_tell : (bytes : List (List ℕ)) (images end window : ℕ) (head : NearHead) (table : TornCounts) (slots : List (Option ℕ)) (first second : ℕ) → IsTrue (is_valid_near head) → first < second → second < head.layout.copies →
    ((s i : ℕ) → slice_index_or slots s None ≡ Some i → i < images) → IsTornTable bytes images head end (tested_below head end window) table →
    pairs_torn table head slots second first ≡ torn_copies bytes end window (with_slots head slots) first second
copies_tell bytes images end window head table slots first second h up least below is =
    let many = some_members head h in
    sum_moved (pair_torn table head slots first second)
    (λ j. count_by (λ u. is_torn bytes end (tested_below head end window) (with_slots head slots) first second (pair_sector head.members head.chunk j u)) (range_with_len 0 (near_rows head end * head.chunk))) 0 0 head.members
    (λ j lt.
    said bytes images end (tested_below head end window) (near_rows head end * head.chunk) head table (copy_lane head first (0 + j)) (copy_lane head second (0 + j)) (copy_held head slots first (0 + j)) (copy_held head slots second (0 + j)) h
    (lanes_up head.layout.copying head.members head.layout.copies first second (0 + j) (omega arith) (omega arith))
    (lane_within head.layout.copying head.members head.layout.copies second (0 + j) least (omega arith))
    (tested_within head end window) is
    (below (slot_of head.layout.copying head.members head.layout.copies first (0 + j))) (below (slot_of head.layout.copying head.members head.layout.copies second (0 + j)))
    ∙ sym (sum_moved
    (λ u. cond (is_torn bytes end (tested_below head end window) (with_slots head slots) first second (pair_sector head.members head.chunk (0 + j) u)) 1 0)
    (λ u. cond (torn_pair bytes head end (tested_below head end window) (copy_lane head first (0 + j)) (copy_lane head second (0 + j)) (copy_held head slots first (0 + j)) (copy_held head slots second (0 + j)) u) 1 0)
    0 0 (near_rows head end * head.chunk)
    (λ u within. ap (λ (b : Bool). cond b 1 0) (pair_is bytes end (tested_below head end window) head slots first second (0 + j) (0 + u) h (omega arith)))))
    ∙ sym (torn_by_pairs bytes end window head slots first second h (omega arith))

pub tables_tell : TablesTellWhatIsTorn
unfolding torn
tables_tell bytes images end window head table slots h all is =
    sum_moved (copy_torn table head slots) (λ second. sum_by (λ first. torn_copies bytes end window (with_slots head slots) first second) (range_with_len 0 second)) 0 0 head.layout.copies
    (λ second least. sum_moved (pairs_torn table head slots (0 + second)) (λ first. torn_copies bytes end window (with_slots head slots) first (0 + second)) 0 0 (0 + second)
    (λ first lt. copies_tell bytes images end window head table slots (0 + first) (0 + second) h (omega arith) (omega arith)
    (λ s i e. image_below images s i slots all e) is))
