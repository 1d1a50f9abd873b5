-- How many sectors are needed of all slots.
use Rattle.std.proofs.Common.{◌≡◌, ℕ, zero, suc, ◌+◌, ◌≤◌, length, map, refl, ap, sym, ◌∙◌, arith}
use Rattle.std.proofs.lemmas.List.Sums.{sum-map, sum_by-cons}
use Rattle.std.specs.List.{range_with_len, sum}
use Rattle.outside.proofs.Reading.{reads_join, reads_up}
use Rattle.outside.specs.Seen.{OnlyReads, Seen}
use Rattle.raid_params.specs.declared.types.Geometry.{Geometry}
use Rattle.lost_members.specs.Needs.{is_needed, needed_of, needed_sectors}
use Rattle.lost_members.proofs.ReadParts.{count_parts}

-- the first number apart
pub sum_first : (f : ℕ → ℕ) (a n : ℕ) → sum (map f (range_with_len a (suc n))) ≡ f a + sum (map f (range_with_len (a + 1) n))
sum_first f a n =
    sum-map f (range_with_len a (suc n)) ∙ sum_by-cons f a (range_with_len (a + 1) n) ∙ ap (λ (k : ℕ). f a + k) (sym (sum-map f (range_with_len (a + 1) n)))

-- one more number
sum_next : (f : ℕ → ℕ) (a n j : ℕ) → a + n ≡ j → sum (map f (range_with_len a (suc n))) ≡ sum (map f (range_with_len a n)) + f j
sum_next f a zero j e =
    let at : a ≡ j = omega arith in
    sum_first f a 0 ∙ ap (λ (k : ℕ). f k + 0) at ∙ omega arith
sum_next f a (suc n) j e = omega (arith, sum_first f a (suc n), sum_first f a n, sum_next f (a + 1) n j (omega arith))

-- more numbers
sum_grows : (f : ℕ → ℕ) (a n m : ℕ) → n ≤ m → sum (map f (range_with_len a n)) ≤ sum (map f (range_with_len a m))
sum_grows f a zero m le = omega arith
sum_grows f a (suc n) zero le = absurd (omega arith)
sum_grows f a (suc n) (suc m) le = omega (arith, sum_first f a n, sum_first f a m, sum_grows f (a + 1) n m (omega arith))

-- two numbers in place of one
sum_both : (f g h : ℕ → ℕ) (a n : ℕ) → ((x : ℕ) → f x ≡ g x + h x) → sum (map f (range_with_len a n)) ≡ sum (map g (range_with_len a n)) + sum (map h (range_with_len a n))
sum_both f g h a zero each = refl
sum_both f g h a (suc n) each = omega (arith, sum_first f a n, sum_first g a n, sum_first h a n, each a, sum_both f g h (a + 1) n each)

-- the readings of one more slot
pub reads_slot : (old mid new : Seen) (geo : Geometry) (first count slot : ℕ) → OnlyReads old mid (sum (map (needed_of geo first count) (range_with_len 0 slot))) →
    OnlyReads mid new (needed_of geo first count slot) → OnlyReads old new (sum (map (needed_of geo first count) (range_with_len 0 (slot + 1))))
reads_slot old mid new geo first count slot before more =
    let next : slot + 1 ≡ suc slot = omega arith in
    let all : sum (map (needed_of geo first count) (range_with_len 0 (slot + 1))) ≡ sum (map (needed_of geo first count) (range_with_len 0 slot)) + needed_of geo first count slot =
    ap (λ (n : ℕ). sum (map (needed_of geo first count) (range_with_len 0 n))) next ∙ sum_next (needed_of geo first count) 0 slot slot (omega arith) in
    reads_up old new (reads_join old mid new before more) (omega arith)

-- those of some slots are no more than those of all
pub reads_slots : (old new : Seen) (geo : Geometry) (first count slots : ℕ) → slots ≤ length geo.slots.items →
    OnlyReads old new (sum (map (needed_of geo first count) (range_with_len 0 slots))) → OnlyReads old new (needed_sectors geo first count)
unfolding needed_sectors
reads_slots old new geo first count slots le reads = reads_up old new reads (sum_grows (needed_of geo first count) 0 slots (length geo.slots.items) le)

-- the needed ones of more sectors are those of the first and of the rest
pub needed_more : (geo : Geometry) (first n m : ℕ) → needed_sectors geo first (n + m) ≡ needed_sectors geo first n + needed_sectors geo (first + n) m
unfolding needed_sectors
needed_more geo first n m =
    sum_both (needed_of geo first (n + m)) (needed_of geo first n) (needed_of geo (first + n) m) 0 (length geo.slots.items)
    (λ slot. count_parts (is_needed geo slot) first n m)

-- none of no sectors
pub needed_none : (geo : Geometry) (first : ℕ) → needed_sectors geo first 0 ≡ 0
unfolding needed_sectors
needed_none geo first = none 0 (length geo.slots.items)
  where
    none : (a n : ℕ) → sum (map (needed_of geo first 0) (range_with_len a n)) ≡ 0
    none a zero = refl
    none a (suc n) = omega (arith, sum_first (needed_of geo first 0) a n, none (a + 1) n)
