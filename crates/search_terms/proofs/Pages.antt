-- Joined pages are the whole filter.
use Rattle.std.proofs.Common.{◌≡◌, ℕ, zero, suc, ◌+◌, ◌-◌, ◌<◌, ◌≤◌, Bool, true, false, cond, nat_le, List, [], ◌∷◌, ◌++◌, length, take, get_or, filter, refl, sym, ap, arith}
use Rattle.std.specs.List.{range_with_len}
use Rattle.std.proofs.lemmas.List.{take_all}
use Rattle.std.proofs.lemmas.List.Elements.{filter-append, All-head, All-tail}
use Rattle.std.proofs.lemmas.Bool.{leb-true, leb-false}
use Rattle.search_terms.specs.Page.{passing, stop_of, IsPage, Ask, ArePages, joined, AskSome, JoinedPagesAreTheFilter, JoinedPagesAreWhatPasses, PagesGoOn}

-- a range in two parts
pub range-add : (a m n : ℕ) → range_with_len a (m + n) ≡ range_with_len a m ++ range_with_len (a + m) n
range-add a zero n = let e : 0 + n ≡ n = omega arith in let f : a + 0 ≡ a = omega arith in rw (e, f) refl
range-add a (suc m) n =
    let e : suc m + n ≡ suc (m + n) = omega arith in
    let f : a + suc m ≡ a + 1 + m = omega arith in
    rw (e, f) (ap (λ xs. a ∷ xs) (range-add (a + 1) m n))

pub passing-split : (p : ℕ → Bool) (a b c : ℕ) → a ≤ b → b ≤ c → passing p a c ≡ passing p a b ++ passing p b c
passing-split p a b c ab bc =
    let e : c - a ≡ (b - a) + (c - b) = omega arith in
    let at : a + (b - a) ≡ b = omega arith in
    rw (e, range-add a (b - a) (c - b), filter-append p, at) refl

-- place i of what passes among n numbers from a on, and what stands up to it
pub record Cut (p : ℕ → Bool) (a n i : ℕ) (found : List ℕ) : Type 0 where
  pub above : a ≤ get_or found i 0
  pub below : get_or found i 0 < a + n
  pub front : take (suc i) found ≡ passing p a (get_or found i 0 + 1)

-- a number and those after it
passing-from : (p : ℕ → Bool) (a last : ℕ) → a ≤ last → passing p a (last + 1) ≡ cond (p a) (a ∷ passing p (a + 1) (last + 1)) (passing p (a + 1) (last + 1))
passing-from p a last le = let e : last + 1 - a ≡ suc (last + 1 - (a + 1)) = omega arith in rw e refl

cut_here : (p : ℕ → Bool) (a n i : ℕ) (rest : List ℕ) → p a ≡ true → ((k : ℕ) → k < length rest → Cut p (a + 1) n k rest) → i < suc (length rest) → Cut p a (suc n) i (a ∷ rest)
cut_here p a n zero rest holds next le = record {
  above = omega arith;
  below = omega arith;
  front =
      let none : passing p (a + 1) (a + 1) ≡ [] = let e : a + 1 - (a + 1) ≡ 0 = omega arith in rw e refl in
      rw (passing-from p a a (omega arith), holds, none) refl;
}
cut_here p a n (suc k) rest holds next le =
    let c = next k (omega arith) in
    record {
      above = let h = c.above in omega arith;
      below = let h = c.below in omega arith;
      front = let h = c.above in rw (passing-from p a (get_or rest k 0) (omega arith), holds) (ap (λ xs. a ∷ xs) c.front);
    }

cut_later : (p : ℕ → Bool) (a n i : ℕ) (rest : List ℕ) → p a ≡ false → Cut p (a + 1) n i rest → Cut p a (suc n) i rest
cut_later p a n i rest fails c = record {
  above = let h = c.above in omega arith;
  below = let h = c.below in omega arith;
  front = let h = c.above in rw (passing-from p a (get_or rest i 0) (omega arith), fails) c.front;
}

pub cut : (p : ℕ → Bool) (a n i : ℕ) → i < length (filter p (range_with_len a n)) → Cut p a n i (filter p (range_with_len a n))
cut p a zero i lt = absurd (omega arith)
cut p a (suc n) i lt =
    (elim (p a) as (λ b. p a ≡ b → i < length (cond b (a ∷ filter p (range_with_len (a + 1) n)) (filter p (range_with_len (a + 1) n))) → Cut p a (suc n) i (cond b (a ∷ filter p (range_with_len (a + 1) n)) (filter p (range_with_len (a + 1) n)))) [
      | true ↦ λ holds l. cut_here p a n i (filter p (range_with_len (a + 1) n)) holds (cut p (a + 1) n) l
      | false ↦ λ fails l. cut_later p a n i (filter p (range_with_len (a + 1) n)) fails (cut p (a + 1) n i l)
    ]) refl lt

-- a page's lines are what passes from `from` up to `next`
pub record Spans (p : ℕ → Bool) (total from : ℕ) (lines : List ℕ) (next : ℕ) : Type 0 where
  pub forward : from ≤ next
  pub within : next ≤ total
  pub whole : lines ≡ passing p from next

full : (p : ℕ → Bool) (total from size span : ℕ) (lines : List ℕ) (next : ℕ) → from ≤ total → 1 ≤ size → size ≤ length (passing p from (stop_of total from span)) → lines ≡ take size (passing p from (stop_of total from span)) → next ≡ get_or (passing p from (stop_of total from span)) (size - 1) 0 + 1 → Spans p total from lines next × (from < next)
full p total from size span lines next low one many front on =
    let c = cut p from (stop_of total from span - from) (size - 1) (omega arith) in
    let e : suc (size - 1) ≡ size = omega arith in
    let above = c.above in
    let below = c.below in
    (record { forward = omega arith; within = omega arith; whole = rw (on, front, ← c.front, e) refl }, omega arith)

short : (p : ℕ → Bool) (total from size span : ℕ) (lines : List ℕ) (next : ℕ) → from ≤ total → length (passing p from (stop_of total from span)) < size → lines ≡ take size (passing p from (stop_of total from span)) → next ≡ stop_of total from span → Spans p total from lines next
short p total from size span lines next low few front on = record {
  forward = omega arith;
  within = omega arith;
  whole = rw (on, front) (take_all size (passing p from (stop_of total from span)) (omega arith));
}

pub spans : (p : ℕ → Bool) (total from size span : ℕ) (lines : List ℕ) (next : ℕ) → from ≤ total → 1 ≤ size → IsPage p total from size span lines next → Spans p total from lines next × (1 ≤ span → from < total → from < next)
spans p total from size span lines next low one page =
    let found = passing p from (stop_of total from span) in
    (elim (nat_le size (length found)) as (λ b. nat_le size (length found) ≡ b → next ≡ cond b (get_or found (size - 1) 0 + 1) (stop_of total from span) → Spans p total from lines next × (1 ≤ span → from < total → from < next)) [
      | true ↦ λ many on. let r = full p total from size span lines next low one (leb-true size (length found) many) page.front on in (r.0, λ _ _. r.1)
      | false ↦ λ few on. (short p total from size span lines next low (leb-false size (length found) few) page.front on, λ a b. omega arith)
    ]) refl page.goes_on

-- pages from one place to another have what passes between
pub pages_between : (p : ℕ → Bool) (total from : ℕ) (asks : List Ask) (pages : List (List ℕ)) (next : ℕ) → from ≤ total → AskSome asks → ArePages p total from asks pages next → Spans p total from (joined pages) next
pages_between p total from [] [] next low some are = record {
  forward = omega arith;
  within = omega arith;
  whole = let e : next - from ≡ 0 = omega arith in rw e refl;
}
pages_between p total from [] (lines ∷ pages) next low some are = absurd are
pages_between p total from (ask ∷ asks) [] next low some are = absurd are
pages_between p total from (ask ∷ asks) (lines ∷ pages) next low some are =
    let asked = All-head (λ a. (1 ≤ a.size) × (1 ≤ a.span)) ask asks some in
    let others = All-tail (λ a. (1 ≤ a.size) × (1 ≤ a.span)) ask asks some in
    let here = (spans p total from ask.size ask.span lines are.0 low asked.0 are.1).0 in
    let within = here.within in
    let rest = pages_between p total are.0 asks pages next within others are.2 in
    let forward = here.forward in
    let onward = rest.forward in
    record {
      forward = omega arith;
      within = rest.within;
      whole = rw (here.whole, rest.whole) (sym (passing-split p from are.0 next forward onward));
    }

pub pages_from_any_rank : JoinedPagesAreWhatPasses
pages_from_any_rank p total from asks pages next low some are =
    let between = pages_between p total from asks pages next low some are in
    (between.forward, between.within, between.whole)

pub joined_pages : JoinedPagesAreTheFilter
joined_pages p total asks pages some are = (pages_between p total 0 asks pages total (omega arith) some are).whole

pub pages_go_on : PagesGoOn
pages_go_on p total from size span lines next one wide low page =
    let r = spans p total from size span lines next (omega arith) one page in
    (r.1 wide low, r.0.within)
