-- Ranks tested one by one.
use Rattle.std.proofs.Common.{◌≡◌, ℕ, ◌+◌, ◌-◌, ◌<◌, ◌≤◌, Bool, true, false, cond, List, [], ◌∷◌, ◌++◌, length, take, refl, sym, ap, ◌∙◌, arith, append_assoc, append-nil, length-append}
use Rattle.std.proofs.lemmas.List.{take_all, take_at, get_or_at}
use Rattle.std.proofs.lemmas.Bool.{le-leb, lt-leb}
use Rattle.search_terms.specs.Page.{passing, stop_of, IsPage}
use Rattle.search_terms.proofs.Pages.{passing-split}

-- one rank
pub one_rank : (p : ℕ → Bool) (a : ℕ) → passing p a (a + 1) ≡ cond (p a) (a ∷ []) []
one_rank p a = let e : a + 1 - a ≡ 1 = omega arith in rw e refl

-- one rank more, which passes, or does not
pub passes_more : (p : ℕ → Bool) (a b : ℕ) → a ≤ b → p b ≡ true → passing p a (b + 1) ≡ passing p a b ++ b ∷ []
passes_more p a b le h = passing-split p a b (b + 1) le (omega arith) ∙ ap (λ xs. passing p a b ++ xs) (one_rank p b ∙ ap (λ t. cond t (b ∷ []) []) h)

-- one rank more that does not pass
pub passes_not : (p : ℕ → Bool) (a b : ℕ) → a ≤ b → p b ≡ false → passing p a (b + 1) ≡ passing p a b
passes_not p a b le h = passing-split p a b (b + 1) le (omega arith) ∙ (ap (λ xs. passing p a b ++ xs) (one_rank p b ∙ ap (λ t. cond t (b ∷ []) []) h) ∙ append-nil (passing p a b))

-- a page that is full
pub full : (p : ℕ → Bool) (total from size span rank : ℕ) (lines : List ℕ) → from ≤ rank → rank < stop_of total from span → lines ≡ passing p from rank ++ rank ∷ [] → p rank ≡ true → length lines ≡ size → IsPage p total from size span lines (rank + 1)
full p total from size span rank lines low below are holds many_lines =
    let stop = stop_of total from span in
    let front = passing p from rank in
    let rest = passing p (rank + 1) stop in
    let found : passing p from stop ≡ lines ++ rest = passing-split p from (rank + 1) stop (omega arith) (omega arith) ∙ ap (λ xs. xs ++ rest) (passes_more p from rank low holds ∙ sym are) in
    let at : passing p from stop ≡ front ++ rank ∷ rest = found ∙ (ap (λ xs. xs ++ rest) are ∙ append_assoc front (rank ∷ []) rest) in
    let place : length front ≡ size - 1 = omega (arith, ap length are, length-append front (rank ∷ [])) in
    let many : size ≤ length (passing p from stop) = omega (arith, ap length found, length-append lines rest) in
    record {
      front = sym (ap (take size) found ∙ take_at lines rest size many_lines);
      goes_on = rw (le-leb size (length (passing p from stop)) many, at, get_or_at front rank rest 0 (size - 1) place) refl;
    }

-- a page that ends with the range
pub short : (p : ℕ → Bool) (total from size span : ℕ) (lines : List ℕ) → lines ≡ passing p from (stop_of total from span) → length lines < size → IsPage p total from size span lines (stop_of total from span)
short p total from size span lines are few =
    let found = passing p from (stop_of total from span) in
    let less : length found < size = omega (arith, ap length are) in
    record {
      front = are ∙ sym (take_all size found (omega arith));
      goes_on = rw (lt-leb size (length found) less) refl;
    }
