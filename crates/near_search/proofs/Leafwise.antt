-- A walk over the admitted slot lists of a head, leaf by leaf.
use Rattle.std.proofs.Common.{ℕ, zero, suc, ◌≡◌, ◌+◌, ◌-◌, ◌<◌, ◌≤◌, Bool, true, false, cond, List, [], ◌∷◌, ◌++◌, length, map, take, filter, append-nil, append_assoc, length-append, get_or, slice_get, refl, sym, ap, ap₂, ◌∙◌, subst, arith, inl, inr, ◌≢◌, Option, Some, All}
use Rattle.std.specs.List.{AllByRecursion, range_with_len}
use Rattle.std.specs.Option.{option_map_or}
use Rattle.std.proofs.lemmas.Bool.{cases_eq}
use Rattle.std.proofs.lemmas.List.{get_or_at, map-append, take_at}
use Rattle.std.proofs.lemmas.List.Elements.{All-push}
use Rattle.slot_math.proofs.Listed.{each_get, each_kept}
use Rattle.slot_math.specs.Space.{lists_of}
use Rattle.search_terms.specs.Page.{passing}
use Rattle.search_terms.proofs.Pages.{cut}
use Rattle.candidate_enum.specs.Laws.{rank_admitted}
use Rattle.candidate_enum.specs.Survivors.{Question, all_admitted, question, survivors}
use Rattle.candidate_enum.specs.declared.leaf.Leaf.{Leaf}
use Rattle.candidate_enum.proofs.Ranks.{survivors_are_lists, survivors_by_rank}
use Rattle.page_loop.specs.Parts.{Added, Fills}
use Rattle.near_search.specs.Walk.{HoldsNear, IsHeadSets, IsPart, list_passes}
use Rattle.near_search.specs.declared.ask.NearAsk.{NearAsk}
use Rattle.near_search.specs.declared.heads.NearSets.{NearSets}
use Rattle.near_search.specs.declared.parts.NearLine.{NearLine}

-- what is walked
abbrev pub asked : NearSets → (List (Option ℕ) → Bool) → ℕ → ℕ → Question
asked sets admits from to = question sets.space admits (from - sets.first) (to - sets.first)

-- the line of a leaf
abbrev pub line_of : NearSets → Leaf → NearLine
line_of sets leaf = record { rank = sets.first + leaf.rank; set = record { head = sets.head; slots = leaf.slots } }

-- the ranks of lines
abbrev pub ranks : List NearLine → List ℕ
ranks lines = map (λ line. line.rank) lines

ranks_lines : (sets : NearSets) (leaves : List Leaf) → ranks (map (line_of sets) leaves) ≡ map (λ k. sets.first + k) (map (λ leaf. leaf.rank) leaves)
ranks_lines sets [] = refl
ranks_lines sets (leaf ∷ leaves) = ap (λ (l : List ℕ). (sets.first + leaf.rank) ∷ l) (ranks_lines sets leaves)

-- a range further on
shift : (g p : ℕ → Bool) (first a n : ℕ) → ((k : ℕ) → p (first + k) ≡ g k) → map (λ k. first + k) (filter g (range_with_len a n)) ≡ filter p (range_with_len (first + a) n)
shift g p first a zero same = refl
shift g p first a (suc n) same =
    let rest = shift g p first (a + 1) n same in
    let on : first + (a + 1) ≡ first + a + 1 = omega arith in
    step (g a) (p (first + a)) (sym (same a)) (rest ∙ ap (λ (k : ℕ). filter p (range_with_len k n)) on)
  where
    step : (b c : Bool) → b ≡ c → map (λ k. first + k) (filter g (range_with_len (a + 1) n)) ≡ filter p (range_with_len (first + a + 1) n) →
        map (λ k. first + k) (cond b (a ∷ filter g (range_with_len (a + 1) n)) (filter g (range_with_len (a + 1) n))) ≡ cond c ((first + a) ∷ filter p (range_with_len (first + a + 1) n)) (filter p (range_with_len (first + a + 1) n))
    step true true e rest = ap (λ (l : List ℕ). (first + a) ∷ l) rest
    step true false e rest = absurd (cc)
    step false true e rest = absurd (cc)
    step false false e rest = rest

-- all leaves are the ranks that pass
pub all_ranks : (sets : NearSets) (admits : List (Option ℕ) → Bool) (from to : ℕ) → IsPart sets from to → sets.count ≡ length (lists_of sets.space) →
    ranks (map (line_of sets) (survivors (asked sets admits from to))) ≡ passing (list_passes admits sets) from to
all_ranks sets admits from to part count =
    let first : sets.first ≤ from = part.begins in
    let ordered : from ≤ to = part.ordered in
    let ends : to ≤ sets.first + sets.count = part.ends in
    let at : sets.first + (from - sets.first) ≡ from = omega arith in
    let long : to - sets.first - (from - sets.first) ≡ to - from = omega arith in
    ranks_lines sets (survivors (asked sets admits from to))
    ∙ ap (map (λ k. sets.first + k)) (survivors_by_rank (asked sets admits from to) (omega arith) (omega arith))
    ∙ shift (rank_admitted (asked sets admits from to)) (list_passes admits sets) sets.first (from - sets.first) (to - sets.first - (from - sets.first))
    (λ k. ap (λ (n : ℕ). option_map_or (all_admitted admits) (slice_get (lists_of sets.space) n) false) (let e : sets.first + k - sets.first ≡ k = omega arith in e))
    ∙ ap₂ (λ (a n : ℕ). filter (list_passes admits sets) (range_with_len a n)) at long

all_unit : (xs : List ℕ) → AllByRecursion (λ x. Unit {0}) xs
all_unit [] = tt
all_unit (x ∷ xs) = (tt, all_unit xs)

at_front : {A : Type 0} (xs ys : List A) (y : A) → slice_get (xs ++ y ∷ ys) (length xs) ≡ Some y
at_front [] ys y = refl
at_front (x ∷ xs) ys y = at_front xs ys y

-- what is known of a rank that passes, after others
pub record IsNext (p : ℕ → Bool) (from to rank : ℕ) (before : List ℕ) : Type 0 where
  pub low : from ≤ rank
  pub high : rank < to
  pub passes : p rank ≡ true
  pub front : before ++ rank ∷ [] ≡ passing p from (rank + 1)

next_rank : (p : ℕ → Bool) (from to rank : ℕ) (before after : List ℕ) → from ≤ to → passing p from to ≡ before ++ rank ∷ after → IsNext p from to rank before
next_rank p from to rank before after ordered is =
    let found = passing p from to in
    let long : length (passing p from to) ≡ length before + suc (length after) = ap length is ∙ length-append before (rank ∷ after) in
    let part = cut p from (to - from) (length before) (omega arith) in
    let here : get_or (passing p from to) (length before) 0 ≡ rank = ap (λ (l : List ℕ). get_or l (length before) 0) is ∙ get_or_at before rank after 0 (length before) refl in
    let above = part.above in
    let below = part.below in
    let joined : before ++ rank ∷ after ≡ (before ++ rank ∷ []) ++ after = sym (append_assoc before (rank ∷ []) after) in
    let many : length (before ++ rank ∷ []) ≡ suc (length before) = (let l = length-append before (rank ∷ []) in omega arith) in
    record {
      low = omega arith;
      high = omega arith;
      passes = (each_get (λ (x : ℕ). Unit {0} × (p x ≡ true)) (passing p from to) (length before) rank (each_kept (λ (x : ℕ). Unit {0}) p (range_with_len from (to - from)) (all_unit (range_with_len from (to - from))))
          (ap (λ (l : List ℕ). slice_get l (length before)) is ∙ at_front before after rank)).1;
      front = sym (take_at (before ++ rank ∷ []) after (suc (length before)) many) ∙ ap (take (suc (length before))) (sym joined) ∙ ap (take (suc (length before))) (sym is) ∙ part.front ∙ ap (λ (r : ℕ). passing p from (r + 1)) here;
    }

-- a leaf after others
pub record IsLeaf (sets : NearSets) (admits : List (Option ℕ) → Bool) (from to : ℕ) (given : List Leaf) (leaf : Leaf) : Type 0 where
  pub next : IsNext (list_passes admits sets) from to (sets.first + leaf.rank) (ranks (map (line_of sets) given))
  pub list : slice_get (lists_of sets.space) leaf.rank ≡ Some leaf.slots.items

pub next_leaf : (sets : NearSets) (admits : List (Option ℕ) → Bool) (from to : ℕ) (given left later : List Leaf) (leaf : Leaf) → IsPart sets from to → sets.count ≡ length (lists_of sets.space) →
    survivors (asked sets admits from to) ≡ given ++ left → left ≡ leaf ∷ later → IsLeaf sets admits from to given leaf
next_leaf sets admits from to given left later leaf part count whole e =
    let first : sets.first ≤ from = part.begins in
    let ordered : from ≤ to = part.ordered in
    let ends : to ≤ sets.first + sets.count = part.ends in
    let is : survivors (asked sets admits from to) ≡ given ++ leaf ∷ later = whole ∙ ap (λ (l : List Leaf). given ++ l) e in
    let all : passing (list_passes admits sets) from to ≡ ranks (map (line_of sets) given) ++ (sets.first + leaf.rank) ∷ ranks (map (line_of sets) later)
    = sym (all_ranks sets admits from to part count) ∙ ap (λ (l : List Leaf). ranks (map (line_of sets) l)) is
    ∙ ap ranks (map-append (line_of sets) given (leaf ∷ later)) ∙ map-append (λ (line : NearLine). line.rank) (map (line_of sets) given) (map (line_of sets) (leaf ∷ later)) in
    record {
      next = next_rank (list_passes admits sets) from to (sets.first + leaf.rank) (ranks (map (line_of sets) given)) (ranks (map (line_of sets) later)) ordered all;
      list = survivors_are_lists (asked sets admits from to) (length given) leaf (omega arith) (omega arith) (ap (λ (l : List Leaf). slice_get l (length given)) is ∙ at_front given later leaf);
    }

-- one more leaf given
pub given_more : (given left later : List Leaf) (leaf : Leaf) (all : List Leaf) → all ≡ given ++ left → left ≡ leaf ∷ later → all ≡ (given ++ leaf ∷ []) ++ later
given_more given left later leaf all whole e = whole ∙ ap (λ (l : List Leaf). given ++ l) e ∙ sym (append_assoc given (leaf ∷ []) later)

pub lines_more : (sets : NearSets) (old page new : List NearLine) (given : List Leaf) (leaf : Leaf) → page ≡ old ++ map (line_of sets) given → new ≡ page ++ line_of sets leaf ∷ [] → new ≡ old ++ map (line_of sets) (given ++ leaf ∷ [])
lines_more sets old page new given leaf before pushed =
    pushed ∙ ap (λ (l : List NearLine). l ++ line_of sets leaf ∷ []) before ∙ append_assoc old (map (line_of sets) given) (line_of sets leaf ∷ [])
    ∙ ap (λ (l : List NearLine). old ++ l) (sym (map-append (line_of sets) given (leaf ∷ [])))

-- its line holds its set
pub holds_more : (images : ℕ) (ask : NearAsk) (sets : NearSets) (page new : List NearLine) (leaf : Leaf) → IsHeadSets images ask sets → slice_get (lists_of sets.space) leaf.rank ≡ Some leaf.slots.items → new ≡ page ++ line_of sets leaf ∷ [] →
    All (HoldsNear images ask) page → All (HoldsNear images ask) new
holds_more images ask sets page new leaf head list pushed all =
    subst (All (HoldsNear images ask)) (sym pushed) (All-push (HoldsNear images ask) page (line_of sets leaf) all (head.stand leaf.rank leaf.slots.items list))

-- where the page is full
pub page_full : (sets : NearSets) (admits : List (Option ℕ) → Bool) (from to size : ℕ) (old new : List NearLine) (given : List Leaf) (leaf : Leaf) → IsLeaf sets admits from to given leaf →
    new ≡ old ++ map (line_of sets) (given ++ leaf ∷ []) → length new ≡ size → Fills (Some (list_passes admits sets)) size from to (ranks old) (ranks new) (sets.first + leaf.rank + 1)
page_full sets admits from to size old new given leaf is lines many =
    let next = is.next in
    let low = next.low in
    let high = next.high in
    let back : sets.first + leaf.rank + 1 - 1 ≡ sets.first + leaf.rank = omega arith in
    record {
      forward = omega arith;
      within = omega arith;
      added = ap ranks lines ∙ map-append (λ (line : NearLine). line.rank) old (map (line_of sets) (given ++ leaf ∷ []))
          ∙ ap (λ (l : List ℕ). ranks old ++ l)
          (ap ranks (map-append (line_of sets) given (leaf ∷ [])) ∙ map-append (λ (line : NearLine). line.rank) (map (line_of sets) given) (line_of sets leaf ∷ []) ∙ next.front);
      last = ap (list_passes admits sets) back ∙ next.passes;
      many = ranks_long new ∙ many;
    }
  where
    ranks_long : (lines : List NearLine) → length (ranks lines) ≡ length lines
    ranks_long [] = refl
    ranks_long (line ∷ lines) = ap (λ (n : ℕ). suc n) (ranks_long lines)

pub ranks_length : (lines : List NearLine) → length (ranks lines) ≡ length lines
ranks_length [] = refl
ranks_length (line ∷ lines) = ap (λ (n : ℕ). suc n) (ranks_length lines)

-- where no leaf is left
pub page_short : (sets : NearSets) (admits : List (Option ℕ) → Bool) (from to size : ℕ) (old new : List NearLine) (given left : List Leaf) → IsPart sets from to → sets.count ≡ length (lists_of sets.space) →
    survivors (asked sets admits from to) ≡ given ++ left → left ≡ [] → new ≡ old ++ map (line_of sets) given → length new < size →
    Added (Some (list_passes admits sets)) from to (ranks old) (ranks new) × (length (ranks new) < size)
page_short sets admits from to size old new given left part count whole e lines few =
    let all : survivors (asked sets admits from to) ≡ given = whole ∙ ap (λ (l : List Leaf). given ++ l) e ∙ append-nil given in
    let long = ranks_length new in (
      ap ranks lines ∙ map-append (λ (line : NearLine). line.rank) old (map (line_of sets) given)
          ∙ ap (λ (l : List ℕ). ranks old ++ l) (ap (λ (l : List Leaf). ranks (map (line_of sets) l)) (sym all) ∙ all_ranks sets admits from to part count),
      omega arith,
    )

pub below : (new old size : ℕ) → old < size → new ≡ old + 1 → (new ≡ size → ⊥) → new < size
below new old size few more not_full = elim (cases_eq new size) [
  | inl e ↦ absurd (not_full e)
  | inr ne ↦ (let apart : new ≢ size = ne in omega arith)
]
