-- Ranks of a part, and of its plan over padded images.
use Rattle.std.proofs.Common.{rules, ℕ, ◌≡◌, ◌+◌, ◌-◌, ◌<◌, ◌≤◌, ◌&&◌, Bool, true, false, cond, List, [], ◌∷◌, ◌++◌, length, map, filter, get_or, refl, sym, ap, ap₂, ◌∙◌, arith, zero, suc, subst, append-nil, append_assoc, length-append, Option, Some, slice_get, All}
use Rattle.std.proofs.lemmas.Bool.{le-leb, lt-ltb}
use Rattle.std.proofs.lemmas.List.{map-append}
use Rattle.std.proofs.lemmas.List.Elements.{All-append, All-cons, All-head, All-nil, All-tail}
use Rattle.std.proofs.lemmas.Option.{slice_get-get_or}
use Rattle.std.specs.List.{range_with_len}
use Rattle.common_pages.proofs.HeadByHead.{passes_are}
use Rattle.common_pages.specs.Pages.{HoldsBased, ranks_of}
use Rattle.head_walk.specs.declared.parts.Line.{Line}
use Rattle.raid_params.specs.declared.types.Geometry.{Geometry}
use Rattle.search_plan.specs.declared.plan.Plan.{Plan}
use Rattle.slot_math.specs.Space.{lists_of}
use Rattle.wide_product.specs.PaddedParts.{IsPaddedPart}
use Rattle.wide_product.specs.Parts.{IsPartOf}
use Rattle.wide_product.proofs.Products.{common_set, common_total}
use Rattle.wide_product.specs.Sets.{based, padded_bytes, wide_passes_at, wide_sets, wide_total, Based}
use Rattle.wide_product.specs.declared.padded_part.PaddedPart.{PaddedPart}
use Rattle.wide_product.specs.declared.parts.Part.{Part}
use Rattle.page_engine.specs.Lines.{AddsPadded, is_inside, IsPaddedLine, padded_ranks}

-- a rank of the part
inside : (part : Part) (first rank : ℕ) → first ≤ rank → rank < first + part.count → is_inside part first rank ≡ true
inside part first rank low high = ap₂ (λ (a b : Bool). a && b) (le-leb first rank low) (lt-ltb rank (first + part.count) high)

-- the ranks of a range that pass, where a rank of the part's plan passes as the one of the product does
pub ranks_move : (part : Part) (first : ℕ) (p q : ℕ → Bool) (a b n : ℕ) → first ≤ a → a + n ≤ first + part.count → b ≡ part.first + (a - first) →
    ((k : ℕ) → k < part.count → p (first + k) ≡ q (part.first + k)) →
    (padded_ranks part first (filter p (range_with_len a n)) ≡ filter q (range_with_len b n)) × (length (filter q (range_with_len b n)) ≡ length (filter p (range_with_len a n)))
unfolding padded_ranks
ranks_move part first p q a b zero low high is same = (refl, refl)
ranks_move part first p q a b (suc n) low high is same =
    let rest = ranks_move part first p q (a + 1) (b + 1) n (omega arith) (omega arith) (omega arith) same in
    let here : p a ≡ q b = ap p (let e : a ≡ first + (a - first) = omega arith in e) ∙ same (a - first) (omega arith) ∙ ap q (sym is) in
    let xs = filter p (range_with_len (a + 1) n) in
    let ys = filter q (range_with_len (b + 1) n) in
    by (p a) (q b) here xs ys rest.0 rest.1
  where
    by : (s t : Bool) → s ≡ t → (xs ys : List ℕ) → padded_ranks part first xs ≡ ys → length ys ≡ length xs →
        (padded_ranks part first (cond s (a ∷ xs) xs) ≡ cond t (b ∷ ys) ys) × (length (cond t (b ∷ ys) ys) ≡ length (cond s (a ∷ xs) xs))
    by true true e xs ys are long =
        (ap (λ (t : Bool). cond t ((part.first + (a - first)) ∷ padded_ranks part first xs) (padded_ranks part first xs)) (inside part first a low (omega arith)) ∙ ap₂ (λ (n : ℕ) (l : List ℕ). n ∷ l) (sym is) are, ap suc long)
    by false false e xs ys are long = (are, long)
    by true false e xs ys are long = absurd (search rules)
    by false true e xs ys are long = absurd (search rules)

-- no line yet
pub adds_none : (part : Part) (first : ℕ) (lines : List Line) → AddsPadded part first [] lines lines
unfolding padded_ranks
adds_none part first lines = record { ranks = sym (append-nil (ranks_of lines)); sets = λ plan padded is is_padded at found old. old; most = omega arith }

padded_ranks_append : (part : Part) (first : ℕ) (xs ys : List ℕ) → padded_ranks part first (xs ++ ys) ≡ padded_ranks part first xs ++ padded_ranks part first ys
unfolding padded_ranks
padded_ranks_append part first [] ys = refl
padded_ranks_append part first (x ∷ xs) ys =
    let rest = padded_ranks_append part first xs ys in
    by (is_inside part first x) (padded_ranks part first (xs ++ ys)) (padded_ranks part first xs) rest
  where
    by : (b : Bool) (all front : List ℕ) → all ≡ front ++ padded_ranks part first ys → cond b ((part.first + (x - first)) ∷ all) all ≡ cond b ((part.first + (x - first)) ∷ front) front ++ padded_ranks part first ys
    by true all front e = ap (λ (l : List ℕ). (part.first + (x - first)) ∷ l) e
    by false all front e = e

pub all_front : {X : Type 0} (P : X → Type 0) (xs : List X) (y : X) → All P (xs ++ y ∷ []) → All P xs × P y
all_front P [] y all = (All-nil P, All-head P y [] all)
all_front P (x ∷ xs) y all =
    let rest = all_front P xs y (All-tail P x (xs ++ y ∷ []) all) in
    (All-cons P x xs (All-head P x (xs ++ y ∷ []) all) rest.0, rest.1)

some_same : {A : Type 0} (x y : A) → (let l : Option A = Some x in let r : Option A = Some y in l ≡ r) → x ≡ y
some_same {A} x y e = search rules

-- the images of a part's plan have a common offset
pub common_part : (plan : Plan) (part : Part) (made : PaddedPart) → IsPaddedPart plan part made → made.plan.each ≡ false
common_part plan part made is = ap (λ (p : Plan). p.each) is.is

-- a part stands within its plan
pub part_within : (plan : Plan) (part : Part) (made : PaddedPart) → IsPaddedPart plan part made → made.first + part.count ≤ wide_total made.plan
part_within plan part made is =
    let same = common_total made.plan (common_part plan part made is) in
    let within = is.within in
    omega arith

-- a rank of the part's plan passes as the one of the product does
pub passes_there : (plan : Plan) (part : Part) (made : PaddedPart) → IsPaddedPart plan part made → (images : List (List ℕ)) (k : ℕ) → k < part.count →
    wide_passes_at (padded_bytes part.bases.items images) made.plan (made.first + k) ≡ wide_passes_at images plan (part.first + k)
passes_there plan part made is images k below =
    ap (λ (p : ℕ → Bool). p (made.first + k)) (sym (passes_are (padded_bytes part.bases.items images) made.plan (common_part plan part made is))) ∙ is.passing images k below

-- a line of the part's plan gives one of the product
holds_padded : (plan : Plan) (part : Part) (made : PaddedPart) (line padded : Line) → IsPartOf plan part → IsPaddedPart plan part made → IsPaddedLine part made.first line padded → HoldsBased made.plan line → HoldsBased plan padded
holds_padded plan part made line padded is is_padded own holds =
    let low = own.low in
    let high = own.high in
    let k = line.rank - made.first in
    let count = is.count in
    let slots = get_or (lists_of part.space) (line.rank - made.first) [] in
    let at = slice_get-get_or (lists_of part.space) (line.rank - made.first) [] (let e : line.rank - made.first < length (lists_of part.space) = omega arith in e) in
    let here : Geometry = record { head = part.head; slots = record { items = slots } } in
    let there : Based = (record { head = part.head; slots = record { items = slots } }, []) in
    let same : based line.geo ≡ there =
    some_same (based line.geo) there (sym holds ∙ ap (slice_get (wide_sets made.plan)) (let e : line.rank ≡ made.first + (line.rank - made.first) = omega arith in e)
    ∙ common_set made.plan (made.first + k) here [] (common_part plan part made is_padded) (is_padded.stand k slots at) refl) in
    ap (slice_get (wide_sets plan)) own.rank
    ∙ is.stand k slots at
    ∙ sym (ap (λ (b : Based). Some b) (own.set ∙ ap (λ (b : Based). let c : Based = (record { head = part.head; slots = b.0.slots }, part.bases.items) in c) same))

-- one line more
pub adds_one : (part : Part) (first : ℕ) (xs : List Line) (line : Line) (old mid new : List Line) (padded : Line) → AddsPadded part first xs old mid → IsPaddedLine part first line padded → new ≡ mid ++ padded ∷ [] → AddsPadded part first (xs ++ line ∷ []) old new
unfolding padded_ranks
adds_one part first xs line old mid new padded adds own is =
    let most = adds.most in
    let long = length-append mid (padded ∷ []) in
    let all = length-append xs (line ∷ []) in
    let made = ap length is in
    record {
      ranks =
          ap ranks_of is
          ∙ map-append (λ (held : Line). held.rank) mid (padded ∷ [])
          ∙ ap₂ (λ (a : List ℕ) (n : ℕ). a ++ n ∷ []) adds.ranks own.rank
          ∙ append_assoc (ranks_of old) (padded_ranks part first (map (λ (held : Line). held.rank) xs)) ((part.first + (line.rank - first)) ∷ [])
          ∙ ap (λ (l : List ℕ). ranks_of old ++ l)
          (ap (λ (b : Bool). padded_ranks part first (map (λ (held : Line). held.rank) xs) ++ cond b ((part.first + (line.rank - first)) ∷ []) []) (sym (inside part first line.rank own.low own.high))
          ∙ sym (padded_ranks_append part first (map (λ (held : Line). held.rank) xs) (line.rank ∷ []))
          ∙ ap (padded_ranks part first) (sym (map-append (λ (held : Line). held.rank) xs (line ∷ []))));
      sets = λ plan made is_part is_padded at found before.
          (let both = all_front (HoldsBased made.plan) xs line found in
          let P : ℕ → Type 0 = λ n. IsPaddedLine part n line padded in
          subst (All (HoldsBased plan)) (sym is)
          (All-append (HoldsBased plan) mid (padded ∷ []) (adds.sets plan made is_part is_padded at both.0 before)
          (All-cons (HoldsBased plan) padded [] (holds_padded plan part made line padded is_part is_padded (subst P (sym at) own) both.1) (All-nil (HoldsBased plan)))));
      most = omega arith;
    }

-- and one that is none of the part
pub adds_skip : (part : Part) (first : ℕ) (xs : List Line) (line : Line) (old new : List Line) → AddsPadded part first xs old new → is_inside part first line.rank ≡ false → AddsPadded part first (xs ++ line ∷ []) old new
unfolding padded_ranks
adds_skip part first xs line old new adds out =
    let most = adds.most in
    let all = length-append xs (line ∷ []) in
    record {
      ranks =
          adds.ranks
          ∙ ap (λ (l : List ℕ). ranks_of old ++ l)
          (sym (append-nil (padded_ranks part first (map (λ (held : Line). held.rank) xs)))
          ∙ ap (λ (b : Bool). padded_ranks part first (map (λ (held : Line). held.rank) xs) ++ cond b ((part.first + (line.rank - first)) ∷ []) []) (sym out)
          ∙ sym (padded_ranks_append part first (map (λ (held : Line). held.rank) xs) (line.rank ∷ []))
          ∙ ap (padded_ranks part first) (sym (map-append (λ (held : Line). held.rank) xs (line ∷ []))));
      sets = λ plan made is_part is_padded at found before. adds.sets plan made is_part is_padded at (all_front (HoldsBased made.plan) xs line found).0 before;
      most = omega arith;
    }
