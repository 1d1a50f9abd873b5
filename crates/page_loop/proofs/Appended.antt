-- Ranks appended part after part.
use Rattle.std.proofs.Common.{ℕ, ◌≡◌, ◌+◌, ◌-◌, ◌<◌, ◌≤◌, Bool, List, [], ◌++◌, append-nil, append_assoc, refl, sym, ap, ◌∙◌, subst, arith, inl, inr, Option, Some, None, IfSome, IfOk, IfErr, Result, Ok, Err}
use Rattle.search_terms.proofs.Pages.{passing-split}
use Rattle.search_terms.specs.Page.{passing, stop_of, IsPage}
use Rattle.page_loop.proofs.RankByRank.{full, passes_more, short}
use Rattle.page_loop.specs.Parts.{Added, Fills, Gains, Whole}
use Rattle.page_loop.specs.declared.page_walk.Part.{Part}
use Rattle.page_loop.specs.declared.page_walk.Part.TheVariants.{Full, UpTo}

-- no rank lies in an empty range
no_ranks : (p : ℕ → Bool) (from : ℕ) → passing p from from ≡ []
no_ranks p from = let e : from - from ≡ 0 = omega arith in rw e refl

-- no rank
pub added_none : (passes : Option (ℕ → Bool)) (from : ℕ) (xs : List ℕ) → Added passes from from xs xs
added_none None from xs = tt
added_none (Some p) from xs = sym (append-nil xs) ∙ ap (λ (l : List ℕ). xs ++ l) (sym (no_ranks p from))

-- one range after another
pub added_join : (passes : Option (ℕ → Bool)) (a b c : ℕ) (xs ys zs : List ℕ) → a ≤ b → b ≤ c → Added passes a b xs ys → Added passes b c ys zs → Added passes a c xs zs
added_join None a b c xs ys zs low high first second = tt
added_join (Some p) a b c xs ys zs low high first second =
    second ∙ ap (λ (l : List ℕ). l ++ passing p b c) first ∙ append_assoc xs (passing p a b) (passing p b c) ∙ ap (λ (l : List ℕ). xs ++ l) (sym (passing-split p a b c low high))

-- a page that was full after ranks where it was not
fills_on : (passes : Option (ℕ → Bool)) (size a b stop next : ℕ) (xs ys zs : List ℕ) → a ≤ b → Added passes a b xs ys → Fills passes size b stop ys zs next → Fills passes size a stop xs zs next
fills_on passes size a b stop next xs ys zs low added fills =
    let forward : b < next = fills.forward in
    record {
      forward = omega arith;
      within = fills.within;
      added = added_join passes a b next xs ys zs low (omega arith) added fills.added;
      last = fills.last;
      many = fills.many;
    }

-- a part with which the page is full, after others
pub full_on : (passes other : Option (ℕ → Bool)) (size more a b now at stop next : ℕ) (xs ys zs : List ℕ) (part : Part) → other ≡ passes → more ≡ size → part ≡ Full next → a ≤ b → Added passes a b xs ys →
    Gains other more b now ys zs at stop part → Fills passes size a stop xs zs next
full_on passes other size more a b now at stop next xs ys zs part same as_many is low added gains =
    let P : Option (ℕ → Bool) → Type 0 = λ o. Gains o more b now ys zs at stop part in
    let Q : ℕ → Type 0 = λ n. Gains passes n b now ys zs at stop part in
    let R : Part → Type 0 = λ o. Gains passes size b now ys zs at stop o in
    fills_on passes size a b stop next xs ys zs low added (subst R is (subst Q as_many (subst P same gains)))

-- the next page begins no earlier than what was tested
pub full_after : (passes : Option (ℕ → Bool)) (size b now at stop next : ℕ) (ys zs : List ℕ) (part : Part) → part ≡ Full next → Gains passes size b now ys zs at stop part → b ≤ next
full_after passes size b now at stop next ys zs part is gains =
    let R : Part → Type 0 = λ o. Gains passes size b now ys zs at stop o in
    let fills = subst R is gains in
    let forward : b < next = fills.forward in
    omega arith

-- a page that a part brought to a later rank
pub record Brings (passes : Option (ℕ → Bool)) (a b now at end stop : ℕ) (xs zs : List ℕ) : Type 0 where
  pub forward : b ≤ now
  pub low : at ≤ end
  pub high : end ≤ stop
  pub tested : a ≤ now
  pub added : Added passes a now xs zs

-- a part after others, where the page is not full
pub up_on : (passes other : Option (ℕ → Bool)) (size a b now at stop end : ℕ) (xs ys zs : List ℕ) (part : Part) → other ≡ passes → part ≡ UpTo end → a ≤ b → Added passes a b xs ys → Gains other size b now ys zs at stop part →
    Brings passes a b now at end stop xs zs
up_on passes other size a b now at stop end xs ys zs part same is low added gains =
    let P : Option (ℕ → Bool) → Type 0 = λ o. Gains o size b now ys zs at stop part in
    let R : Part → Type 0 = λ o. Gains passes size b now ys zs at stop o in
    let up = subst R is (subst P same gains) in
    let forward : b ≤ now = up.2 in
    record { forward = forward; low = up.0; high = up.1; tested = omega arith; added = added_join passes a b now xs ys zs low forward added up.3 }

-- a page that was made whole after parts
whole_on : (passes : Option (ℕ → Bool)) (size a b stop next : ℕ) (xs ys zs : List ℕ) → a ≤ b → b ≤ stop → Added passes a b xs ys → Whole passes size b ys zs stop next → Whole passes size a xs zs stop next
whole_on passes size a b stop next xs ys zs low high added (inl (end, rest, few)) = inl (end, added_join passes a b stop xs ys zs low high added rest, few)
whole_on passes size a b stop next xs ys zs low high added (inr fills) = inr (fills_on passes size a b stop next xs ys zs low added fills)

-- a page that a call made whole after parts
pub whole_ok : {F : Type 0} (passes other : Option (ℕ → Bool)) (size more a b stop : ℕ) (xs ys zs : List ℕ) (r : Result ℕ F) → other ≡ passes → more ≡ size → a ≤ b → b ≤ stop → Added passes a b xs ys → IfOk r (Whole other more b ys zs stop) →
    IfOk r (Whole passes size a xs zs stop)
whole_ok {F = F} passes other size more a b stop xs ys zs (Err fault) same as_many low high added whole = tt
whole_ok {F = F} passes other size more a b stop xs ys zs (Ok next) same as_many low high added whole =
    let P : Option (ℕ → Bool) → Type 0 = λ o. Whole o more b ys zs stop next in
    let Q : ℕ → Type 0 = λ n. Whole passes n b ys zs stop next in
    whole_on passes size a b stop next xs ys zs low high added (subst Q as_many (subst P same whole))

-- where the next page begins, of what was tested meanwhile
pub next_ok : {F : Type 0} (passes : Option (ℕ → Bool)) (size b stop : ℕ) (ys zs : List ℕ) (r : Result ℕ F) (R Q : ℕ → Type 0) → b ≤ stop → ((next : ℕ) → b ≤ next → R next → Q next) → IfOk r (Whole passes size b ys zs stop) → IfOk r R → IfOk r Q
next_ok {F = F} passes size b stop ys zs (Err fault) R Q high goes whole reads = tt
next_ok {F = F} passes size b stop ys zs (Ok next) R Q high goes whole reads = goes next (after whole) reads
  where
    after : Whole passes size b ys zs stop next → b ≤ next
    after (inl (end, rest, few)) = omega arith
    after (inr fills) = let forward : b < next = fills.forward in omega arith

-- what holds of each fault
pub fault_on : {A F : Type 0} (r : Result A F) (P Q : F → Type 0) → ((fault : F) → P fault → Q fault) → IfErr r P → IfErr r Q
fault_on {A = A} {F = F} (Ok a) P Q goes fails = tt
fault_on {A = A} {F = F} (Err fault) P Q goes fails = goes fault fails

-- the page of ranks of which none was there before
pub whole_page : (passes other : Option (ℕ → Bool)) (total size more from tested stop span next : ℕ) (xs zs : List ℕ) → other ≡ passes → more ≡ size → tested ≡ from → xs ≡ [] → stop ≡ stop_of total from span →
    Whole other more tested xs zs stop next → IfSome passes (λ p. IsPage p total from size span zs next)
whole_page passes other total size more from tested stop span next xs zs same as_many at none is whole =
    let P : Option (ℕ → Bool) → Type 0 = λ o. Whole o more tested xs zs stop next in
    let Q : ℕ → Type 0 = λ n. Whole passes n tested xs zs stop next in
    let R : ℕ → Type 0 = λ n. Whole passes size n xs zs stop next in
    let S : List ℕ → Type 0 = λ l. Whole passes size from l zs stop next in
    by passes (subst S none (subst R at (subst Q as_many (subst P same whole))))
  where
    by : (known : Option (ℕ → Bool)) → Whole known size from [] zs stop next → IfSome known (λ p. IsPage p total from size span zs next)
    by None w = tt
    by (Some p) (inl (end, added, few)) =
        let T : ℕ → Type 0 = λ n. IsPage p total from size span zs n in
        subst T (sym is ∙ sym end) (short p total from size span zs (added ∙ ap (passing p from) is) few)
    by (Some p) (inr fills) =
        let forward : from < next = fills.forward in
        let within : next ≤ stop = fills.within in
        let back : next - 1 + 1 ≡ next = omega arith in
        let T : ℕ → Type 0 = λ n. IsPage p total from size span zs n in
        subst T back
        (full p total from size span (next - 1) zs (omega arith) (omega arith)
        (fills.added ∙ ap (passing p from) (sym back) ∙ passes_more p from (next - 1) (omega arith) fills.last)
        fills.last fills.many)
