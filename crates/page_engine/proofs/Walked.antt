-- Parts walked one after another.
use Rattle.std.proofs.Common.{ℕ, ◌≡◌, ◌≢◌, ◌<◌, ◌≤◌, ◌⊎◌, inl, inr, Bool, List, [], length, refl, sym, ◌∙◌, arith, subst, Option, Some, None, IfSome, All}
use Rattle.std.proofs.lemmas.Bool.{cases_lt}
use Rattle.std.proofs.lemmas.List.{length-map}
use Rattle.std.proofs.lemmas.List.Elements.{All-nil}
use Rattle.page_loop.proofs.Appended.{added_join, added_none}
use Rattle.page_loop.specs.Parts.{Added, Fills, Whole}
use Rattle.search_plan.specs.declared.plan.Plan.{Plan}
use Rattle.wide_product.specs.Sets.{wide_passes_at}
use Rattle.common_pages.specs.Pages.{HoldsBased, ranks_of}
use Rattle.page_engine.specs.Parts.{GathersPart}
use Rattle.head_walk.specs.declared.parts.Line.{Line}

-- a page that was full after ranks where it was not
fills_on : (passes : Option (ℕ → Bool)) (size a b stop next : ℕ) (xs ys zs : List ℕ) → a ≤ b → Added passes a b xs ys → Fills passes size b stop ys zs next → Fills passes size a stop xs zs next
fills_on passes size a b stop next xs ys zs low added fills =
    let forward = fills.forward in
    record { forward = omega arith; within = fills.within; added = added_join passes a b next xs ys zs low (omega arith) added fills.added; last = fills.last; many = fills.many }

-- a page in the making that has come to a rank, and is not full
pub record Comes (told : Option (List (List ℕ))) (plan : Plan) (size from stop at : ℕ) (lines : List Line) : Type 0 where
  pub low : from ≤ at
  pub high : at ≤ stop
  pub added : IfSome told (λ bytes. Added (Some (wide_passes_at bytes plan)) from at [] (ranks_of lines))
  pub sets : All (HoldsBased plan) lines
  pub room : length lines < size

-- before the first part
pub comes_first : (told : Option (List (List ℕ))) (plan : Plan) (size from stop : ℕ) (lines : List Line) → from ≤ stop → 1 ≤ size → lines ≡ [] → Comes told plan size from stop from lines
comes_first told plan size from stop lines range one none =
    subst (Comes told plan size from stop from) (sym none) (record {
      low = omega arith;
      high = range;
      added = of_told told;
      sets = All-nil (HoldsBased plan);
      room = omega arith;
    })
  where
    of_told : (known : Option (List (List ℕ))) → IfSome known (λ bytes. Added (Some (wide_passes_at bytes plan)) from from [] [])
    of_told None = tt
    of_told (Some bytes) = added_none (Some (wide_passes_at bytes plan)) from []

-- at the end of the range
pub comes_last : (told : Option (List (List ℕ))) (plan : Plan) (size from stop at : ℕ) (lines : List Line) → Comes told plan size from stop at lines → stop ≤ at → IfSome told (λ bytes. Whole (Some (wide_passes_at bytes plan)) size from [] (ranks_of lines) stop stop)
comes_last told plan size from stop at lines comes past = of_told told comes.added
  where
    of_told : (known : Option (List (List ℕ))) → IfSome known (λ bytes. Added (Some (wide_passes_at bytes plan)) from at [] (ranks_of lines)) → IfSome known (λ bytes. Whole (Some (wide_passes_at bytes plan)) size from [] (ranks_of lines) stop stop)
    of_told None added = tt
    of_told (Some bytes) added =
        let high = comes.high in
        let room = comes.room in
        let long = length-map lines (λ (held : Line). held.rank) in
        let P : ℕ → Type 0 = λ n. Added (Some (wide_passes_at bytes plan)) from n [] (ranks_of lines) in
        inl (refl, subst P (let e : at ≡ stop = omega arith in e) added, omega arith)

-- one part more
pub comes_on : (told other : Option (List (List ℕ))) (plan : Plan) (size from stop at end next : ℕ) (old new : List Line) → other ≡ told → Comes told plan size from stop at old → GathersPart other plan size at end old new next → at < end → end ≤ stop → end ≤ next → length new ≢ size → Comes told plan size from stop end new
comes_on told other plan size from stop at end next old new same comes gathers range high past few =
    let low = comes.low in
    let within = gathers.within in
    let most = gathers.most in
    let P : Option (List (List ℕ)) → Type 0 = λ o. IfSome o (λ bytes. Whole (Some (wide_passes_at bytes plan)) size at (ranks_of old) (ranks_of new) end next) in
    record {
      low = omega arith;
      high = high;
      added = of_told told comes.added (subst P same gathers.whole);
      sets = gathers.sets comes.sets;
      room = less (length new) size most few;
    }
  where
    less : (a b : ℕ) → a ≤ b → a ≢ b → a < b
    less a b le ne = elim (cases_lt a b) [
      | inl lt ↦ lt
      | inr ge ↦ absurd (ne (let e : a ≡ b = omega arith in e))
    ]

    of_told : (known : Option (List (List ℕ))) → IfSome known (λ bytes. Added (Some (wide_passes_at bytes plan)) from at [] (ranks_of old)) → IfSome known (λ bytes. Whole (Some (wide_passes_at bytes plan)) size at (ranks_of old) (ranks_of new) end next) →
        IfSome known (λ bytes. Added (Some (wide_passes_at bytes plan)) from end [] (ranks_of new))
    of_told None added whole = tt
    of_told (Some bytes) added (inl (stops, more, room)) = added_join (Some (wide_passes_at bytes plan)) from at end [] (ranks_of old) (ranks_of new) comes.low (let e : at ≤ end = omega arith in e) added more
    of_told (Some bytes) added (inr fills) = absurd (few (sym (length-map new (λ (held : Line). held.rank)) ∙ fills.many))

-- a part with which the page is full
pub comes_full : (told other : Option (List (List ℕ))) (plan : Plan) (size from stop at end next : ℕ) (old new : List Line) → other ≡ told → Comes told plan size from stop at old → GathersPart other plan size at end old new next → end ≤ stop → (next < end) ⊎ (length new ≡ size) →
    IfSome told (λ bytes. Whole (Some (wide_passes_at bytes plan)) size from [] (ranks_of new) stop next)
comes_full told other plan size from stop at end next old new same comes gathers high full =
    let P : Option (List (List ℕ)) → Type 0 = λ o. IfSome o (λ bytes. Whole (Some (wide_passes_at bytes plan)) size at (ranks_of old) (ranks_of new) end next) in
    of_told told comes.added (subst P same gathers.whole) full
  where
    of_told : (known : Option (List (List ℕ))) → IfSome known (λ bytes. Added (Some (wide_passes_at bytes plan)) from at [] (ranks_of old)) → IfSome known (λ bytes. Whole (Some (wide_passes_at bytes plan)) size at (ranks_of old) (ranks_of new) end next) → (next < end) ⊎ (length new ≡ size) →
        IfSome known (λ bytes. Whole (Some (wide_passes_at bytes plan)) size from [] (ranks_of new) stop next)
    of_told None added whole is = tt
    of_told (Some bytes) added (inl (stops, more, room)) (inl early) = absurd (omega arith)
    of_told (Some bytes) added (inl (stops, more, room)) (inr many) = let long = length-map new (λ (held : Line). held.rank) in absurd (omega arith)
    of_told (Some bytes) added (inr fills) is =
        let within = fills.within in
        let on = fills_on (Some (wide_passes_at bytes plan)) size from at end next [] (ranks_of old) (ranks_of new) comes.low added fills in
        let forward = on.forward in
        inr (record { forward = forward; within = omega arith; added = on.added; last = on.last; many = on.many })
