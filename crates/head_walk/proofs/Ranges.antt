-- Sets appended range by range.
use Rattle.std.proofs.Common.{◌≡◌, ℕ, zero, suc, ◌+◌, ◌-◌, ◌<◌, ◌≤◌, Bool, true, false, List, [], ◌∷◌, ◌++◌, map, refl, sym, ap, ap₂, ◌∙◌, arith, append_assoc, append-nil, IfSome, Option, Some, None, inl, inr, slice_get, All}
use Rattle.std.proofs.lemmas.Bool.{cases_Bool}
use Rattle.std.proofs.lemmas.List.Elements.{All-append, All-cons, All-nil}
use Rattle.std.proofs.lemmas.List.{map-append}
use Rattle.search_terms.specs.Page.{passing}
use Rattle.search_terms.proofs.Pages.{passing-split}
use Rattle.plan_sets.specs.Sets.{passes_at, sets_of}
use Rattle.raid_params.specs.declared.types.Geometry.{Geometry}
use Rattle.search_plan.specs.declared.plan.Plan.{Plan}
use Rattle.set_product.specs.declared.heads.HeadSets.{HeadSets}
use Rattle.candidate_enum.specs.Survivors.{all_admitted, question}
use Rattle.head_walk.specs.Walk.{HoldsSet, AddsRange, IsHeadOf, IsLineOf, LeavesOutNone, NonePass, Ranked}
use Rattle.head_walk.specs.declared.parts.Line.{Line}
use Rattle.head_walk.proofs.Leaves.{Refused}
use Rattle.page_loop.proofs.RankByRank.{passes_more, passes_not}

-- the ranks of lines
abbrev ranks : List Line → List ℕ
ranks lines = map (λ held. held.rank) lines

-- no rank lies in an empty range
no_ranks : (p : ℕ → Bool) (from : ℕ) → passing p from from ≡ []
no_ranks p from = let e : from - from ≡ 0 = omega arith in rw e refl

-- no rank
pub adds_none : (told : Option (List (List ℕ))) (plan : Plan) (from : ℕ) (lines : List Line) → AddsRange told plan from from lines lines
adds_none None plan from lines = record { lines = tt; sets = λ all. all }
adds_none (Some bytes) plan from lines = record {
  lines = sym (append-nil (ranks lines)) ∙ ap (λ (xs : List ℕ). ranks lines ++ xs) (sym (no_ranks (passes_at bytes plan) from));
  sets = λ all. all;
}

-- where none passes
none_pass : (p : ℕ → Bool) (from a n : ℕ) → from ≤ a → ((rank : ℕ) → a ≤ rank → rank < a + n → p rank ≡ false) → passing p from (a + n) ≡ passing p from a
none_pass p from a zero low none = ap (passing p from) (let e : a + 0 ≡ a = omega arith in e)
none_pass p from a (suc n) low none =
    ap (passing p from) (let e : a + suc n ≡ a + n + 1 = omega arith in e)
    ∙ passes_not p from (a + n) (omega arith) (none (a + n) (omega arith) (omega arith))
    ∙ none_pass p from a n low (λ rank lo hi. none rank lo (omega arith))

-- ranks past those that pass
pub adds_past : (told : Option (List (List ℕ))) (plan : Plan) (from a b : ℕ) (old new : List Line) → AddsRange told plan from a old new → from ≤ a → a ≤ b → NonePass told plan a b → AddsRange told plan from b old new
adds_past None plan from a b old new adds low high none = record { lines = tt; sets = adds.sets }
adds_past (Some bytes) plan from a b old new adds low high none =
    let end : a + (b - a) ≡ b = omega arith in
    record {
      lines = adds.lines ∙ ap (λ (xs : List ℕ). ranks old ++ xs) (sym (none_pass (passes_at bytes plan) from a (b - a) low (λ rank lo hi. none rank lo (omega arith))) ∙ ap (passing (passes_at bytes plan) from) end);
      sets = adds.sets;
    }

-- a set that passes, after ranks of which none does
pub adds_line : (told : Option (List (List ℕ))) (plan : Plan) (from a : ℕ) (set : Ranked) (line : Line) (old mid : List Line) → IsLineOf set line → AddsRange told plan from a old mid → from ≤ a → a ≤ set.rank → NonePass told plan a set.rank →
    slice_get (sets_of plan) set.rank ≡ Some set.geo → IfSome told (λ bytes. passes_at bytes plan set.rank ≡ true) → AddsRange told plan from (set.rank + 1) old (mid ++ line ∷ [])
adds_line told plan from a set line old mid is adds low high none there passes = with_it told passes (adds_past told plan from a set.rank old mid adds low high none)
  where
    still : (All (HoldsSet plan) old → All (HoldsSet plan) mid) → All (HoldsSet plan) old → All (HoldsSet plan) (mid ++ line ∷ [])
    still keeps all =
        All-append (HoldsSet plan) mid (line ∷ []) (keeps all)
        (All-cons (HoldsSet plan) line [] (ap (slice_get (sets_of plan)) is.rank ∙ there ∙ sym (ap (λ (geo : Geometry). Some geo) is.geo), is.bases) (All-nil (HoldsSet plan)))

    with_it : (known : Option (List (List ℕ))) → IfSome known (λ bytes. passes_at bytes plan set.rank ≡ true) → AddsRange known plan from set.rank old mid → AddsRange known plan from (set.rank + 1) old (mid ++ line ∷ [])
    with_it None passing_it all = record { lines = tt; sets = still all.sets }
    with_it (Some bytes) passing_it all = record {
      lines =
          map-append (λ (held : Line). held.rank) mid (line ∷ [])
          ∙ ap₂ (λ (xs : List ℕ) (n : ℕ). xs ++ n ∷ []) all.lines is.rank
          ∙ append_assoc (ranks old) (passing (passes_at bytes plan) from set.rank) (set.rank ∷ [])
          ∙ ap (λ (xs : List ℕ). ranks old ++ xs) (sym (passes_more (passes_at bytes plan) from set.rank (omega arith) passing_it));
      sets = still all.sets;
    }

-- one range after the other
pub adds_join : (told : Option (List (List ℕ))) (plan : Plan) (from mid to : ℕ) (a b c : List Line) → AddsRange told plan from mid a b → AddsRange told plan mid to b c → from ≤ mid → mid ≤ to → AddsRange told plan from to a c
adds_join None plan from mid to a b c first second low high = record { lines = tt; sets = λ all. second.sets (first.sets all) }
adds_join (Some bytes) plan from mid to a b c first second low high = record {
  lines =
      second.lines
      ∙ ap (λ (xs : List ℕ). xs ++ passing (passes_at bytes plan) mid to) first.lines
      ∙ append_assoc (ranks a) (passing (passes_at bytes plan) from mid) (passing (passes_at bytes plan) mid to)
      ∙ ap (λ (xs : List ℕ). ranks a ++ xs) (sym (passing-split (passes_at bytes plan) from mid to low high));
  sets = λ all. second.sets (first.sets all);
}

-- a list of the head with a prefix that is not admitted is that of no set that passes
pub refused_fails : (told : Option (List (List ℕ))) (plan : Plan) (sets : HeadSets) (admits : List (Option ℕ) → Bool) (low high a b : ℕ) → IsHeadOf plan sets → LeavesOutNone told plan sets.head admits →
    ((k : ℕ) → a ≤ k → k < b → Refused (question sets.space admits low high) k) → NonePass told plan (sets.first + a) (sets.first + b)
refused_fails None plan sets admits low high a b is_head none refused = tt
refused_fails (Some bytes) plan sets admits low high a b is_head none refused = λ rank lo hi. one rank (rank - sets.first) (omega arith) (refused (rank - sets.first) (omega arith) (omega arith))
  where
    one : (rank k : ℕ) → sets.first + k ≡ rank → Refused (question sets.space admits low high) k → passes_at bytes plan rank ≡ false
    one rank k at out =
        elim (cases_Bool (passes_at bytes plan rank)) [
          | inl passes ↦ absurd (both (all_admitted admits out.slots) (none rank out.slots (ap (slice_get (sets_of plan)) (sym at) ∙ is_head.stand k out.slots out.list) passes) out.refusal)
          | inr fails ↦ fails
        ]
      where
        both : (b : Bool) → b ≡ true → b ≡ false → ⊥
        both true e f = cc
        both false e f = cc
