-- What most superblocks state decides.
use Rattle.std.proofs.Common.{◌≡◌, ℕ, ◌<◌, ◌≤◌, List, [], ◌∷◌, Bool, true, false, cond, ltb, fold, refl, sym, ap, ◌∙◌, arith, All}
use Rattle.std.specs.Prelude.{nat_lt, ◌&&◌}
use Rattle.std.specs.Str.{bytes_eq}
use Rattle.std.proofs.lemmas.Bool.{and_parts, false≢true, ltb-false, ltb-true}
use Rattle.std.proofs.lemmas.List.Elements.{All-cons, All-nil, All-weaker}
use Rattle.std.proofs.lemmas.Slice.Eq.{bytes_eq-Decides}
use Rattle.xfs5.specs.declared.places.XfsInodes.{XfsInodes}
use Rattle.survey_engine.specs.Majority.{MostDecide}
use Rattle.survey_engine.specs.Systems.{deciding, stronger, votes}

-- what is stated of the file system of one has no more votes than a number
abbrev AtMost : List XfsInodes → XfsInodes → ℕ → XfsInodes → Type 0
AtMost all best n other = bytes_eq best.uuid other.uuid ≡ true → votes all other ≤ n

-- what is found after some, from what was best before
abbrev end_of : List XfsInodes → List XfsInodes → XfsInodes → ℕ
end_of all xs best = votes all (fold (stronger all) best xs)

record IsMost (all xs : List XfsInodes) (best : XfsInodes) (n : ℕ) : Type 0 where
  before : votes all best ≤ n
  each : All (AtMost all best n) xs

not_more : (same more : Bool) (a b : ℕ) → (same && more) ≡ false → ltb a b ≡ more → same ≡ true → b ≤ a
not_more true more a b none is same = ltb-false a b (is ∙ none)
not_more false more a b none is same = absurd (false≢true same)

step : (all xs : List XfsInodes) (best p : XfsInodes) (b : Bool) → (bytes_eq best.uuid p.uuid && nat_lt (votes all best) (votes all p)) ≡ b →
    IsMost all xs (cond b p best) (end_of all xs (cond b p best)) → IsMost all (p ∷ xs) best (end_of all xs (cond b p best))
step all xs best p true is most =
    let parts = and_parts (bytes_eq best.uuid p.uuid) (nat_lt (votes all best) (votes all p)) is in
    let same : best.uuid ≡ p.uuid = (bytes_eq-Decides best.uuid p.uuid).0 parts.0 in
    let more : votes all best < votes all p = ltb-true (votes all best) (votes all p) parts.1 in
    let n = end_of all xs p in
    record {
      before = let top : votes all p ≤ n = most.before in omega (arith, top, more);
      each = All-cons (AtMost all best n) p xs (λ e. most.before)
          (All-weaker (AtMost all p n) (AtMost all best n) (λ o few e. few (ap (λ (u : List ℕ). bytes_eq u o.uuid) (sym same) ∙ e)) xs most.each);
    }
step all xs best p false is most =
    let n = end_of all xs best in
    record {
      before = most.before;
      each = All-cons (AtMost all best n) p xs
          (λ e. let le : votes all p ≤ votes all best = not_more (bytes_eq best.uuid p.uuid) (nat_lt (votes all best) (votes all p)) (votes all best) (votes all p) is refl e in
          let top : votes all best ≤ n = most.before in omega (arith, le, top))
          most.each;
    }

most : (all xs : List XfsInodes) (best : XfsInodes) → IsMost all xs best (end_of all xs best)
most all [] best = record { before = omega arith; each = All-nil (AtMost all best (votes all best)) }
most all (p ∷ xs) best =
    step all xs best p (bytes_eq best.uuid p.uuid && nat_lt (votes all best) (votes all p)) refl (most all xs (stronger all best p))

pub most_decide : MostDecide
unfolding deciding
most_decide all first = (most all all first).each
