use Rattle.std.proofs.Common.{ℕ, suc, ◌≡◌, ◌≢◌, ◌+◌, ◌<◌, List, [], ◌∷◌, ◌++◌, length, take, get_or, slice_set, sym, subst, ◌∙◌, arith, true, false}
use Rattle.std.specs.List.{All}
use Rattle.std.specs.Option.{is_some, MatchOption}
use Rattle.std.specs.declared.option.Option.{Option}
use Rattle.std.specs.declared.option.Option.TheVariants.{None, Some}
use Rattle.std.proofs.Math.Numerals.{add-one}
use Rattle.std.proofs.lemmas.List.{take_more_set}
use Rattle.std.proofs.lemmas.List.Elements.{All-push}
use Rattle.row_relations.specs.declared.combination.Combination.{Combination}
use Rattle.row_relations.specs.declared.standing.Standing.TheVariants.{Zero, Independent, Dependent}
use Rattle.row_relations.specs.Rows.{byte_of, IsZeros}
use Rattle.row_relations.specs.Tables.{no_weights}
use Rattle.row_relations.specs.Stages.{with_image, IsRest, IsStage, VanishAt}
use Rattle.row_relations.proofs.Stages.{dependent_stands, first_rest, stage_adds, stage_skips, zero_stands, IsNormal}
use Rattle.row_relations.proofs.elimination.place.Goals as goal

-- what the test for zeros says
zeros_in : (sectors sector : List ℕ) (n : ℕ) (found : Option ℕ) → length sector ≡ 512 → ((c : ℕ) → c < 512 → get_or sector c 0 ≡ byte_of sectors n c) → is_some found ≡ false →
    MatchOption found (All (λ x. x ≡ 0) sector) (λ i. (i < length sector) × (get_or sector i 0 ≢ 0) × ((k : ℕ) → k < i → get_or sector k 0 ≡ 0)) → IsZeros sectors n
zeros_in sectors sector n None long same e all c inside = sym (same c inside) ∙ all c 0 (omega arith)
zeros_in sectors sector n (Some i) long same e all c inside = cc

some_in : (sectors sector : List ℕ) (n : ℕ) (found : Option ℕ) → length sector ≡ 512 → ((c : ℕ) → c < 512 → get_or sector c 0 ≡ byte_of sectors n c) → is_some found ≡ true →
    MatchOption found (All (λ x. x ≡ 0) sector) (λ i. (i < length sector) × (get_or sector i 0 ≢ 0) × ((k : ℕ) → k < i → get_or sector k 0 ≡ 0)) → IsZeros sectors n → ⊥
some_in sectors sector n None long same e all zeros = cc
some_in sectors sector n (Some i) long same e all zeros = all.1 (let lt : i < 512 = omega (arith, all.0) in same i lt ∙ zeros i lt)

pub returns-then-is_none-clause-stage : goal.returns-then-is_none-clause-stage
returns-then-is_none-clause-stage c table in_s in_w h =
    let n = c.args.image in
    let sectors = c.args.sectors.now in
    let kept = take c.args.rank c.args.kept.now in
    let rest = c.of_image-rest.result in
    let zeros = zeros_in sectors rest.sector n c.first_nonzero.result c.of_image-rest.ensures.long c.of_image-rest.ensures.sector c.if-is_none.ensures c.first_nonzero.ensures in
    subst (λ (k : ℕ). IsStage sectors (with_image table n Zero c.zero_weights-weights.result) k kept) (sym (add-one n))
    (subst (λ (ws : List ℕ). IsStage sectors (with_image table n Zero ws) (suc n) kept) (sym c.zero_weights-weights.ensures)
    (stage_skips sectors table n Zero no_weights in_s in_w kept (λ e. cc) (zero_stands sectors table n in_s in_w zeros) h))

pub returns-in_default-clause-stage : goal.returns-in_default-clause-stage
returns-in_default-clause-stage c table in_s in_w h =
    let n = c.args.image in
    let sectors = c.args.sectors.now in
    let kept = take c.args.rank c.args.kept.now in
    let rest = c.reduce.new.rest in
    let some = some_in sectors c.of_image-rest.result.sector n c.first_nonzero.result c.of_image-rest.ensures.long c.of_image-rest.ensures.sector c.if-is_none.ensures c.first_nonzero.ensures in
    let first = first_rest sectors table n c.of_image-rest.result c.of_image-rest.ensures.sector c.of_image-rest.ensures.weights in
    let is : IsRest sectors table n rest = c.reduce.ensures.rest sectors table n (λ i. omega (arith, c.type_inv.sectors i)) (omega arith) h.combinations first in
    subst (λ (k : ℕ). IsStage sectors (with_image table n Dependent rest.weights) k kept) (sym (add-one n))
    (stage_skips sectors table n Dependent rest.weights in_s in_w kept (λ e. cc)
    (dependent_stands sectors table n rest in_s in_w some is (λ k inside. c.in_default.ensures {u = tt} k 0 (omega (arith, c.reduce.ensures.long)))) h)

pub returns-clause-pivots : goal.returns-clause-pivots
returns-clause-pivots c =
    subst (λ (xs : List Combination). All (λ (x : Combination). x.pivot < 512) xs) (sym (take_more_set c.args.kept.now c.args.rank c.normalize.new.self c.requires.rank))
    (All-push (λ (x : Combination). x.pivot < 512) (take c.args.rank c.args.kept.now) c.normalize.new.self c.requires.pivots
    (subst (λ (q : ℕ). q < 512) (sym c.normalize.ensures.pivot) (let lt = (c.in-Some.ensures {u = tt}).0 in omega (arith, c.reduce.ensures.long))))

pub returns-clause-stage : goal.returns-clause-stage
returns-clause-stage c table in_s in_w h =
    let n = c.args.image in
    let sectors = c.args.sectors.now in
    let kept = take c.args.rank c.args.kept.now in
    let rest = c.reduce.new.rest in
    let x = c.normalize.new.self in
    let first = first_rest sectors table n c.of_image-rest.result c.of_image-rest.ensures.sector c.of_image-rest.ensures.weights in
    let is : IsRest sectors table n rest = c.reduce.ensures.rest sectors table n (λ i. omega (arith, c.type_inv.sectors i)) (omega arith) h.combinations first in
    let found = c.in-Some.ensures {u = tt} in
    let scaled = c.normalize.ensures.scaled in
    let inside : c.in-Some.pivot < 512 = omega (arith, c.reduce.ensures.long, found.0) in
    let normal : IsNormal rest x n c.in-Some.pivot scaled.0 = record { pivot = c.normalize.ensures.pivot; fits = scaled.1; inverse = scaled.2; sector = scaled.3; weights = scaled.4 } in
    let vanish : VanishAt kept (λ k. get_or rest.sector k 0) = c.reduce.ensures.vanish (λ k d lt. (h.combinations k d lt).one) h.cleared in
    subst (λ (k : ℕ). IsStage sectors (with_image table n Independent c.zero_weights-weights-2.result) k (take (c.args.rank + 1) (slice_set c.args.kept.now c.args.rank x))) (sym (add-one n))
    (subst (λ (xs : List Combination). IsStage sectors (with_image table n Independent c.zero_weights-weights-2.result) (suc n) xs) (sym (take_more_set c.args.kept.now c.args.rank x c.requires.rank))
    (subst (λ (ws : List ℕ). IsStage sectors (with_image table n Independent ws) (suc n) (kept ++ x ∷ [])) (sym c.zero_weights-weights-2.ensures)
    (stage_adds sectors table n kept rest x c.in-Some.pivot scaled.0 c.requires.image in_s in_w (λ i. omega (arith, c.type_inv.sectors i)) h is vanish inside found.1 normal)))
