-- What a run adds to a tally.
use Rattle.std.proofs.Common.{◌≡◌, ℕ, ◌+◌, ◌<◌, ◌≤◌, true, false, inl, inr, List, length, set, get_or, refl, sym, subst, ◌∙◌, arith}
use Rattle.std.proofs.lemmas.Bool.{cases_lt}
use Rattle.std.proofs.lemmas.List.{get_or_default, get_or-set_other, get_or-set_same}
use Rattle.raid_params.specs.declared.types.Geometry.{Geometry}
use Rattle.search_scope.specs.declared.scope.Scope.{Scope}
use Rattle.member_regions.specs.Regions.{Room}
use Rattle.parity_scan.specs.ImageRows.{AddsRun, asks, HoldsSet, IfLeft, IsLeftAfter, rows_before}
use Rattle.parity_scan.specs.Tallies.{is_open}
use Rattle.parity_scan.specs.declared.runs.Run.{Run}
use Rattle.parity_scan.specs.declared.tally.Tally.{Tally}
use Rattle.parity_scan.specs.declared.tally.Tally.TheVariants.{Left, Passes, Fails}

-- fewer sectors, fewer rows
pub rows_rise : (scope : Scope) (geo : Geometry) (a b : ℕ) → a ≤ b → rows_before scope geo a ≤ rows_before scope geo b
rows_rise scope geo a b le = omega arith

-- a tally that does not ask for a run is as before
pub adds_none : (scope : Scope) (geo : Geometry) (run : Run) (room : Room) (tally rest : Tally) → rest ≡ tally → asks scope geo tally run ≡ false → AddsRun scope geo run room tally rest
adds_none scope geo run room tally rest same out = record {
  kept = λ still. same;
  added = λ asking images hold. absurd (cc);
}

pub closed_asks : (scope : Scope) (geo : Geometry) (run : Run) (tally : Tally) → is_open tally ≡ false → asks scope geo tally run ≡ false
closed_asks scope geo run (Left left) is = absurd cc
closed_asks scope geo run Passes is = refl
closed_asks scope geo run Fails is = refl

-- one that is not open does not
pub stays_settled : (scope : Scope) (geo : Geometry) (run : Run) (room : Room) (tally rest : Tally) → is_open tally ≡ false → rest ≡ tally → AddsRun scope geo run room tally rest
stays_settled scope geo run room tally rest was is = adds_none scope geo run room tally rest is (closed_asks scope geo run tally was)

-- to one that asks its rows are added
pub adds_by : (scope : Scope) (geo : Geometry) (run : Run) (room : Room) (tally : Tally) (left : ℕ) (rest : Tally) → tally ≡ Left left → asks scope geo tally run ≡ true →
    ((images : List (List ℕ)) → HoldsSet images run room geo → IsLeftAfter images geo (rows_before scope geo run.first) (rows_before scope geo (run.first + run.count)) left rest) →
    AddsRun scope geo run room tally rest
adds_by scope geo run room tally left rest is asking after = record {
  kept = λ out. absurd (cc);
  added = λ still images hold.
      subst (λ (t : Tally). IfLeft t (λ l. IsLeftAfter images geo (rows_before scope geo run.first) (rows_before scope geo (run.first + run.count)) l rest)) (sym is) (after images hold);
}

-- an element of the sets from a place on
pub added_at : (scope : Scope) (sets : List Geometry) (start offset i : ℕ) (run : Run) (room : Room) (d a b : Tally) (e : Geometry) (old new : List (Tally)) → start + offset ≡ i →
    get_or old offset d ≡ a → get_or new offset d ≡ b → AddsRun scope (get_or sets (start + offset) e) run room (get_or old offset d) (get_or new offset d) → AddsRun scope (get_or sets i e) run room a b
added_at scope sets start offset i run room d a b e old new at before after adds = rw (at, before, after) at adds

-- one more tally of a piece
pub piece_more : (P : ℕ → Tally → Tally → Type 0) (k : ℕ) (first piece : List (Tally)) (new : Tally) → k < length piece →
    ((i : ℕ) (d : Tally) → i < k → P i (get_or first i d) (get_or piece i d)) → ((i : ℕ) (d : Tally) → k ≤ i → get_or piece i d ≡ get_or first i d) →
    ((d : Tally) → P k (get_or piece k d) new) → (i : ℕ) (d : Tally) → i < k + 1 → P i (get_or first i d) (get_or (set piece k new) i d)
piece_more P k first piece new inside done rest here i d lt =
    elim (cases_lt i k) [
      | inl less ↦ (let same : get_or (set piece k new) i d ≡ get_or piece i d = get_or-set_other piece k i new d (omega arith) in rw same (done i d less))
      | inr more ↦
          (let at : i ≡ k = omega arith in
          let now : get_or (set piece k new) k d ≡ new = get_or-set_same piece k new d inside in
          let was : get_or first k d ≡ get_or piece k d = sym (rest k d (omega arith)) in
          rw (at, now, was) (here d))
    ]

-- elements do not depend on what is given where there are none
pub adds_here : (scope : Scope) (sets : List Geometry) (n k : ℕ) (run : Run) (room : Room) (geo : Geometry) (piece : List (Tally)) (tally new d : Tally) (e : Geometry) → n < length sets → k < length piece →
    geo ≡ get_or sets n geo → tally ≡ get_or piece k (Left 0) → AddsRun scope geo run room tally new → AddsRun scope (get_or sets n e) run room (get_or piece k d) new
adds_here scope sets n k run room geo piece tally new d e in_sets in_piece here now adds =
    let same : geo ≡ get_or sets n e = here ∙ get_or_default sets n geo e in_sets in
    let same' : tally ≡ get_or piece k d = now ∙ get_or_default piece k (Left 0) d in_piece in
    rw (same, same') at adds
