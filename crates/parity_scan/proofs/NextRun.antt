-- Which run comes next.
use Rattle.std.proofs.Common.{◌≡◌, ℕ, ◌+◌, ◌-◌, ◌<◌, ◌≤◌, true, ◌⊎◌, inl, inr, List, length, get_or, max, refl, sym, subst, ◌∙◌, arith, Option, Some, None, MatchOption, IfSome}
use Rattle.std.specs.List.{list_any}
use Rattle.std.proofs.lemmas.Bool.{cases_lt}
use Rattle.std.proofs.lemmas.Bool.Decides.{nat_tests}
use Rattle.std.proofs.lemmas.List.Folds.{list_any_at}
use Rattle.std.proofs.lemmas.List.{get_or-map, get_or_default, length-map}
use Rattle.raid_params.specs.declared.types.Geometry.{Geometry}
use Rattle.search_scope.specs.declared.scope.Scope.{Scope}
use Rattle.member_regions.proofs.Sets.{area_below}
use Rattle.parity_scan.specs.ImageRows.{rows_before, rows_of}
use Rattle.parity_scan.specs.Tallies.{is_open, NoneOpen}
use Rattle.parity_scan.specs.Pass.{IsNextRun, IsNotLater, IsOwnRun, NothingLeft}
use Rattle.parity_scan.specs.Verdicts.{offsets_of}
use Rattle.parity_scan.specs.Windows.{is_in_window}
use Rattle.parity_scan.specs.declared.runs.Run.{Run}
use Rattle.parity_scan.specs.declared.tally.Tally.{Tally}
use Rattle.parity_scan.specs.declared.tally.Tally.TheVariants.{Left, Fails}

-- no rows of a set lie past the end or its window
rows_below : (scope : Scope) (geo : Geometry) → (rows_of scope geo ≤ scope.end - geo.head.offset) × (rows_of scope geo ≤ scope.limits.window)
rows_below scope geo = let below = area_below geo.head scope.end in (omega arith, omega arith)

-- before the first of a set's rows from a sector on there are none
skips_own : (scope : Scope) (geo : Geometry) (at first : ℕ) → at ≤ first → first ≤ max at geo.head.offset → rows_before scope geo at ≡ rows_before scope geo first
skips_own scope geo at first low high = omega arith

-- where all rows lie before a sector, they do before a later one
skips_all : (scope : Scope) (geo : Geometry) (at first : ℕ) → at ≤ first → rows_before scope geo at ≡ rows_of scope geo → rows_before scope geo at ≡ rows_before scope geo first
skips_all scope geo at first low all = omega arith

skips_less : (scope : Scope) (geo : Geometry) (at first later : ℕ) → at ≤ first → first ≤ later → rows_before scope geo at ≡ rows_before scope geo later → rows_before scope geo at ≡ rows_before scope geo first
skips_less scope geo at first later low high same = omega arith

in_own_window : (end window offset rows s : ℕ) → rows ≤ end - offset → rows ≤ window → offset ≤ s → s < offset + rows → is_in_window end window s offset ≡ true
in_own_window end window offset rows s near short low high = grind (arith, nat_tests)

-- a sector among the rows of a set lies in a window
in_some_window : (scope : Scope) (sets : List Geometry) (k s : ℕ) (e : Geometry) → k < length sets → (get_or sets k e).head.offset ≤ s → s < (get_or sets k e).head.offset + rows_of scope (get_or sets k e) →
    list_any (is_in_window scope.end scope.limits.window s) (offsets_of sets) ≡ true
in_some_window scope sets k s e below low high =
    let few = rows_below scope (get_or sets k e) in
    let here : get_or (offsets_of sets) k 0 ≡ (get_or sets k e).head.offset = get_or-map (λ (geo : Geometry). geo.head.offset) sets k e 0 below in
    let long : length (offsets_of sets) ≡ length sets = length-map sets (λ (geo : Geometry). geo.head.offset) in
    let inside : is_in_window scope.end scope.limits.window s (get_or (offsets_of sets) k 0) ≡ true =
    rw here (in_own_window scope.end scope.limits.window (get_or sets k e).head.offset (rows_of scope (get_or sets k e)) s few.0 few.1 low high) in
    list_any_at (is_in_window scope.end scope.limits.window s) (offsets_of sets) k 0 (omega arith) inside

-- of one set more none has rows left
none_more : (scope : Scope) (sets : List Geometry) (tallies : List Tally) (k at : ℕ) → NothingLeft scope sets tallies k at →
    ((e : Geometry) (d : Tally) → IsOwnRun scope (get_or sets k e) (get_or tallies k d) at None) → NothingLeft scope sets tallies (k + 1) at
none_more scope sets tallies k at so_far own = λ i d e lt opened.
    elim (cases_lt i k) [
      | inl less ↦ so_far i d e less opened
      | inr more ↦ (let same : k ≡ i = omega arith in subst (λ (n : ℕ). is_open (get_or tallies n d) ≡ true → rows_before scope (get_or sets n e) at ≡ rows_of scope (get_or sets n e)) same (own e d) opened)
    ]

-- no rows of a set lie between a sector and the run, if none lay before its own
skips_more : (scope : Scope) (geo : Geometry) (tally : Tally) (at first : ℕ) (own : Option Run) → IsOwnRun scope geo tally at own → is_open tally ≡ true → at ≤ first →
    IfSome own (λ run. first ≤ run.first) → rows_before scope geo at ≡ rows_before scope geo first
skips_more scope geo tally at first None is opened low high = skips_all scope geo at first low (is opened)
skips_more scope geo tally at first (Some run) is opened low high = skips_own scope geo at first low (omega (arith, is.0))

-- the run stays the next where that of one more set begins no earlier
keeps_next : (scope : Scope) (sets : List Geometry) (tallies : List Tally) (k at : ℕ) (run : Run) (other : Option Run) → IsNextRun scope sets tallies k at run →
    ((e : Geometry) (d : Tally) → IsOwnRun scope (get_or sets k e) (get_or tallies k d) at other) → IfSome other (λ b. run.first ≤ b.first) → IsNextRun scope sets tallies (k + 1) at run
keeps_next scope sets tallies k at run other is own low = record {
  later = is.later;
  some = is.some;
  most = is.most;
  within = is.within;
  in_window = is.in_window;
  skipped = λ i d e lt opened.
      elim (cases_lt i k) [
        | inl less ↦ is.skipped i d e less opened
        | inr more ↦
            (let same : i ≡ k = omega arith in
            rw same (skips_more scope (get_or sets k e) (get_or tallies k d) at run.first other (own e d) (rw same at opened) is.later low))
      ];
}

-- the rows before the run of one more set were skipped in those before it
skips_before : (scope : Scope) (sets : List Geometry) (tallies : List Tally) (k at first : ℕ) (one : Option Run) →
    MatchOption one (NothingLeft scope sets tallies k at) (IsNextRun scope sets tallies k at) → at ≤ first → IfSome one (λ run. first ≤ run.first) →
    (i : ℕ) (d : Tally) (e : Geometry) → i < k → is_open (get_or tallies i d) ≡ true → rows_before scope (get_or sets i e) at ≡ rows_before scope (get_or sets i e) first
skips_before scope sets tallies k at first None so_far low high i d e lt opened = skips_all scope (get_or sets i e) at first low (so_far i d e lt opened)
skips_before scope sets tallies k at first (Some run) so_far low high i d e lt opened = skips_less scope (get_or sets i e) at first run.first low high (so_far.skipped i d e lt opened)

-- the run of one more set is the next where none before begins earlier
turns_next : (scope : Scope) (sets : List Geometry) (tallies : List Tally) (k at : ℕ) (run : Run) (one : Option Run) (e : Geometry) → k < length sets →
    MatchOption one (NothingLeft scope sets tallies k at) (IsNextRun scope sets tallies k at) →
    ((e : Geometry) (d : Tally) → IsOwnRun scope (get_or sets k e) (get_or tallies k d) at (Some run)) → IfSome one (λ a. run.first ≤ a.first) → IsNextRun scope sets tallies (k + 1) at run
turns_next scope sets tallies k at run one e below so_far own low =
    let is = own e Fails in
    let few = rows_below scope (get_or sets k e) in
    record {
      later = omega (arith, is.0);
      some = is.1;
      most = is.2;
      within = omega (arith, is.0, is.1, is.3, few.0);
      in_window = λ s from to. in_some_window scope sets k s e below (omega (arith, is.0)) (omega (arith, is.3));
      skipped = λ i d e' lt opened.
          elim (cases_lt i k) [
            | inl less ↦ skips_before scope sets tallies k at run.first one so_far (omega (arith, is.0)) low i d e' less opened
            | inr more ↦
                (let same : i ≡ k = omega arith in
                rw same (skips_more scope (get_or sets k e') (get_or tallies k d) at run.first (Some run) (own e' d) (rw same at opened) (omega (arith, is.0)) (omega arith)))
          ];
    }

-- elements do not depend on what is given where there are none
pub own_at : (scope : Scope) (sets : List Geometry) (tallies : List Tally) (k at : ℕ) (geo : Geometry) (tally : Tally) (e : Geometry) (d : Tally) (other : Option Run) → k < length sets → k < length tallies →
    geo ≡ get_or sets k geo → tally ≡ get_or tallies k (Left 0) → IsOwnRun scope geo tally at other → IsOwnRun scope (get_or sets k e) (get_or tallies k d) at other
own_at scope sets tallies k at geo tally e d other in_sets in_tallies here now own =
    let same : geo ≡ get_or sets k e = here ∙ get_or_default sets k geo e in_sets in
    let same' : tally ≡ get_or tallies k d = now ∙ get_or_default tallies k (Left 0) d in_tallies in
    rw (same, same') at own

no_later : (one : Option Run) → IsNotLater None one → one ≡ None
no_later None never = refl
no_later (Some run) never = absurd never

-- one more set
pub next_more : (scope : Scope) (sets : List Geometry) (tallies : List Tally) (k at : ℕ) (e : Geometry) (one other next : Option Run) → k < length sets →
    MatchOption one (NothingLeft scope sets tallies k at) (IsNextRun scope sets tallies k at) →
    ((e : Geometry) (d : Tally) → IsOwnRun scope (get_or sets k e) (get_or tallies k d) at other) →
    ((next ≡ one) ⊎ (next ≡ other)) → IsNotLater next one → IsNotLater next other →
    MatchOption next (NothingLeft scope sets tallies (k + 1) at) (IsNextRun scope sets tallies (k + 1) at)
next_more scope sets tallies k at e one other None below so_far own either before beside =
    let none = no_later one before in
    let none' = no_later other beside in
    none_more scope sets tallies k at (rw none at so_far) (rw none' at own)
next_more scope sets tallies k at e one other (Some run) below so_far own (inl is) before beside =
    keeps_next scope sets tallies k at run other (rw (sym is) at so_far) own beside
next_more scope sets tallies k at e one other (Some run) below so_far own (inr is) before beside =
    turns_next scope sets tallies k at run one e below so_far (rw (sym is) at own) before

-- where no tally is open, nothing is left
pub none_left : (scope : Scope) (sets : List Geometry) (tallies : List Tally) (n at : ℕ) → n ≤ length tallies → NoneOpen tallies → NothingLeft scope sets tallies n at
none_left scope sets tallies n at le none = λ i d e lt opened.
    let there : list_any is_open tallies ≡ true = list_any_at is_open tallies i d (omega arith) opened in
    absurd cc
