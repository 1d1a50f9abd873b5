-- Tallies after a run.
use Rattle.std.proofs.Common.{◌≡◌, ℕ, ◌+◌, ◌<◌, ◌≤◌, Bool, true, false, List, length, get_or, refl, ap, arith}
use Rattle.std.specs.Prelude.{nat_lt}
use Rattle.std.proofs.lemmas.Bool.Decides.{nat_tests}
use Rattle.raid_params.specs.declared.types.Geometry.{Geometry}
use Rattle.raid_terms.specs.Parity.{unsound_rows}
use Rattle.search_scope.specs.declared.scope.Scope.{Scope}
use Rattle.member_regions.specs.Regions.{Room}
use Rattle.parity_scan.specs.ImageRows.{AddAll, AddsRun, asks, HoldsSet, IsLeftAfter, rows_before, rows_of}
use Rattle.parity_scan.specs.Pass.{HoldAsked, TalliesAll, IsNextRun, NothingLeft, TalliesSome, TalliesTo}
use Rattle.parity_scan.specs.Tallies.{is_open, AllTallies}
use Rattle.parity_scan.specs.declared.runs.Run.{Run}
use Rattle.parity_scan.specs.declared.tally.Tally.{Tally}
use Rattle.parity_scan.specs.declared.tally.Tally.TheVariants.{Left, Passes, Fails}
use Rattle.parity_scan.proofs.Adding.{rows_rise}
use Rattle.parity_scan.proofs.ImageRows.{unsound_rises}

-- what a run added to the tally of a set
pub added_to : (scope : Scope) (sets : List Geometry) (run : Run) (room : Room) (old new : List Tally) (i : ℕ) (d : Tally) (e : Geometry) → AddAll scope sets 0 run room old new → i < length old →
    AddsRun scope (get_or sets i e) run room (get_or old i d) (get_or new i d)
added_to scope sets run room old new i d e adds below = let from : 0 + i ≡ i = omega arith in rw from at (adds i d e below)

not_below : (n m : ℕ) → nat_lt n m ≡ false → m ≤ n
not_below n m e = grind (arith, nat_tests)

-- no rows are before a sector but the tested ones
rows_most : (scope : Scope) (geo : Geometry) (sector : ℕ) → rows_before scope geo sector ≤ rows_of scope geo
rows_most scope geo sector = omega arith

some_asked : (images : List (List ℕ)) (scope : Scope) (geo : Geometry) (run : Run) (at left : ℕ) (new : Tally) → at ≤ run.first →
    IsLeftAfter images geo (rows_before scope geo run.first) (rows_before scope geo (run.first + run.count)) left new →
    TalliesSome images scope at geo (Left left) → TalliesSome images scope (run.first + run.count) geo new
some_asked images scope geo run at left Fails later adds so_far =
    let low = unsound_rises images geo (rows_before scope geo at) (rows_before scope geo run.first) (rows_rise scope geo at run.first later) in
    let high = unsound_rises images geo (rows_before scope geo (run.first + run.count)) (rows_of scope geo) (rows_most scope geo (run.first + run.count)) in
    omega (arith, adds, so_far, low, high)
some_asked images scope geo run at left Passes later adds so_far = absurd adds
some_asked images scope geo run at left (Left k) later adds so_far =
    let low = unsound_rises images geo (rows_before scope geo at) (rows_before scope geo run.first) (rows_rise scope geo at run.first later) in
    omega (arith, adds, so_far, low)

some_kept : (images : List (List ℕ)) (scope : Scope) (geo : Geometry) (at to : ℕ) (tally : Tally) → at ≤ to → TalliesSome images scope at geo tally → TalliesSome images scope to geo tally
some_kept images scope geo at to Fails later so_far = so_far
some_kept images scope geo at to Passes later so_far = so_far
some_kept images scope geo at to (Left left) later so_far = omega (arith, so_far, unsound_rises images geo (rows_before scope geo at) (rows_before scope geo to) (rows_rise scope geo at to later))

some_step : (images : List (List ℕ)) (scope : Scope) (geo : Geometry) (run : Run) (room : Room) (at : ℕ) (old new : Tally) (asking : Bool) → asks scope geo old run ≡ asking → at ≤ run.first →
    AddsRun scope geo run room old new → (asks scope geo old run ≡ true → HoldsSet images run room geo) → TalliesSome images scope at geo old → TalliesSome images scope (run.first + run.count) geo new
some_step images scope geo run room at old new false is later adds hold so_far =
    rw (adds.kept is) (some_kept images scope geo at (run.first + run.count) old (omega arith) so_far)
some_step images scope geo run room at Fails new true is later adds hold so_far = absurd cc
some_step images scope geo run room at Passes new true is later adds hold so_far = absurd cc
some_step images scope geo run room at (Left left) new true is later adds hold so_far = some_asked images scope geo run at left new later (adds.added is images (hold is)) so_far

-- samples count no more than are unsound
pub some_after : (images : List (List ℕ)) (scope : Scope) (sets : List Geometry) (run : Run) (room : Room) (at : ℕ) (old new : List Tally) → at ≤ run.first → length old ≡ length sets →
    AddAll scope sets 0 run room old new → HoldAsked images scope sets old run room →
    AllTallies (TalliesSome images scope at) sets old → AllTallies (TalliesSome images scope (run.first + run.count)) sets new
some_after images scope sets run room at old new later long adds hold so_far = λ i d e below.
    some_step images scope (get_or sets i e) run room at (get_or old i d) (get_or new i d) (asks scope (get_or sets i e) (get_or old i d) run) refl later
    (added_to scope sets run room old new i d e adds (omega arith)) (hold i d e below) (so_far i d e below)

to_asked : (images : List (List ℕ)) (scope : Scope) (geo : Geometry) (run : Run) (at left : ℕ) (new : Tally) → rows_before scope geo at ≡ rows_before scope geo run.first →
    IsLeftAfter images geo (rows_before scope geo run.first) (rows_before scope geo (run.first + run.count)) left new →
    TalliesTo images scope at geo (Left left) → TalliesTo images scope (run.first + run.count) geo new
to_asked images scope geo run at left Fails skips adds so_far =
    let same = ap (unsound_rows images geo) skips in
    let high = unsound_rises images geo (rows_before scope geo (run.first + run.count)) (rows_of scope geo) (rows_most scope geo (run.first + run.count)) in
    omega (arith, adds, so_far, same, high)
to_asked images scope geo run at left Passes skips adds so_far = absurd adds
to_asked images scope geo run at left (Left k) skips adds so_far = let same = ap (unsound_rows images geo) skips in omega (arith, adds, so_far, same)

to_kept : (images : List (List ℕ)) (scope : Scope) (geo : Geometry) (run : Run) (at : ℕ) (tally : Tally) → asks scope geo tally run ≡ false →
    (is_open tally ≡ true → rows_before scope geo at ≡ rows_before scope geo run.first) → TalliesTo images scope at geo tally → TalliesTo images scope (run.first + run.count) geo tally
to_kept images scope geo run at Fails out skips so_far = so_far
to_kept images scope geo run at Passes out skips so_far = so_far
to_kept images scope geo run at (Left left) out skips so_far =
    let few : nat_lt (rows_before scope geo run.first) (rows_before scope geo (run.first + run.count)) ≡ false = out in
    let le = not_below (rows_before scope geo run.first) (rows_before scope geo (run.first + run.count)) few in
    let rise = rows_rise scope geo run.first (run.first + run.count) (omega arith) in
    let all : rows_before scope geo at ≡ rows_before scope geo (run.first + run.count) = omega (arith, le, rise, skips refl) in
    omega (arith, ap (unsound_rows images geo) all, so_far)

to_step : (images : List (List ℕ)) (scope : Scope) (geo : Geometry) (run : Run) (room : Room) (at : ℕ) (old new : Tally) (asking : Bool) → asks scope geo old run ≡ asking →
    (is_open old ≡ true → rows_before scope geo at ≡ rows_before scope geo run.first) → AddsRun scope geo run room old new → (asks scope geo old run ≡ true → HoldsSet images run room geo) →
    TalliesTo images scope at geo old → TalliesTo images scope (run.first + run.count) geo new
to_step images scope geo run room at old new false is skips adds hold so_far = rw (adds.kept is) (to_kept images scope geo run at old is skips so_far)
to_step images scope geo run room at Fails new true is skips adds hold so_far = absurd cc
to_step images scope geo run room at Passes new true is skips adds hold so_far = absurd cc
to_step images scope geo run room at (Left left) new true is skips adds hold so_far = to_asked images scope geo run at left new (skips refl) (adds.added is images (hold is)) so_far

-- the tallies go on from one run to the next
pub to_after : (images : List (List ℕ)) (scope : Scope) (sets : List Geometry) (run : Run) (room : Room) (at : ℕ) (old new : List Tally) → length old ≡ length sets →
    IsNextRun scope sets old (length sets) at run → AddAll scope sets 0 run room old new → HoldAsked images scope sets old run room →
    AllTallies (TalliesTo images scope at) sets old → AllTallies (TalliesTo images scope (run.first + run.count)) sets new
to_after images scope sets run room at old new long next adds hold so_far = λ i d e below.
    to_step images scope (get_or sets i e) run room at (get_or old i d) (get_or new i d) (asks scope (get_or sets i e) (get_or old i d) run) refl (next.skipped i d e below)
    (added_to scope sets run room old new i d e adds (omega arith)) (hold i d e below) (so_far i d e below)

decided_step : (images : List (List ℕ)) (scope : Scope) (geo : Geometry) (at : ℕ) (tally : Tally) →
    (is_open tally ≡ true → rows_before scope geo at ≡ rows_of scope geo) → TalliesTo images scope at geo tally → TalliesAll images scope geo tally
decided_step images scope geo at Fails all so_far = so_far
decided_step images scope geo at Passes all so_far = so_far
decided_step images scope geo at (Left left) all so_far = let same = ap (unsound_rows images geo) (all refl) in omega (arith, so_far, same)

-- and are whole where no rows are left
pub decided_after : (images : List (List ℕ)) (scope : Scope) (sets : List Geometry) (at : ℕ) (tallies : List Tally) →
    NothingLeft scope sets tallies (length sets) at → AllTallies (TalliesTo images scope at) sets tallies → AllTallies (TalliesAll images scope) sets tallies
decided_after images scope sets at tallies none so_far = λ i d e below.
    decided_step images scope (get_or sets i e) at (get_or tallies i d) (none i d e below) (so_far i d e below)

-- a run of no sectors adds nothing
still_asks : (scope : Scope) (geo : Geometry) (tally : Tally) (first : ℕ) → asks scope geo tally (record { first = first; count = 0 }) ≡ false
still_asks scope geo (Left left) first =
    let same : first + 0 ≡ first = omega arith in
    let n = rows_before scope geo first in
    rw same (grind (arith, nat_tests))
still_asks scope geo Passes first = refl
still_asks scope geo Fails first = refl

pub decided_still : (images : List (List ℕ)) (scope : Scope) (sets : List Geometry) (room : Room) (at : ℕ) (old new : List Tally) → length old ≡ length sets →
    AddAll scope sets 0 (record { first = 0; count = 0 }) room old new → NothingLeft scope sets old (length sets) at → AllTallies (TalliesTo images scope at) sets old → AllTallies (TalliesAll images scope) sets new
decided_still images scope sets room at old new long adds none so_far = λ i d e below.
    let here = added_to scope sets (record { first = 0; count = 0 }) room old new i d e adds (omega arith) in
    rw (here.kept (still_asks scope (get_or sets i e) (get_or old i d) 0)) (decided_after images scope sets at old none so_far i d e below)
