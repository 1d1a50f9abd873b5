-- From tallies to verdicts.
use Rattle.std.proofs.Common.{◌≡◌, ℕ, suc, ◌<◌, ◌≤◌, Bool, true, false, List, [], ◌∷◌, length, get_or, map, cond, refl, sym, ap, subst, ◌∙◌, arith, Option, Some, None, All, IfSome}
use Rattle.std.proofs.lemmas.List.{ext_get_or, get_or-map, length-map}
use Rattle.std.specs.List.{list_any}
use Rattle.std.specs.Prelude.{◌||◌}
use Rattle.outside.specs.Attached.{told_all}
use Rattle.outside.specs.Seen.{Image, TellsBytes}
use Rattle.raid_layouts.proofs.Shapes.{shaped_images}
use Rattle.raid_params.specs.declared.types.Geometry.{Geometry}
use Rattle.raid_terms.specs.Parity.{passes_parity, unsound_rows}
use Rattle.search_scope.specs.declared.scope.Scope.{Scope}
use Rattle.member_regions.proofs.Room.{room_kept}
use Rattle.member_regions.specs.Regions.{IsRoomFor, KeepsRoom, Room}
use Rattle.member_regions.specs.declared.regions.TheConstants.{BLOCK}
use Rattle.parity_scan.specs.ImageRows.{rows_before, rows_of}
use Rattle.parity_scan.specs.Pass.{BeginAnew, CanScan, IsAnew, TalliesAll, TalliesSome, TalliesTo}
use Rattle.parity_scan.specs.Scan.{is_unbreakable, IsScannable}
use Rattle.parity_scan.specs.Tallies.{AllTallies, BeginsAs, has_passed, is_open, NoneOpen, unbroken_tally}
use Rattle.parity_scan.specs.Verdicts.{verdicts_of}
use Rattle.parity_scan.specs.declared.tally.Tally.{Tally}
use Rattle.parity_scan.specs.declared.tally.Tally.TheVariants.{Left, Passes, Fails}
use Rattle.parity_scan.proofs.Parity.{above, at_most}
use Rattle.parity_scan.proofs.Unbroken.{unbreakable_passes}
use Rattle.parity_scan.proofs.Sets.{scannable_testable}

first_scannable : (scope : Scope) (sets : List Geometry) (attached : List Image) → 1 ≤ length sets → All (λ geo. IsScannable geo scope.end attached) sets → (geo : Geometry) × IsScannable geo scope.end attached
first_scannable scope [] attached some all = absurd (omega arith)
first_scannable scope (geo ∷ sets) attached some all = (geo, all 0 geo (omega arith))

-- sets that can be scanned, and room for a block of each image
pub can_scan : (scope : Scope) (sets : List Geometry) (attached : List Image) (room : Room) → 1 ≤ length sets → All (λ geo. IsScannable geo scope.end attached) sets → length attached ≡ length scope.lengths.items →
    IsRoomFor (length scope.lengths.items) BLOCK room → CanScan scope sets attached room
can_scan scope sets attached room some all planned fits =
    let first = first_scannable scope sets attached some all in
    record {
      scanned = λ k d below.
          let is = all k d below in
          record { set = scannable_testable (get_or sets k d) scope.end attached is; offset = is.offset; near = is.near };
      there = λ k d below. shaped_images (get_or sets k d) (length attached) (all k d below).shaped;
      near = first.1.near;
      planned = planned;
      long = first.1.long;
      regions = fits;
    }

-- so they can while the images stay and the bytes alone change
pub can_later : (scope : Scope) (sets : List Geometry) (attached now : List Image) (room new : Room) → CanScan scope sets attached room → now ≡ attached → KeepsRoom room new → CanScan scope sets now new
can_later scope sets attached now room new can same kept =
    subst (λ (there : List Image). CanScan scope sets there new) (sym same)
    (record { scanned = can.scanned; there = can.there; near = can.near; planned = can.planned; long = can.long; regions = room_kept (length scope.lengths.items) BLOCK room new can.regions kept })

-- a set passes where rows may be unsound still
verdict_of : (images : List (List ℕ)) (scope : Scope) (geo : Geometry) (tally : Tally) → TalliesAll images scope geo tally → has_passed tally ≡ passes_parity images geo scope.end scope.limits.window scope.limits.badrows
verdict_of images scope geo (Left left) decided = sym (at_most (unsound_rows images geo (rows_of scope geo)) scope.limits.badrows (omega arith))
verdict_of images scope geo Passes decided = sym decided
verdict_of images scope geo Fails decided = sym (above (unsound_rows images geo (rows_of scope geo)) scope.limits.badrows decided)

verdicts_at : (images : List (List ℕ)) (scope : Scope) (e : Geometry) (sets : List Geometry) (tallies : List Tally) (i : ℕ) → AllTallies (TalliesAll images scope) sets tallies → length tallies ≡ length sets →
    i < length sets → get_or (map has_passed tallies) i false ≡ get_or (verdicts_of images scope sets) i false
verdicts_at images scope e sets tallies i all long below =
    get_or-map has_passed tallies i Fails false (omega arith)
    ∙ verdict_of images scope (get_or sets i e) (get_or tallies i Fails) (all i Fails e below)
    ∙ sym (get_or-map (λ (geo : Geometry). passes_parity images geo scope.end scope.limits.window scope.limits.badrows) sets i e false below)

-- the verdicts are those of the parity test
are_verdicts : (images : List (List ℕ)) (scope : Scope) (sets : List Geometry) (tallies : List Tally) → AllTallies (TalliesAll images scope) sets tallies → length tallies ≡ length sets →
    map has_passed tallies ≡ verdicts_of images scope sets
are_verdicts images scope [] [] all long = refl
are_verdicts images scope [] (tally ∷ tallies) all long = absurd (omega arith)
are_verdicts images scope (geo ∷ sets) tallies all long =
    let same : length (map has_passed tallies) ≡ length tallies = length-map tallies has_passed in
    let other : length (verdicts_of images scope (geo ∷ sets)) ≡ length (geo ∷ sets) = length-map (geo ∷ sets) (λ (one : Geometry). passes_parity images one scope.end scope.limits.window scope.limits.badrows) in
    ext_get_or false (map has_passed tallies) (verdicts_of images scope (geo ∷ sets)) (same ∙ long ∙ sym other)
    (λ i below. verdicts_at images scope geo (geo ∷ sets) tallies i all long (omega arith))

pub told_verdicts : (told : Option (List (List ℕ))) (scope : Scope) (sets : List Geometry) (tallies : List Tally) → length tallies ≡ length sets → IfSome told (λ bytes. AllTallies (TalliesAll bytes scope) sets tallies) →
    IfSome told (λ bytes. map has_passed tallies ≡ verdicts_of bytes scope sets)
told_verdicts None scope sets tallies long decided = tt
told_verdicts (Some bytes) scope sets tallies long decided = are_verdicts bytes scope sets tallies decided long

-- before the first sector there is no row
none_before : (images : List (List ℕ)) (scope : Scope) (geo : Geometry) → unsound_rows images geo (rows_before scope geo 0) ≡ 0
none_before images scope geo = let none : rows_before scope geo 0 ≡ 0 = omega arith in ap (unsound_rows images geo) none

-- the tallies with which a scan begins count no row
begins_to : (images : List (List ℕ)) (scope : Scope) (geo : Geometry) (tally : Tally) → BeginsAs (Some images) scope geo tally → TalliesTo images scope 0 geo tally
begins_to images scope geo (Left left) begin = let none = none_before images scope geo in omega arith
begins_to images scope geo Passes begin = begin
begins_to images scope geo Fails begin = absurd begin

pub all_begin : (told : Option (List (List ℕ))) (scope : Scope) (sets : List Geometry) (tallies : List Tally) → AllTallies (BeginsAs told scope) sets tallies → IfSome told (λ bytes. AllTallies (TalliesTo bytes scope 0) sets tallies)
all_begin None scope sets tallies begin = tt
all_begin (Some bytes) scope sets tallies begin = λ i d e below. begins_to bytes scope (get_or sets i e) (get_or tallies i d) (begin i d e below)

some_of_to : (images : List (List ℕ)) (scope : Scope) (geo : Geometry) (tally : Tally) → TalliesTo images scope 0 geo tally → TalliesSome images scope 0 geo tally
some_of_to images scope geo (Left left) to = omega arith
some_of_to images scope geo Passes to = to
some_of_to images scope geo Fails to = to

pub some_begin : (told : Option (List (List ℕ))) (scope : Scope) (sets : List Geometry) (tallies : List Tally) → AllTallies (BeginsAs told scope) sets tallies → IfSome told (λ bytes. AllTallies (TalliesSome bytes scope 0) sets tallies)
some_begin None scope sets tallies begin = tt
some_begin (Some bytes) scope sets tallies begin = λ i d e below. some_of_to bytes scope (get_or sets i e) (get_or tallies i d) (begins_to bytes scope (get_or sets i e) (get_or tallies i d) (begin i d e below))

-- a tally that begins anew counts no row, and one that is settled stays so
anew_at : (images : List (List ℕ)) (scope : Scope) (at : ℕ) (geo : Geometry) (old new : Tally) → IsAnew scope.limits.badrows old new → TalliesSome images scope at geo old → TalliesTo images scope 0 geo new
anew_at images scope at geo (Left k) new is so_far =
    subst (λ (tally : Tally). TalliesTo images scope 0 geo tally) (sym is) (let none = none_before images scope geo in omega arith)
anew_at images scope at geo Passes new is so_far = subst (λ (tally : Tally). TalliesTo images scope 0 geo tally) (sym is) so_far
anew_at images scope at geo Fails new is so_far = subst (λ (tally : Tally). TalliesTo images scope 0 geo tally) (sym is) so_far

-- after the samples the tallies begin again
pub all_anew : (told : Option (List (List ℕ))) (scope : Scope) (at : ℕ) (sets : List Geometry) (sampled anew : List Tally) → length sampled ≡ length sets → BeginAnew scope.limits.badrows sampled anew →
    IfSome told (λ bytes. AllTallies (TalliesSome bytes scope at) sets sampled) → IfSome told (λ bytes. AllTallies (TalliesTo bytes scope 0) sets anew)
all_anew None scope at sets sampled anew long begin so_far = tt
all_anew (Some bytes) scope at sets sampled anew long begin so_far = λ i d e below.
    anew_at bytes scope at (get_or sets i e) (get_or sampled i d) (get_or anew i d) (begin i d (omega arith)) (so_far i d e below)

-- a sweep of such tallies tells the verdicts
pub swept_verdicts : (told : Option (List (List ℕ))) (scope : Scope) (sets : List Geometry) (first swept : List Tally) → length swept ≡ length sets → IfSome told (λ bytes. AllTallies (TalliesTo bytes scope 0) sets first) →
    IfSome told (λ bytes. AllTallies (TalliesTo bytes scope 0) sets first → AllTallies (TalliesAll bytes scope) sets swept) → IfSome told (λ bytes. map has_passed swept ≡ verdicts_of bytes scope sets)
swept_verdicts None scope sets first swept long begin goes = tt
swept_verdicts (Some bytes) scope sets first swept long begin goes = are_verdicts bytes scope sets swept (goes begin) long

-- a set that nothing can break is known to pass
first_begins : (attached : List Image) (scope : Scope) (geo : Geometry) (b : Bool) → is_unbreakable geo ≡ b → All TellsBytes attached → IsScannable geo scope.end attached → BeginsAs (told_all attached) scope geo (cond b Passes (Left scope.limits.badrows))
first_begins attached scope geo true is tells set = unbreakable_passes attached geo scope.end scope.limits.window scope.limits.badrows tells set is
first_begins attached scope geo false is tells set = refl

pub all_first : (attached : List Image) (scope : Scope) (sets : List Geometry) (tallies : List Tally) → All TellsBytes attached → All (λ geo. IsScannable geo scope.end attached) sets → tallies ≡ map (unbroken_tally scope) sets →
    AllTallies (BeginsAs (told_all attached) scope) sets tallies
all_first attached scope sets tallies tells all is = λ i d e below.
    let here : get_or tallies i d ≡ unbroken_tally scope (get_or sets i e) = ap (λ (l : List Tally). get_or l i d) is ∙ get_or-map (unbroken_tally scope) sets i e d below in
    subst (λ (t : Tally). BeginsAs (told_all attached) scope (get_or sets i e) t) (sym here)
    (first_begins attached scope (get_or sets i e) (is_unbreakable (get_or sets i e)) refl tells (all i e below))

-- a list is known by its elements
pub passed_of : (passed : List Bool) (tallies : List Tally) → length passed ≡ length tallies → ((i : ℕ) (d : Bool) (e : Tally) → i < length tallies → get_or passed i d ≡ has_passed (get_or tallies i e)) → passed ≡ map has_passed tallies
passed_of passed tallies long told =
    ext_get_or false passed (map has_passed tallies) (long ∙ sym (length-map tallies has_passed))
    (λ i less. told i false Fails (omega arith) ∙ sym (get_or-map has_passed tallies i Fails false (omega arith)))

-- where nothing can break a row of any set, no tally is open at first
pub none_open : (scope : Scope) (sets : List Geometry) (tallies : List Tally) → tallies ≡ map (unbroken_tally scope) sets → All (λ geo. is_unbreakable geo ≡ true) sets → NoneOpen tallies
none_open scope sets tallies is all = ap (list_any is_open) is ∙ each sets all
  where
    each : (sets : List Geometry) → All (λ geo. is_unbreakable geo ≡ true) sets → list_any is_open (map (unbroken_tally scope) sets) ≡ false
    each [] all = refl
    each (geo ∷ sets) all =
        let here : is_unbreakable geo ≡ true = all 0 geo (omega arith) in
        ap (λ (b : Bool). is_open (cond b Passes (Left scope.limits.badrows)) || list_any is_open (map (unbroken_tally scope) sets)) here
        ∙ each sets (λ k d below. all (suc k) d (omega arith))
