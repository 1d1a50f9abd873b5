-- Tallies that are settled stay so.
use Rattle.std.proofs.Common.{◌≡◌, ℕ, false, List, [], ◌∷◌, length, get_or, refl, ap, ◌∙◌, arith}
use Rattle.raid_params.specs.declared.types.Geometry.{Geometry}
use Rattle.search_scope.specs.declared.scope.Scope.{Scope}
use Rattle.member_regions.specs.Regions.{Room}
use Rattle.parity_scan.specs.ImageRows.{AddAll}
use Rattle.parity_scan.specs.Pass.{BeginAnew, IsAnew}
use Rattle.parity_scan.specs.Tallies.{is_open, KeepSettled}
use Rattle.parity_scan.specs.declared.runs.Run.{Run}
use Rattle.parity_scan.specs.declared.tally.Tally.{Tally}
use Rattle.parity_scan.specs.declared.tally.Tally.TheVariants.{Left, Passes, Fails}
use Rattle.parity_scan.proofs.Adding.{closed_asks}
use Rattle.parity_scan.proofs.Tallying.{added_to}

pub keep_all : (tallies : List Tally) → KeepSettled tallies tallies
keep_all tallies = λ i d below closed. refl

-- one after the other
pub keep_both : (old mid new : List Tally) → length mid ≡ length old → KeepSettled old mid → KeepSettled mid new → KeepSettled old new
keep_both old mid new long first second = λ i d below closed.
    let same = first i d below closed in
    second i d (omega arith) (ap is_open same ∙ closed) ∙ same

-- what a run adds
pub keep_added : (scope : Scope) (sets : List Geometry) (run : Run) (room : Room) (old new : List Tally) → length old ≡ length sets → AddAll scope sets 0 run room old new → KeepSettled old new
keep_added scope [] run room old new long adds = λ i d below closed. absurd (omega arith)
keep_added scope (geo ∷ sets) run room old new long adds = λ i d below closed.
    (added_to scope (geo ∷ sets) run room old new i d geo adds below).kept (closed_asks scope (get_or (geo ∷ sets) i geo) run (get_or old i d) closed)

-- tallies that begin again
anew_kept : (left : ℕ) (old new : Tally) → IsAnew left old new → is_open old ≡ false → new ≡ old
anew_kept left (Left k) new is closed = absurd (cc)
anew_kept left Passes new is closed = is
anew_kept left Fails new is closed = is

pub keep_anew : (left : ℕ) (old new : List Tally) → BeginAnew left old new → KeepSettled old new
keep_anew left old new begin = λ i d below closed. anew_kept left (get_or old i d) (get_or new i d) (begin i d below) closed
