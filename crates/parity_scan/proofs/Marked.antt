-- Which images are marked as wanted.
use Rattle.std.proofs.Common.{◌≡◌, ℕ, zero, suc, ◌+◌, ◌<◌, Bool, true, false, inl, inr, List, length, get_or, replicate, refl, ap, ◌∙◌, arith}
use Rattle.std.proofs.lemmas.Bool.{cases_lt}
use Rattle.std.proofs.lemmas.List.{get_or_default}
use Rattle.raid_params.specs.declared.types.Geometry.{Geometry}
use Rattle.search_scope.specs.declared.scope.Scope.{Scope}
use Rattle.parity_scan.specs.ImageRows.{asks}
use Rattle.parity_scan.specs.Wanted.{HasNone, HasOne, KeepMarks, MarkOnly, MarkWanted}
use Rattle.parity_scan.specs.declared.runs.Run.{Run}
use Rattle.parity_scan.specs.declared.tally.Tally.{Tally}

none_marked : (n i : ℕ) → get_or (replicate n false) i false ≡ false
none_marked zero i = refl
none_marked (suc n) zero = refl
none_marked (suc n) (suc i) = none_marked n i

-- before the first set no image is marked
pub marks_none : (scope : Scope) (sets : List Geometry) (tallies : List Tally) (run : Run) → MarkWanted scope sets tallies run 0 (replicate 256 false)
marks_none scope sets tallies run = record {
  all = λ image is k d e below asking. absurd (omega arith);
  only = λ image is. absurd (let none = none_marked 256 image in cc);
}

-- one set more
pub marks_more : (scope : Scope) (sets : List Geometry) (tallies : List Tally) (run : Run) (k : ℕ) (d : Tally) (e : Geometry) (old new : List Bool) → k < length sets → length tallies ≡ length sets →
    MarkWanted scope sets tallies run k old → KeepMarks old new →
    (asks scope (get_or sets k e) (get_or tallies k d) run ≡ true → (image : ℕ) → get_or new image false ≡ false → HasNone (get_or sets k e).slots.items image) →
    MarkOnly old new (λ image. (asks scope (get_or sets k e) (get_or tallies k d) run ≡ true) × HasOne (get_or sets k e).slots.items image) →
    MarkWanted scope sets tallies run (k + 1) new
marks_more scope sets tallies run k d e old new within long before kept marked only = record {
  all = λ image is j d' e' below asking.
      elim (cases_lt j k) [
        | inl less ↦ before.all image (kept image is) j d' e' less asking
        | inr more ↦
            (let at : j ≡ k = omega arith in
            let set : get_or sets j e' ≡ get_or sets k e = ap (λ (n : ℕ). get_or sets n e') at ∙ get_or_default sets k e' e within in
            let tally : get_or tallies j d' ≡ get_or tallies k d = ap (λ (n : ℕ). get_or tallies n d') at ∙ get_or_default tallies k d' d (omega arith) in
            let asks_here : asks scope (get_or sets k e) (get_or tallies k d) run ≡ true = rw (set, tally) at asking in
            rw set (marked asks_here image is))
      ];
  only = λ image is.
      elim (only image is) [
        | inl was ↦ (let it = before.only image was in (it.0, omega arith, it.2))
        | inr here ↦ (
          k,
          omega arith,
          λ d' e'.
              let set : get_or sets k e' ≡ get_or sets k e = get_or_default sets k e' e within in
              let tally : get_or tallies k d' ≡ get_or tallies k d = get_or_default tallies k d' d (omega arith) in
              (rw (set, tally) here.0, rw set here.1),
        )
      ];
}
