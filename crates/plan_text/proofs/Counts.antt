-- The numbers of a plan between its origins and its groups, line by line.
use Rattle.std.proofs.Common.{◌≤◌, ℕ, Bool, List, [], ◌∷◌, drop, codes, decimal, refl, sym, ap, arith, lit≤}
use Rattle.raid_params.specs.declared.limits.TheConstants.{MOST_MISSING}
use Rattle.plan_text.specs.declared.parts.Counts.{Counts}
use Rattle.plan_text.specs.Parts.{AreCounts, lines_of_counts, most_foreign}
use Rattle.value_text.specs.Spelling.{named}
use Rattle.plan_text.proofs.Refusals.{StandsIn, one_line}

abbrev pub counts_with : ℕ → ℕ → ℕ → ℕ → ℕ → ℕ → Counts
counts_with missing foreign badrows window misfits least = record { missing = missing; foreign = foreign; badrows = badrows; window = window; misfits = misfits; least = least }

abbrev pub IsSector : ℕ → Type 0
IsSector n = (0 ≤ n) × (n ≤ 36028797018963967)

abbrev pub IsWindow : ℕ → Type 0
IsWindow n = (1 ≤ n) × (n ≤ 36028797018963967)

pub are_counts : (each : Bool) (m f b w i l : ℕ) → m ≤ MOST_MISSING → f ≤ most_foreign each → b ≤ 36028797018963967 → IsWindow w → i ≤ 36028797018963967 → l ≤ 36028797018963967 → AreCounts each (counts_with m f b w i l)
are_counts each m f b w i l p q r s t u = record {
  missing = p;
  foreign = q;
  badrows = omega (arith, r);
  some_window = s.0;
  window = omega (arith, s.1);
  misfits = omega (arith, t);
  least = omega (arith, u);
}

pub stands_missing : (each : Bool) → StandsIn (λ n. (0 ≤ n) × (n ≤ MOST_MISSING)) (λ n. named (codes "missing") (decimal n) ∷ []) (AreCounts each) lines_of_counts ([])
stands_missing each = record {
  made = λ x p. (counts_with x 0 0 1 0 0, _, are_counts each x 0 0 1 0 0 p.1 (omega arith) (lit≤ tt) (lit≤ tt, lit≤ tt) (lit≤ tt) (lit≤ tt), refl);
  shape = λ w tail is e. (w.missing, _, (omega arith, is.missing), sym e);
  apart = λ x y m more p q e. one_line (λ n. named (codes "missing") (decimal n)) x y m more e;
}

pub stands_foreign : (each : Bool) (m : ℕ) → m ≤ MOST_MISSING → StandsIn (λ n. (0 ≤ n) × (n ≤ most_foreign each)) (λ n. named (codes "foreign") (decimal n) ∷ []) (AreCounts each) lines_of_counts (named (codes "missing") (decimal m) ∷ [])
stands_foreign each m pm = record {
  made = λ x p. (counts_with m x 0 1 0 0, _, are_counts each m x 0 1 0 0 pm p.1 (lit≤ tt) (lit≤ tt, lit≤ tt) (lit≤ tt) (lit≤ tt), refl);
  shape = λ w tail is e. (w.foreign, _, (omega arith, is.foreign), ap (λ (ls : List (List ℕ)). drop 1 ls) (sym e));
  apart = λ x y m more p q e. one_line (λ n. named (codes "foreign") (decimal n)) x y m more e;
}

pub stands_badrows : (each : Bool) (m f : ℕ) → m ≤ MOST_MISSING → f ≤ most_foreign each → StandsIn IsSector (λ n. named (codes "badrows") (decimal n) ∷ []) (AreCounts each) lines_of_counts (named (codes "missing") (decimal m) ∷ named (codes "foreign") (decimal f) ∷ [])
stands_badrows each m f pm pf = record {
  made = λ x p. (counts_with m f x 1 0 0, _, are_counts each m f x 1 0 0 pm pf p.1 (lit≤ tt, lit≤ tt) (lit≤ tt) (lit≤ tt), refl);
  shape = λ w tail is e. (w.badrows, _, (omega arith, omega (arith, is.badrows)), ap (λ (ls : List (List ℕ)). drop 2 ls) (sym e));
  apart = λ x y m more p q e. one_line (λ n. named (codes "badrows") (decimal n)) x y m more e;
}

pub stands_window : (each : Bool) (m f b : ℕ) → m ≤ MOST_MISSING → f ≤ most_foreign each → b ≤ 36028797018963967 → StandsIn IsWindow (λ n. named (codes "window") (decimal n) ∷ []) (AreCounts each) lines_of_counts (named (codes "missing") (decimal m) ∷ named (codes "foreign") (decimal f) ∷ named (codes "badrows") (decimal b) ∷ [])
stands_window each m f b pm pf pb = record {
  made = λ x p. (counts_with m f b x 0 0, _, are_counts each m f b x 0 0 pm pf pb p (lit≤ tt) (lit≤ tt), refl);
  shape = λ w tail is e. (w.window, _, (is.some_window, omega (arith, is.window)), ap (λ (ls : List (List ℕ)). drop 3 ls) (sym e));
  apart = λ x y m more p q e. one_line (λ n. named (codes "window") (decimal n)) x y m more e;
}

pub stands_misfits : (each : Bool) (m f b w : ℕ) → m ≤ MOST_MISSING → f ≤ most_foreign each → b ≤ 36028797018963967 → IsWindow w → StandsIn IsSector (λ n. named (codes "misfits") (decimal n) ∷ []) (AreCounts each) lines_of_counts (named (codes "missing") (decimal m) ∷ named (codes "foreign") (decimal f) ∷ named (codes "badrows") (decimal b) ∷ named (codes "window") (decimal w) ∷ [])
stands_misfits each m f b w pm pf pb pw = record {
  made = λ x p. (counts_with m f b w x 0, _, are_counts each m f b w x 0 pm pf pb pw p.1 (lit≤ tt), refl);
  shape = λ w tail is e. (w.misfits, _, (omega arith, omega (arith, is.misfits)), ap (λ (ls : List (List ℕ)). drop 4 ls) (sym e));
  apart = λ x y m more p q e. one_line (λ n. named (codes "misfits") (decimal n)) x y m more e;
}

pub stands_least : (each : Bool) (m f b w i : ℕ) → m ≤ MOST_MISSING → f ≤ most_foreign each → b ≤ 36028797018963967 → IsWindow w → i ≤ 36028797018963967 → StandsIn IsSector (λ n. named (codes "least") (decimal n) ∷ []) (AreCounts each) lines_of_counts (named (codes "missing") (decimal m) ∷ named (codes "foreign") (decimal f) ∷ named (codes "badrows") (decimal b) ∷ named (codes "window") (decimal w) ∷ named (codes "misfits") (decimal i) ∷ [])
stands_least each m f b w i pm pf pb pw pi = record {
  made = λ x p. (counts_with m f b w i x, _, are_counts each m f b w i x pm pf pb pw pi p.1, refl);
  shape = λ w tail is e. (w.least, _, (omega arith, omega (arith, is.least)), ap (λ (ls : List (List ℕ)). drop 5 ls) (sym e));
  apart = λ x y m more p q e. one_line (λ n. named (codes "least") (decimal n)) x y m more e;
}
