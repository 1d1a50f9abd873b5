-- Whether two tables are the same.
use Rattle.std.proofs.Common.{◌≡◌, ◌↔◌, ℕ, Bool, true, false, IsTrue, ◌&&◌, List, refl, sym, ap, ap₂}
use Rattle.std.specs.Bool.{Decides}
use Rattle.std.proofs.lemmas.Bool.{and_parts, false≢true}
use Rattle.std.proofs.lemmas.Slice.Eq.{slice_eq-Decides, bytes_eq-Decides}
use lib.Pointwise.{pointwise}
use Rattle.row_relations.specs.Tables.{Table}
use Rattle.row_relations.specs.declared.standing.Standing.{Standing}
use Rattle.row_relations.specs.declared.standing.Standing.TheVariants.{Zero, Independent, Dependent}
use Rattle.std.specs.Prelude.{nat_eq}
use Rattle.relation_lines.specs.Runs.{same_standing, same_table}

standings_decide : (s t : Standing) → Decides (same_standing s t) (s ≡ t)
standings_decide Zero Zero = (λ e. refl, λ e. refl)
standings_decide Zero Independent = (λ e. absurd (false≢true e), λ e. absurd (cc))
standings_decide Zero Dependent = (λ e. absurd (false≢true e), λ e. absurd (cc))
standings_decide Independent Zero = (λ e. absurd (false≢true e), λ e. absurd (cc))
standings_decide Independent Independent = (λ e. refl, λ e. refl)
standings_decide Independent Dependent = (λ e. absurd (false≢true e), λ e. absurd (cc))
standings_decide Dependent Zero = (λ e. absurd (false≢true e), λ e. absurd (cc))
standings_decide Dependent Independent = (λ e. absurd (false≢true e), λ e. absurd (cc))
standings_decide Dependent Dependent = (λ e. refl, λ e. refl)

table_with : List Standing → List (List ℕ) → Table
table_with standings weights = record { standings = standings; weights = weights }

same_parts : (a b : Table) → a.standings ≡ b.standings → a.weights ≡ b.weights → a ≡ b
unfolding table_with
same_parts a b e f = let same : table_with a.standings a.weights ≡ table_with b.standings b.weights = ap₂ table_with e f in same

pub tables_decide : (a b : Table) → Decides (same_table a b) (a ≡ b)
tables_decide a b =
    let standings = slice_eq-Decides standings_decide a.standings b.standings (pointwise same_standing a.standings b.standings) refl in
    let weights = slice_eq-Decides bytes_eq-Decides a.weights b.weights (pointwise (pointwise nat_eq) a.weights b.weights) refl in (
      λ e. let both = and_parts (pointwise same_standing a.standings b.standings) (pointwise (pointwise nat_eq) a.weights b.weights) e in same_parts a b (standings.0 both.0) (weights.0 both.1),
      λ e. ap₂ (λ (x y : Bool). x && y) (standings.1 (ap (λ (t : Table). t.standings) e)) (weights.1 (ap (λ (t : Table). t.weights) e)),
    )

told : (r s : Bool) → (IsTrue r → s ≡ true) → (s ≡ true → IsTrue r) → r ≡ s
told true true p q = refl
told true false p q = sym (p refl)
told false true p q = q refl
told false false p q = refl

-- what is told of two tables is the test of the definition
pub same_is : (a b : Table) (r : Bool) → (IsTrue r ↔ (a ≡ b)) → r ≡ same_table a b
same_is a b r is = told r (same_table a b) (λ t. (tables_decide a b).1 (is.0 t)) (λ t. is.1 ((tables_decide a b).0 t))
