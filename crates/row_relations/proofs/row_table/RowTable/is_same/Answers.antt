use Rattle.std.proofs.Common.{rules, ℕ, ◌≡◌, true, false, List, refl, sym, ap, subst, ◌∙◌}
use denote.Enum.Bare.{same_true}
use lib.Pointwise.{pointwise_decides, bytes_decides}
use Rattle.row_relations.specs.contracts.standing.StandingPartialEq.TheImpl.{eq-value}
use Rattle.row_relations.specs.contracts.standing.Standing.{the_type}
use Rattle.row_relations.specs.declared.standing.Standing.{Standing}
use Rattle.row_relations.specs.declared.standing.Standing.TheVariants.{Zero, Independent, Dependent}
use Rattle.row_relations.specs.Tables.{Table}
use Rattle.row_relations.proofs.row_table.RowTable.is_same.Goals as goal

equal_self : (s : Standing) → eq-value.it s s ≡ true
equal_self Zero = refl
equal_self Independent = refl
equal_self Dependent = refl

standings_decide : (s t : Standing) → (eq-value.it s t ≡ true → s ≡ t) × (s ≡ t → eq-value.it s t ≡ true)
standings_decide s t = (λ e. same_true the_type (search rules) s t e, λ e. subst (λ (x : Standing). eq-value.it s x ≡ true) e (equal_self s))

pub returns-then-eq : goal.returns-then-eq
returns-then-eq c =
    let same = pointwise_decides standings_decide c.self.inside.standings.items c.other.inside.standings.items in
    let alike = pointwise_decides bytes_decides c.self.inside.weights.items c.other.inside.weights.items in
    let make : List Standing → List (List ℕ) → Table = λ s w. record { standings = s; weights = w } in (
      λ t. sym c.self.view_is ∙ ap (λ (s : List Standing). make s c.self.inside.weights.items) (same.0 (sym (c.if-eq.ensures {u = tt})))
          ∙ ap (make c.other.inside.standings.items) (alike.0 (sym c.eq-then-eq.ensures ∙ t)) ∙ c.other.view_is,
      λ e. c.eq-then-eq.ensures ∙ alike.1 (ap (λ (t : Table). t.weights) (c.self.view_is ∙ e ∙ sym c.other.view_is)),
    )

pub returns-else-eq : goal.returns-else-eq
returns-else-eq c =
    let same = pointwise_decides standings_decide c.self.inside.standings.items c.other.inside.standings.items in (
      λ t. absurd (let e : true ≡ false = sym t ∙ c.if-eq.false in cc),
      λ e. c.eq.ensures ∙ same.1 (ap (λ (t : Table). t.standings) (c.self.view_is ∙ e ∙ sym c.other.view_is)),
    )
