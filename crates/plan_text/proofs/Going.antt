-- Whether the groups of a plan may end as they have to.
use Rattle.std.proofs.Common.{◌≡◌, Bool, true, false, refl, sym, ◌∙◌, All, Option, None, Some, MatchOption, inl, inr}
use Rattle.std.specs.Option.{is_some}
use Rattle.std.proofs.lemmas.Bool.{false≢true}
use Rattle.mark_kinds.specs.declared.table.GroupKind.{GroupKind}
use Rattle.mark_kinds.specs.declared.table.TheConstants.{GROUPS}
use Rattle.mark_kinds.proofs.Places.{each_group}
use Rattle.plan_text.specs.declared.draft.Draft.{Draft}
use Rattle.plan_text.specs.Drafts.{MayBegin, MayEnd, MayGoOn, drafted}
use Rattle.plan_text.specs.PlanText.{some_bounds}

-- a group of some kind may begin, or none
pub some_begins : (draft : Draft) (r : Option GroupKind) → MatchOption r (All (λ kind. MayBegin draft kind → ⊥) GROUPS) (λ kind. MayBegin draft kind) → (is_some r ≡ true → MayGoOn draft) × (MayGoOn draft → is_some r ≡ true)
some_begins draft None none = (λ e. absurd (false≢true e), λ go. absurd (each_group (λ kind. MayBegin draft kind → ⊥) none go.0 go.1))
some_begins draft (Some kind) may = (λ e. (kind, may), λ go. refl)
