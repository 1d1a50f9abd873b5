-- All kinds stand in the lists of them.
use Rattle.std.proofs.Common.{◌≡◌, ◌≢◌, ℕ, List, All, Option, None, Some, MatchOption}
use Rattle.mark_kinds.specs.declared.table.GroupKind.{GroupKind}
use Rattle.mark_kinds.specs.declared.table.TheConstants.{GROUPS}
use Rattle.mark_kinds.specs.declared.table.Kind.{Kind}
use Rattle.mark_kinds.specs.declared.table.TheConstants.{KINDS}
use Rattle.mark_kinds.proofs.Places.{each_group, each_kind}
use Rattle.landmark_text.specs.Names.{group_name, kind_name}

-- what reading gives: the value of the name, or none where no value has it
abbrev Reads : {A : Type 0} → (A → List ℕ) → List ℕ → Option A → Type 0
Reads {A = A} name text r = MatchOption r ((x : A) → text ≢ name x) (λ x. text ≡ name x)

pub any_kind : (text : List ℕ) (r : Option Kind) → MatchOption r (All (λ x. text ≢ kind_name x) KINDS) (λ x. text ≡ kind_name x) → Reads kind_name text r
any_kind text (Some x) found = found
any_kind text None none = λ x. each_kind (λ x. text ≢ kind_name x) none x

pub any_group : (text : List ℕ) (r : Option GroupKind) → MatchOption r (All (λ x. text ≢ group_name x) GROUPS) (λ x. text ≡ group_name x) → Reads group_name text r
any_group text (Some x) found = found
any_group text None none = λ x. each_group (λ x. text ≢ group_name x) none x
