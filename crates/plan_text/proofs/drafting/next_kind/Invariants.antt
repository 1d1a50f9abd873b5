use Rattle.std.proofs.Common.{◌<◌, ℕ}
use Rattle.std.specs.List.{slice_index_or}
use Rattle.mark_kinds.specs.declared.table.GroupKind.{GroupKind}
use Rattle.plan_text.specs.Drafts.{MayBegin}
use Rattle.plan_text.proofs.drafting.next_kind.Given as goal

-- no group of the kinds before may begin
abbrev pub invariant-loop-kind : goal.invariant-loop-kind
invariant-loop-kind l = (k : ℕ) → k < l.kind-index → (any : GroupKind) → MayBegin l.draft (slice_index_or l.kinds k any) → ⊥
