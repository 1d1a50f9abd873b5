use Rattle.std.proofs.Common.{◌≢◌, ◌<◌, ℕ}
use Rattle.std.specs.List.{slice_index_or}
use Rattle.mark_kinds.specs.declared.table.GroupKind.{GroupKind}
use Rattle.landmark_text.specs.Names.{group_name}
use Rattle.landmark_text.proofs.kinds.find_group.Given as goal

-- none of the kinds before is called so
abbrev pub invariant-loop-kind : goal.invariant-loop-kind
invariant-loop-kind l = (k : ℕ) → k < l.kind-index → (any : GroupKind) → l.text ≢ group_name (slice_index_or l.kinds k any)
