use Rattle.std.proofs.Common.{◌≢◌, ◌<◌, ℕ}
use Rattle.std.specs.List.{slice_index_or}
use Rattle.value_text.proofs.names.find_named.Given as goal

-- none of the values before is called so
abbrev pub invariant-loop-value : goal.invariant-loop-value
invariant-loop-value g l = (k : ℕ) → k < l.value-index → (any : g.row.T.Denot) → l.text ≢ g.T.Named.called (slice_index_or l.values k any)
