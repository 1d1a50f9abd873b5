use Rattle.std.proofs.Common.{ℕ, ◌<◌, ◌≤◌, ◌⊎◌, get_or}
use Rattle.xor_tables.specs.Early.{IsSettled}
use Rattle.xor_tables.specs.Paces.{pace_at}
use Rattle.xor_tables.specs.Xors.{RowTable}
use Rattle.search_plan.specs.Rows.{tested_with}
use Rattle.xor_tables.proofs.settling.tables_suffice.Given as goal

abbrev pub invariant-loop-place : goal.invariant-loop-place
invariant-loop-place l = (c : ℕ) (none : RowTable) → c < l.place →
    (tested_with l.plan (pace_at l.paces c).chunk l.offset ≤ l.first) ⊎ IsSettled l.plan (pace_at l.paces c) l.offset (get_or l.tables c none)
