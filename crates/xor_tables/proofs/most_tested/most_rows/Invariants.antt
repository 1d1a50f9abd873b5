use Rattle.std.proofs.Common.{◌≡◌, ◌≤◌, ◌-◌, ◌<◌, ℕ, take, get_or}
use Rattle.xor_tables.specs.Xors.{most_tested}
use Rattle.search_plan.specs.Rows.{tested_with}
use Rattle.xor_tables.proofs.most_tested.most_rows.Given as goal

abbrev pub invariant-loop-chunk : goal.invariant-loop-chunk
invariant-loop-chunk l = record {
  value : l.most ≡ most_tested l.plan (take l.chunk-index l.chunks) l.offset;
  within : l.most ≤ l.plan.end - l.offset;
  most : (c : ℕ) (d : ℕ) → c < l.chunk-index → tested_with l.plan (get_or l.chunks c d) l.offset ≤ l.most;
}
