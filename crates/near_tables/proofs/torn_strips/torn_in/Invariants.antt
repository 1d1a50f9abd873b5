use Rattle.std.proofs.Common.{◌≡◌, ◌≤◌}
use Rattle.near_tables.specs.Reading.{strip_torn}
use Rattle.near_tables.proofs.torn_strips.torn_in.Given as goal

abbrev pub invariant-loop-j : goal.invariant-loop-j
invariant-loop-j l = record {
  is : l.torn ≡ strip_torn l.first l.second l.j l.one l.other;
  few : l.torn ≤ l.j;
}
