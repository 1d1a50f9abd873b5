use Rattle.std.proofs.Common.{◌≡◌}
use Rattle.survey_engine.proofs.Recorded.{tables_to}
use Rattle.survey_engine.proofs.tables.add_tables.Given as goal

abbrev pub invariant-loop-table : goal.invariant-loop-table
invariant-loop-table l = l.groups ≡ tables_to l.most l.records.whole l.tables l.fn.groups l.table-index
