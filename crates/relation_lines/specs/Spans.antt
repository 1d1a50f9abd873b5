-- The run of a span of rows.
use Rattle.std.specs.declared.option.Option.{Option}
use Rattle.std.specs.declared.option.Option.TheVariants.{None, Some}
use Rattle.row_relations.specs.Tables.{Table}
use Rattle.relation_lines.specs.Runs.{Run}
use Rattle.relation_lines.specs.declared.saying.Span.{Span}

abbrev pub run_of : Option Span → Table → Option Run
run_of None table = None
run_of (Some span) table = Some (record { first = span.first; last = span.last; table = table })
