use Rattle.std.proofs.Common.{refl, inl, arith}
use Rattle.search_rows.proofs.TestAsks.{bounds_are, tests_are}
use Rattle.search_rows.proofs.surveying.ask.Goals as goal

pub returns-clause-limits : goal.returns-clause-limits
returns-clause-limits c = record {
  bounds = bounds_are _ c.args.offset c.one.ensures c.one-2.ensures c.one-3.ensures c.one-4.ensures c.one-5.ensures c.one-6.ensures c.one-7.ensures refl refl c.requires;
  limits = record { badrows = omega arith; some_window = omega arith; window = omega arith };
  tests = tests_are _ c.one-8.ensures refl refl;
  unit = inl refl;
}
