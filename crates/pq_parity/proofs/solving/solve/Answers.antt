use Rattle.std.proofs.Common.{ℕ, List, length, ap, ◌∙◌}
use Rattle.row_parity.specs.Regions.{region_column}
use Rattle.raid_terms.specs.Solving.{lost_byte}
use Rattle.pq_parity.proofs.Asked.{some_missing}
use Rattle.row_parity.proofs.Regions.{row_column}
use Rattle.pq_parity.proofs.solving.solve.Goals as goal

pub returns-clause-lost : goal.returns-clause-lost
returns-clause-lost c = λ x below.
    c.find_sector.ensures.lost (region_column (length c.args.cells.now) 512 c.args.row.now 0) c.sums_for-sums.ensures.columns
    c.sums_for-sums.ensures.p c.sums_for-sums.ensures.q x below
    ∙ ap (λ (column : List ℕ). lost_byte c.args.cells.now column c.args.place) (row_column (length c.args.cells.now) c.args.row.now x)

pub sums_for-sums-requires-clause-missing : goal.sums_for-sums-requires-clause-missing
sums_for-sums-requires-clause-missing c = some_missing c.args.cells.now c.args.place c.requires.missing c.requires.place
