use Rattle.pq_parity.proofs.RowSteps.{kept_by_fill, kept_by_two, row_by_one, row_by_two}
use Rattle.pq_parity.proofs.lost_data.fill_row.Goals as goal

pub returns-in-Some-clause-lost : goal.returns-in-Some-clause-lost
returns-in-Some-clause-lost c =
    row_by_two c.args.cells.now c.args.stride c.args.j c.args.first.now c.in-Some.second c.args.second.now c.args.sectors.now c.fill.new.sectors c.fill-in-Some.new.sectors c.sums_by-sums.result.p c.sums_by-sums.result.q
    c.requires.j c.requires.finders c.in-Some.is c.sums_by-sums.ensures.columns c.sums_by-sums.ensures.p c.sums_by-sums.ensures.q c.fill.ensures.bytes c.fill-in-Some.ensures.bytes c.fill-in-Some.ensures.others

pub returns-in-Some-clause-others : goal.returns-in-Some-clause-others
returns-in-Some-clause-others c =
    kept_by_two c.args.cells.now c.args.stride c.args.j c.args.first.now c.in-Some.second c.args.second.now c.args.sectors.now c.fill.new.sectors c.fill-in-Some.new.sectors
    c.requires.finders c.in-Some.is c.fill.ensures.others c.fill-in-Some.ensures.others

pub returns-in_default-clause-lost : goal.returns-in_default-clause-lost
returns-in_default-clause-lost c =
    row_by_one c.args.cells.now c.args.stride c.args.j c.args.first.now c.args.second.now c.args.sectors.now c.fill.new.sectors c.sums_by-sums.result.p c.sums_by-sums.result.q
    c.requires.finders c.in_default.is c.sums_by-sums.ensures.columns c.sums_by-sums.ensures.p c.sums_by-sums.ensures.q c.fill.ensures.bytes

pub returns-in_default-clause-others : goal.returns-in_default-clause-others
returns-in_default-clause-others c =
    kept_by_fill c.args.cells.now c.args.stride c.args.j c.args.first.now.place c.args.sectors.now c.fill.new.sectors c.requires.finders.first.lost c.fill.ensures.others
