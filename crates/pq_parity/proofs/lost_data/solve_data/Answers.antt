use Rattle.std.proofs.Common.{◌+◌, ◌*◌, length, slice_index, rules}
use Rattle.std.proofs.lemmas.List.FromFn.{length-map-range_with_len}
use Rattle.pq_parity.proofs.FilledRows.{kept_by_sums, lost_by_sums}
use Rattle.pq_parity.proofs.Finding.{lost_inside}
use Rattle.pq_parity.proofs.RowSteps.{by_needed}
use Rattle.pq_parity.proofs.lost_data.solve_data.Goals as goal

pub returns-then-needs_q-clause-lost : goal.returns-then-needs_q-clause-lost
returns-then-needs_q-clause-lost c = λ column whole agree.
    by_needed c.args.cells.now c.args.stride c.args.from c.args.count c.args.sectors.now c.solve_by_both.new.sectors column c.requires.cells
    (λ j x. length-map-range_with_len (λ i. slice_index c.args.sectors.now (c.args.stride * i + (512 * j + x))) 0 (length c.args.cells.now)) whole agree c.solve_by_both.ensures.lost

pub fill_by_p-requires-clause-place : goal.fill_by_p-requires-clause-place
fill_by_p-requires-clause-place c = lost_inside c.args.cells.now c.in-Some.first (search rules)

pub returns-else-needs_q-clause-lost : goal.returns-else-needs_q-clause-lost
returns-else-needs_q-clause-lost c = λ column whole agree.
    by_needed c.args.cells.now c.args.stride c.args.from c.args.count c.args.sectors.now c.fill_by_p.new.sectors column c.requires.cells
    (λ j x. length-map-range_with_len (λ i. slice_index c.args.sectors.now (c.args.stride * i + (512 * j + x))) 0 (length c.args.cells.now)) whole agree
    (lost_by_sums c.args.cells.now c.args.stride c.args.from c.args.count c.in-Some.first c.args.sectors.now c.fill_by_p.new.sectors c.requires.cells (search rules) (search rules) c.fill_by_p.ensures.columns c.fill_by_p.ensures.sums)

pub returns-else-needs_q-clause-others : goal.returns-else-needs_q-clause-others
returns-else-needs_q-clause-others c =
    kept_by_sums c.args.cells.now c.args.stride c.args.from c.args.count c.in-Some.first c.args.sectors.now c.fill_by_p.new.sectors (search rules) c.fill_by_p.ensures.others
