use Rattle.std.proofs.Common.{◌≡◌, ◌∙◌, List, ap, subst, sym}
use Rattle.raid_params.specs.declared.types.Cell.{Cell}
use Rattle.raid_terms.specs.Parity.{has_q, in_p, in_q, IsRow}
use Rattle.pq_parity.specs.DataThere.{parity_lost}
use Rattle.row_parity.specs.Regions.{HoldSums}
use Rattle.pq_parity.proofs.DataSums.{any_at, lost_p_sums, lost_q_sums, misses_p, misses_q, still_q, still_row}
use Rattle.pq_parity.proofs.lost_parity.solve_parity.Goals as goal

pub fill_by_q-requires-clause-cells : goal.fill_by_q-requires-clause-cells
fill_by_q-requires-clause-cells c =
    let made : c.deref.result.now ≡ parity_lost c.args.cells.now = c.deref.ensures.0 ∙ c.parity_lost-by_data.ensures in
    subst (λ (cs : List Cell). IsRow cs) (sym made) (still_row c.args.cells.now c.requires.cells)

pub fill_by_q-requires-clause-q : goal.fill_by_q-requires-clause-q
fill_by_q-requires-clause-q c =
    let made : c.deref.result.now ≡ parity_lost c.args.cells.now = c.deref.ensures.0 ∙ c.parity_lost-by_data.ensures in
    let lost = misses_q c.args.cells.now c.args.place c.requires.place c.requires.missing (sym c.holds_q.ensures ∙ c.if-holds_q.true) in
    ap (λ (cs : List Cell). has_q cs) made ∙ still_q c.args.cells.now ∙ any_at _ c.args.cells.now c.args.place lost.0 lost.2

pub returns-then-holds_q-clause-lost : goal.returns-then-holds_q-clause-lost
returns-then-holds_q-clause-lost c = λ column are hold.
    let made : c.deref.result.now ≡ parity_lost c.args.cells.now = c.deref.ensures.0 ∙ c.parity_lost-by_data.ensures in
    lost_q_sums c.args.cells.now c.args.stride c.args.from c.args.count c.args.place c.args.sectors.now c.fill_by_q.new.sectors column c.requires.cells
    (misses_q c.args.cells.now c.args.place c.requires.place c.requires.missing (sym c.holds_q.ensures ∙ c.if-holds_q.true)) are hold
    (subst (λ (cs : List Cell). HoldSums in_q cs c.args.stride c.args.from c.args.count c.args.place c.args.sectors.now c.fill_by_q.new.sectors) made c.fill_by_q.ensures.sums)

pub returns-else-holds_q-clause-lost : goal.returns-else-holds_q-clause-lost
returns-else-holds_q-clause-lost c = λ column are hold.
    let made : c.deref-else-holds_q.result.now ≡ parity_lost c.args.cells.now = c.deref-else-holds_q.ensures.0 ∙ c.parity_lost-by_data.ensures in
    lost_p_sums c.args.cells.now c.args.stride c.args.from c.args.count c.args.place c.args.sectors.now c.fill_by_p.new.sectors column c.requires.cells
    (misses_p c.args.cells.now c.args.place c.requires.place c.requires.missing c.requires.parity (sym c.holds_q.ensures ∙ c.if-holds_q.false)) are hold
    (subst (λ (cs : List Cell). HoldSums in_p cs c.args.stride c.args.from c.args.count c.args.place c.args.sectors.now c.fill_by_p.new.sectors) made c.fill_by_p.ensures.sums)
