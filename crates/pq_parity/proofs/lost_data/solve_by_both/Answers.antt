use Rattle.std.proofs.Common.{ℕ, ◌≡◌, refl, subst, arith}
use Rattle.pq_parity.specs.Needs.{HoldLostData, KeepAllBut}
use Rattle.pq_parity.proofs.Finding.{all_found, needed_has_q}
use Rattle.pq_parity.proofs.RowSteps.{columns_of, kept_row_more, lost_row_more, lost_row_none}
use Rattle.pq_parity.proofs.lost_data.solve_by_both.Goals as goal

pub loop-row-init : goal.loop-row-init
loop-row-init c = record {
  lost = lost_row_none c.args.cells.now c.args.rows.stride c.args.rows.from c.args.sectors.now c.args.sectors.now;
  others = λ p apart. refl;
}

pub loop-row-preserved : goal.loop-row-preserved
loop-row-preserved c = record {
  lost =
      lost_row_more c.args.cells.now c.args.rows.stride c.args.rows.from c.loop-row.row c.args.sectors.now c.loop-row.sectors c.fill_row.new.sectors (omega arith)
      c.loop-row.invariant.lost c.loop-row.invariant.others c.fill_row.ensures.lost c.fill_row.ensures.others;
  others =
      kept_row_more c.args.cells.now c.args.rows.stride c.args.rows.from c.loop-row.row c.args.sectors.now c.loop-row.sectors c.fill_row.new.sectors
      c.loop-row.invariant.others c.fill_row.ensures.others;
}

pub returns-clause-lost : goal.returns-clause-lost
returns-clause-lost c =
    let all : c.loop-row.row ≡ c.args.rows.count = omega arith in
    subst (λ (n : ℕ). HoldLostData c.args.cells.now c.args.rows.stride c.args.rows.from n c.loop-row.sectors (columns_of c.args.cells.now c.args.rows.stride c.args.sectors.now)) all c.loop-row.invariant.lost

pub returns-clause-others : goal.returns-clause-others
returns-clause-others c =
    let all : c.loop-row.row ≡ c.args.rows.count = omega arith in
    subst (λ (n : ℕ). KeepAllBut c.args.cells.now c.args.rows.stride c.args.rows.from n c.args.sectors.now c.loop-row.sectors) all c.loop-row.invariant.others

pub known_of-known-requires-clause-q : goal.known_of-known-requires-clause-q
known_of-known-requires-clause-q c = needed_has_q c.args.cells.now c.args.first c.requires.cells c.requires.first c.requires.by_q

pub fill_row-requires-clause-q : goal.fill_row-requires-clause-q
fill_row-requires-clause-q c = needed_has_q c.args.cells.now c.args.first c.requires.cells c.requires.first c.requires.by_q

pub fill_row-requires-clause-finders : goal.fill_row-requires-clause-finders
fill_row-requires-clause-finders c =
    all_found c.args.cells.now c.finder_at-first.result c.finder_after-second.result c.args.first c.requires.cells c.finder_at-first.ensures.place c.finder_at-first.ensures.finds c.requires.none_before c.finder_after-second.ensures
