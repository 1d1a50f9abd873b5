use Rattle.std.proofs.Common.{ℕ, ◌≡◌, refl, subst, arith}
use Rattle.raid_terms.specs.Parity.{in_q}
use Rattle.row_parity.specs.Regions.{HoldSums, KeepOthers}
use Rattle.pq_parity.proofs.FilledRows.{others_more, sums_more, sums_none}
use Rattle.pq_parity.proofs.fills.fill_by_q.Goals as goal

pub loop-row-init : goal.loop-row-init
loop-row-init c = record {
  sums = sums_none in_q c.args.cells.now c.args.rows.stride c.args.rows.from c.args.place c.args.sectors.now c.args.sectors.now;
  others = λ p apart. refl;
}

pub loop-row-preserved : goal.loop-row-preserved
loop-row-preserved c = record {
  sums =
      sums_more in_q c.args.cells.now c.args.rows.stride c.args.rows.from c.loop-row.row c.args.place c.args.sectors.now c.loop-row.sectors c.fill_row_by_q.new.sectors (omega arith)
      c.loop-row.invariant.sums c.loop-row.invariant.others c.fill_row_by_q.ensures.sums c.fill_row_by_q.ensures.others;
  others =
      others_more c.args.rows.stride c.args.rows.from c.loop-row.row c.args.place c.args.sectors.now c.loop-row.sectors c.fill_row_by_q.new.sectors c.loop-row.invariant.others c.fill_row_by_q.ensures.others;
}

pub returns-clause-sums : goal.returns-clause-sums
returns-clause-sums c =
    let all : c.loop-row.row ≡ c.args.rows.count = omega arith in
    subst (λ (n : ℕ). HoldSums in_q c.args.cells.now c.args.rows.stride c.args.rows.from n c.args.place c.args.sectors.now c.loop-row.sectors) all c.loop-row.invariant.sums

pub returns-clause-others : goal.returns-clause-others
returns-clause-others c =
    let all : c.loop-row.row ≡ c.args.rows.count = omega arith in
    subst (λ (n : ℕ). KeepOthers c.args.rows.stride c.args.rows.from n c.args.place c.args.sectors.now c.loop-row.sectors) all c.loop-row.invariant.others
