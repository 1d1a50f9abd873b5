use Rattle.std.proofs.Common.{ℕ, ◌≡◌, true, get_or, subst, sym}
use Rattle.std.specs.declared.option.Option.{Option}
use Rattle.raid_params.specs.declared.types.Part.{Part}
use Rattle.pq_parity.specs.Finding.{FindsAt}
use Rattle.row_parity.specs.LostBytes.{Finds}
use Rattle.row_parity.specs.Known.{no_cell}
use Rattle.pq_parity.proofs.Finding.{found_by, lost_inside, lost_missing}
use Rattle.pq_parity.proofs.LostColumns.{apart_there}
use Rattle.row_parity.proofs.Regions.{cell_there}
use Rattle.pq_parity.proofs.finders.finder_at.Goals as goal

pub weights_of-weights-requires : goal.weights_of-weights-requires
weights_of-weights-requires c =
    apart_there c.args.cells.now c.args.place no_cell c.other_missing.result c.requires.cells (lost_inside c.args.cells.now c.args.place c.requires.lost)
    (cell_there c.args.cells.now c.args.place no_cell (lost_inside c.args.cells.now c.args.place c.requires.lost) (λ cell. cell.missing ≡ true) (lost_missing c.args.cells.now c.args.place c.requires.lost))
    c.other_missing.ensures

pub returns-clause-finds : goal.returns-clause-finds
returns-clause-finds c = record {
  lost = c.requires.lost;
  finds =
      subst (λ (a : ℕ). FindsAt c.args.cells.now c.args.place a c.new-2.result.factor) (sym c.new.ensures)
      (subst (λ (b : ℕ). FindsAt c.args.cells.now c.args.place c.weights_of-weights.result.p b) (sym c.new-2.ensures)
      (found_by c.args.cells.now c.args.place c.weights_of-weights.result.p c.weights_of-weights.result.q c.requires.cells c.requires.lost
      (subst (λ (o : Option Part). Finds (get_or c.args.cells.now c.args.place no_cell).part o c.weights_of-weights.result.p c.weights_of-weights.result.q) c.other_missing.ensures c.weights_of-weights.ensures)));
}
