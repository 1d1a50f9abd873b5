use Rattle.parity_scan.proofs.tallies.add_run.Goals as goal

pub add_to_piece-requires-clause-sums : goal.add_to_piece-requires-clause-sums
add_to_piece-requires-clause-sums g c = c.none.ensures.sums c.args.regions.now
