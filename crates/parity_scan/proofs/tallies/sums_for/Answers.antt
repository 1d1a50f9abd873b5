use Rattle.parity_scan.proofs.tallies.sums_for.Goals as goal

pub returns-then-not-are_many : goal.returns-then-not-are_many
returns-then-not-are_many c = c.none.ensures.sums c.args.regions.now
