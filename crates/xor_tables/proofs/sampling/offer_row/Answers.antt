use Rattle.std.proofs.Common.{refl}
use Rattle.row_samples.proofs.Offered.{offered_rows}
use Rattle.xor_tables.proofs.sampling.offer_row.Goals as goal

pub returns-then-not-is_blank-clause-kept : goal.returns-then-not-is_blank-clause-kept
returns-then-not-is_blank-clause-kept c = λ bytes offset hold are.
    offered_rows c.args.regions.now c.args.place c.args.row c.args.sampler.now c.offer.new.self c.offer.ensures.offers bytes c.args.sampler.now.telling.kept.images offset refl hold c.requires.below are
