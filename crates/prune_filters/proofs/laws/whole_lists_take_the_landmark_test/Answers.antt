use Rattle.prune_filters.proofs.Law.{whole}
use Rattle.prune_filters.proofs.laws.whole_lists_take_the_landmark_test.Goals as goal

pub returns : goal.returns
returns c = whole
