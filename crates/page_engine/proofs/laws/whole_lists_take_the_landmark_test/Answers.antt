use Rattle.page_engine.proofs.Law.{whole}
use Rattle.page_engine.proofs.laws.whole_lists_take_the_landmark_test.Goals as goal

pub returns : goal.returns
returns c = whole
