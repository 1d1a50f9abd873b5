use Rattle.near_mirror.proofs.NearWords.{one_spelling}
use Rattle.near_mirror.proofs.laws.near_words_have_one_spelling.Goals as goal

pub returns : goal.returns
returns c = one_spelling
