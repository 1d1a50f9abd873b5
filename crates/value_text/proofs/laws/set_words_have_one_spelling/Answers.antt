use Rattle.value_text.proofs.SetWords.{one_spelling}
use Rattle.value_text.proofs.laws.set_words_have_one_spelling.Goals as goal

pub returns : goal.returns
returns c = one_spelling
