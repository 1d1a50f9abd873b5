use Rattle.command_words.proofs.OneReading.{one_reading}
use Rattle.command_words.proofs.laws.words_have_one_reading.Goals as goal

pub returns : goal.returns
returns c = one_reading
