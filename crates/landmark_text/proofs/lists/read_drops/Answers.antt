use Rattle.landmark_text.proofs.Words.{drops_of_words, no_drops}
use Rattle.value_text.proofs.Spellings.{none_then}
use Rattle.landmark_text.proofs.lists.read_drops.Goals as goal

pub returns-in_err-words : goal.returns-in_err-words
returns-in_err-words c = none_then _ _ c.from_residual.result c.from_residual.ensures (no_drops c.args.text.now c.in_err-words.ensures)

pub returns : goal.returns
returns c = drops_of_words c.args.text.now c.in_ok-words.words.items c.drops_of.result.items c.drops_of.ensures c.in_ok-words.ensures
