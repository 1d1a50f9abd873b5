use Rattle.landmark_text.proofs.Words.{groups_of_words, no_groups}
use Rattle.value_text.proofs.Spellings.{none_then}
use Rattle.landmark_text.proofs.lists.read_groups.Goals as goal

pub returns-in_err-words : goal.returns-in_err-words
returns-in_err-words c = none_then _ _ c.from_residual.result c.from_residual.ensures (no_groups c.args.text.now c.in_err-words.ensures)

pub returns : goal.returns
returns c = groups_of_words c.args.text.now c.in_ok-words.words.items c.kinds_of.result.items c.kinds_of.ensures c.in_ok-words.ensures
