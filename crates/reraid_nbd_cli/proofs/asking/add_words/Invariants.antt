use Rattle.std.proofs.Common.{◌≡◌, ◌++◌, take}
use Rattle.reraid_nbd_cli.proofs.asking.add_words.Given as goal

abbrev pub invariant-loop-word : goal.invariant-loop-word
invariant-loop-word l = l.to.items ≡ l.fn.to.items ++ take l.word-index l.words
