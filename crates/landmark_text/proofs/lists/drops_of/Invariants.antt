use Rattle.std.proofs.Common.{◌≡◌, map, take}
use Rattle.landmark_text.specs.declared.lists.DropWord.{DropWord}
use Rattle.landmark_text.proofs.lists.drops_of.Given as goal

-- those of the words so far
abbrev pub invariant-loop-word : goal.invariant-loop-word
invariant-loop-word l = l.drops.items ≡ map (λ (word : DropWord). word.at) (take l.word-index l.word-items)
