use Rattle.std.proofs.Common.{◌≡◌, map, take}
use Rattle.landmark_text.specs.declared.lists.GroupWord.{GroupWord}
use Rattle.landmark_text.proofs.lists.kinds_of.Given as goal

-- those of the words so far
abbrev pub invariant-loop-word : goal.invariant-loop-word
invariant-loop-word l = l.kinds.items ≡ map (λ (word : GroupWord). word.kind) (take l.word-index l.word-items)
