use Rattle.std.proofs.Common.{◌≡◌, All, length}
use Rattle.value_text.proofs.Spellings.{before}
use Rattle.value_text.proofs.spelled.joined.Given as goal

abbrev pub invariant-loop-word : goal.invariant-loop-word
invariant-loop-word g l = All g.T.Spelled.IsSpelled l.values.items × (l.text ≡ before l.separator g.T.Spelled.name l.values.items l.rest)

abbrev pub decreases-loop-word : goal.decreases-loop-word
decreases-loop-word g l = length l.rest
