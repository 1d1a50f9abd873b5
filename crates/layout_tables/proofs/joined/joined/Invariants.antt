use Rattle.std.proofs.Common.{◌≡◌, All, length}
use Rattle.layout_tables.proofs.Spelled.{before}
use Rattle.layout_tables.proofs.joined.joined.Given as goal

abbrev pub invariant-loop-word : goal.invariant-loop-word
invariant-loop-word g l = All g.T.Piece.IsPiece l.values.items × (l.text ≡ before l.separator g.T.Piece.name l.values.items l.rest)

abbrev pub decreases-loop-word : goal.decreases-loop-word
decreases-loop-word g l = length l.rest
