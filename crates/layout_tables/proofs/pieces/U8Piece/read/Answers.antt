use Rattle.std.proofs.Common.{ℕ, length, ap, arith, inl, inr}
use Rattle.layout_tables.proofs.Names.{short}
use Rattle.layout_tables.proofs.pieces.U8Piece.read.Goals as goal

pub returns-in_default : goal.returns-in_default
returns-in_default c x is e = let same = ap (length {A = ℕ}) e in elim (short x is) [ inl one ↦ omega arith | inr two ↦ omega arith ]

pub returns-in_default-2 : goal.returns-in_default-2
returns-in_default-2 c x is e = let same = ap (length {A = ℕ}) e in elim (short x is) [ inl one ↦ omega arith | inr two ↦ omega arith ]
