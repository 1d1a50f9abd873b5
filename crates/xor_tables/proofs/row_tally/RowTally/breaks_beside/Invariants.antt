use Rattle.std.proofs.Common.{ℕ, ◌<◌, ◌*◌, [], get_or}
use Rattle.xor_tables.proofs.row_tally.RowTally.breaks_beside.Given as goal

abbrev pub invariant-loop-turn : goal.invariant-loop-turn
invariant-loop-turn l = (k i : ℕ) → k < l.turn → i < l.images → k * l.span < l.rows → l.most < get_or (get_or l.self.beside k []) i 0
