use Rattle.std.proofs.Common.{arith}
use Rattle.std.proofs.lemmas.Nat.{mod_below}
use Rattle.near_mirror.proofs.Chunks.{valid_chunk}
use Rattle.near_tables.proofs.lane_reading.Strips.count_at.Goals as goal

pub nonzero_rem-at : goal.nonzero_rem-at
nonzero_rem-at c = valid_chunk c.args.self.now.head c.requires.head

pub overflow_sub-chunk : goal.overflow_sub-chunk
overflow_sub-chunk c = let below = mod_below c.args.at c.args.self.now.head.chunk (valid_chunk c.args.self.now.head c.requires.head) in omega arith

pub returns-clause-some : goal.returns-clause-some
returns-clause-some c = let below = mod_below c.args.at c.args.self.now.head.chunk (valid_chunk c.args.self.now.head c.requires.head) in let low = c.requires.below in omega arith

pub returns-clause-row : goal.returns-clause-row
returns-clause-row c = let below = mod_below c.args.at c.args.self.now.head.chunk (valid_chunk c.args.self.now.head c.requires.head) in let low = c.requires.below in omega arith
