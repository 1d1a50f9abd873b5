use Rattle.std.proofs.Common.{rules, sym, arith}
use Rattle.near_tables.specs.Torn.{with_slots}
use Rattle.near_tables.proofs.LostChunks.{few_empty, not_lost, some_lost}
use Rattle.near_tables.proofs.lost.has_lost.Goals as goal

pub returns-then-count_empty-from : goal.returns-then-count_empty-from
returns-then-count_empty-from c = sym (few_empty c.args.head.now c.args.chunks c.args.slots.now c.requires.head (let few = c.if-count_empty-from.true in let empty = c.count_empty.ensures.count in let copies = c.from.ensures in omega arith))

pub returns-then-is_lost : goal.returns-then-is_lost
returns-then-is_lost c = sym (some_lost (with_slots c.args.head.now c.args.slots.now) c.args.chunks c.loop-chunk.chunk (omega arith) (search rules))

pub returns : goal.returns
returns c = sym (not_lost (with_slots c.args.head.now c.args.slots.now) c.args.chunks (λ chunk lt. c.loop-chunk.invariant chunk (let end = c.loop-chunk-test.false in omega arith)))
