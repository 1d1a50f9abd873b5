use Rattle.relation_prefix.proofs.Left.{some_chunk}
use Rattle.head_walk.proofs.hopeful.prefix_test.Goals as goal

pub tested_rows-requires : goal.tested_rows-requires
tested_rows-requires c = record { chunk = some_chunk c.args.head.now c.requires.valid }
