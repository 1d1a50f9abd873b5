use Rattle.std.proofs.Common.{inl, inr, arith}
use Rattle.address_map.proofs.Heads.{chunk_above}
use Rattle.xor_tables.proofs.row_tally.RowTally.suffices.Goals as goal

pub tested_rows-rows-requires : goal.tested_rows-rows-requires
tested_rows-rows-requires c = record { chunk = chunk_above c.args.pace.chunk c.requires.pace.chunk }

pub returns-then-rows-first : goal.returns-then-rows-first
returns-then-rows-first c = λ e. inl (let value = c.tested_rows-rows.ensures.value in let few = c.if-rows-first.true in omega arith)

pub returns : goal.returns
returns c = λ e. inr (c.settles_levels.ensures c.args.offset c.tested_rows-rows.ensures.value e)
