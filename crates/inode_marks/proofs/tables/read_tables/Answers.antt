use Rattle.std.proofs.Common.{◌≡◌, ◌∙◌, sym, true}
use Rattle.inode_marks.specs.Tables.{has_tables}
use Rattle.inode_marks.proofs.Limits.{sound_of}
use Rattle.inode_marks.proofs.tables.read_tables.Goals as goal

pub returns-then-has_tables-clause-within : goal.returns-then-has_tables-clause-within
returns-then-has_tables-clause-within c =
    let whole : has_tables c.args.first.now c.args.second.now ≡ true = sym c.has_tables.ensures ∙ c.if-has_tables.true in
    rw c.tables_of.ensures (sound_of c.args.first.now c.args.second.now whole)
