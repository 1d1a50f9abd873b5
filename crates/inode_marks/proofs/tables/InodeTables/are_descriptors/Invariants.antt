use Rattle.std.proofs.Common.{◌≡◌}
use Rattle.inode_marks.specs.Tables.{are_descriptors}
use Rattle.inode_marks.proofs.Limits.{descriptors_from}
use Rattle.inode_marks.proofs.tables.InodeTables.are_descriptors.Given as goal

abbrev pub invariant-loop-place : goal.invariant-loop-place
invariant-loop-place l = are_descriptors l.self l.first l.sector ≡ descriptors_from l.self l.first l.sector l.place
