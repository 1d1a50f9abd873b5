use Rattle.std.proofs.Common.{◌≡◌, ◌*◌, take}
use Rattle.std.specs.List.{flat_map, range_with_len}
use Rattle.relation_job.specs.Blocks.{block_sector}
use Rattle.relation_job.proofs.reading.pick_row.Given as goal

abbrev pub invariant-loop-image : goal.invariant-loop-image
invariant-loop-image l = take (512 * l.image) l.to ≡ flat_map (block_sector l.block l.rows l.place) (range_with_len 0 l.image)
