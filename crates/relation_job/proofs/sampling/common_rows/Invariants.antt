use Rattle.std.proofs.Common.{◌≡◌, ◌<◌, ◌^◌, length, map, take}
use Rattle.std.specs.List.{range_with_len}
use Rattle.run_ends.specs.Agreement.{shortest}
use Rattle.relation_job.specs.Sampling.{rows_in}
use Rattle.relation_job.proofs.sampling.common_rows.Given as goal

abbrev pub invariant-loop-image : goal.invariant-loop-image
invariant-loop-image g l = record {
  least : l.least ≡ shortest (take l.image (map (rows_in l.offsets (g.I.Images.seen l.images).attached) (range_with_len 0 (length (g.I.Images.seen l.images).attached))));
  near : l.least < 2 ^ 55;
}
