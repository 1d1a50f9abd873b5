use Rattle.std.proofs.Common.{◌≡◌, ◌≤◌, ◌*◌, get_or, false, if◌then◌else◌}
use Rattle.std.specs.List.{range_with_len, sum_by}
use Rattle.mark_tables.specs.Tables.{count_at}
use Rattle.mark_tables.proofs.groups.reserves.Given as goal

abbrev pub invariant-loop-image : goal.invariant-loop-image
invariant-loop-image l = record {
  sum : l.sum ≡ sum_by (λ image. if get_or l.standing image false then 0 else (count_at l.table l.slot image).most) (range_with_len 0 l.image);
  few : l.sum ≤ 65535 * l.image;
}
