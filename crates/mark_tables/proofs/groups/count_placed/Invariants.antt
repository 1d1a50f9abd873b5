use Rattle.std.proofs.Common.{◌≡◌, ◌≤◌, ◌*◌, None}
use Rattle.std.specs.List.{range_with_len, slice_index_or, sum_by}
use Rattle.std.specs.Option.{option_map_or}
use Rattle.mark_tables.specs.Tables.{count_at}
use Rattle.mark_tables.proofs.groups.count_placed.Given as goal

abbrev pub invariant-loop-slot : goal.invariant-loop-slot
invariant-loop-slot l = record {
  fits : l.fits ≡ sum_by (λ s. option_map_or (λ image. (count_at l.table s image).fits) (slice_index_or l.prefix s None) 0) (range_with_len 0 l.slot);
  misfits : l.misfits ≡ sum_by (λ s. option_map_or (λ image. (count_at l.table s image).misfits) (slice_index_or l.prefix s None) 0) (range_with_len 0 l.slot);
  few_fits : l.fits ≤ 65535 * l.slot;
  few_misfits : l.misfits ≤ 65535 * l.slot;
}
