use Rattle.std.proofs.Common.{ℕ, ◌≡◌, ◌<◌, ◌≤◌, [], false, length, slice_index_or}
use Rattle.row_relations.specs.Tables.{standing_of}
use Rattle.relation_prefix.specs.Ties.{dependents, is_zero, HasCoefficients}
use Rattle.relation_prefix.proofs.row_ties.RowTies.of.Given as goal

abbrev pub invariant-loop-image : goal.invariant-loop-image
invariant-loop-image l = record {
  items : l.list.items ≡ dependents l.table (length l.table.standings);
  few : length l.list.items ≤ 8;
  zeros_long : length l.zeros ≡ 64;
  long : length l.coefficients ≡ 64;
  zeros : (i : ℕ) → i < l.image → slice_index_or l.zeros i false ≡ is_zero (standing_of l.table i);
  coefficients : (i : ℕ) → i < l.image → HasCoefficients l.table l.list.items (slice_index_or l.coefficients i []) i;
}
