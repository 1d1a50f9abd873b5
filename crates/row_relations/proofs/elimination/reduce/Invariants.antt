use Rattle.std.proofs.Common.{ℕ, ◌≡◌, ◌<◌, ◌≤◌, List, length, get_or, slice_index_or}
use Rattle.std.specs.List.{All}
use Rattle.row_relations.specs.declared.combination.Combination.{Combination}
use Rattle.row_relations.specs.declared.standing.TheConstants.{MOST_IMAGES}
use Rattle.row_relations.specs.Rows.{AreBytes}
use Rattle.row_relations.specs.Tables.{Table}
use Rattle.row_relations.specs.Stages.{AreCleared, IsKept, IsRest}
use Rattle.row_relations.proofs.elimination.reduce.Given as goal

abbrev pub invariant-loop-part : goal.invariant-loop-part
invariant-loop-part l = record {
  wide : length l.rest.sector ≡ 512;
  rest : (sectors : List ℕ) (table : Table) (n : ℕ) → AreBytes sectors → n ≤ MOST_IMAGES → All (IsKept sectors table n) l.kept → IsRest sectors table n l.fn.rest → IsRest sectors table n l.rest;
  vanish : All (λ (x : Combination). get_or x.sector x.pivot 0 ≡ 1) l.kept → AreCleared l.kept → (k : ℕ) (d : Combination) → k < l.part-index → get_or l.rest.sector (slice_index_or l.kept k d).pivot 0 ≡ 0;
}
