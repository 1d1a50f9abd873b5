-- The chunks and paces of tables, and the rows that they test.
use Rattle.std.proofs.Common.{◌≡◌, ℕ, ◌+◌, ◌-◌, ◌<◌, ◌≤◌, min, List, All, length, get_or, arith, subst, inl, inr}
use Rattle.std.specs.Prelude.{IsTrue}
use Rattle.raid_params.specs.Validity.{is_chunk}
use Rattle.address_map.proofs.Heads.{chunk_above}
use Rattle.search_plan.specs.declared.plan.Plan.{Plan}
use Rattle.xor_tables.specs.Early.{AreEarlyTables, AreKnown, CountFirst}
use Rattle.xor_tables.specs.Paces.{pace_at, span, IsPaceOf}
use Rattle.xor_tables.specs.declared.pace.Pace.{Pace}
use Rattle.xor_tables.proofs.Paces.{contained}
use Rattle.xor_tables.specs.Xors.{AreFew, CountRows, RowTable}
use Rattle.search_plan.specs.Rows.{tested_with}

-- a chunk of some that make sense holds a sector
pub some_at : (chunks : List ℕ) (c : ℕ) → All (λ chunk. IsTrue (is_chunk chunk)) chunks → c < length chunks → 0 < get_or chunks c 0
some_at chunks c are lt = chunk_above (get_or chunks c 0) (are c 0 lt)

-- a table that counts few counts few among more rows
pub few_more : (a b : ℕ) (table : RowTable) → a ≤ b → AreFew a table → AreFew b table
few_more a b table le few = record { all = (let h = few.all in omega arith); beside = λ k i. let h = few.beside k i in omega arith }

-- tables that count all rows that are tested, or are settled, are those of their paces
pub known_tables : (images : List (List ℕ)) (plan : Plan) (paces : List Pace) (offset first : ℕ) (tables : List RowTable) → length tables ≡ length paces →
    CountFirst images plan paces offset first tables → AreKnown plan paces offset first tables → AreEarlyTables images plan paces offset tables
known_tables images plan paces offset first tables long counts known = record {
  long = long;
  each = λ c none lt. record {
    rows = min first (tested_with plan (pace_at paces c).chunk offset);
    within = omega arith;
    counts = counts c none lt;
    enough = elim (known c none lt) [
      | inl all ↦ inl (omega arith)
      | inr settled ↦ inr settled
    ];
  };
}

-- tables of no rows
pub first_counts : (images : List (List ℕ)) (plan : Plan) (paces : List Pace) (offset : ℕ) (tables : List RowTable) → length tables ≡ length paces →
    ((members span offset : ℕ) → All (CountRows images members span offset 0) tables) → CountFirst images plan paces offset 0 tables
first_counts images plan paces offset tables long none = λ c d lt.
    let zero_rows : 0 ≡ min 0 (tested_with plan (pace_at paces c).chunk offset) = omega arith in
    subst (λ (n : ℕ). CountRows images (length plan.lengths.items) (span (pace_at paces c)) offset n (get_or tables c d)) zero_rows
    (none (length plan.lengths.items) (span (pace_at paces c)) offset c d (omega arith))

-- all rows were read
pub all_known : (plan : Plan) (paces : List Pace) (offset first most : ℕ) (tables : List RowTable) → All (IsPaceOf plan) paces → All (λ chunk. tested_with plan chunk offset ≤ most) plan.bounds.chunks.items → most ≤ first → AreKnown plan paces offset first tables
all_known plan paces offset first most tables are each end = λ c none lt.
    let low = contained (λ chunk. tested_with plan chunk offset ≤ most) plan.bounds.chunks.items (pace_at paces c).chunk each (are c (record { chunk = 0; delay = 0 }) lt).chunk in
    inl (omega arith)

-- rows more for the chunk that tests them
pub counts_on : (images : List (List ℕ)) (members span offset first count rows tested : ℕ) (old new : RowTable) → first < tested → rows ≡ min (tested - first) count →
    (CountRows images members span offset first old → CountRows images members span offset (first + rows) new) →
    CountRows images members span offset (min first tested) old → CountRows images members span offset (min (first + count) tested) new
counts_on images members span offset first count rows tested old new below is grows before =
    let at : min first tested ≡ first = omega arith in
    let to : first + rows ≡ min (first + count) tested = omega arith in
    subst (λ (n : ℕ). CountRows images members span offset n new) to (grows (subst (λ (n : ℕ). CountRows images members span offset n old) at before))

-- and none for one that tests no more
pub counts_stay : (images : List (List ℕ)) (members span offset first count tested : ℕ) (table : RowTable) → tested ≤ first →
    CountRows images members span offset (min first tested) table → CountRows images members span offset (min (first + count) tested) table
counts_stay images members span offset first count tested table past before =
    let same : min first tested ≡ min (first + count) tested = omega arith in
    subst (λ (n : ℕ). CountRows images members span offset n table) same before
