use Rattle.std.proofs.Common.{◌≡◌, ◌+◌, ℕ, sym, ap, ◌∙◌, length, arith}
use Rattle.std.proofs.lemmas.List.{length-map}
use Rattle.arrayvec.specs.ArrayVec.{ArrayVec}
use Rattle.layout_tables.specs.Cells.{cells_in}
use Rattle.layout_tables.specs.Shape.{data_in, first_of, times}
use Rattle.layout_tables.specs.Tables.{rows_of}
use Rattle.layout_tables.proofs.ShapeLemmas.{cells_some, drawn_with, first_cells, rows_with}
use Rattle.layout_tables.proofs.building.table_with.Goals as goal

pub bounds-rows-0 : goal.bounds-rows-0
bounds-rows-0 c = omega (arith, (cells_some c.args.rows.now c.requires).0)

pub grid_with-requires : goal.grid_with-requires
grid_with-requires c = omega (arith, (cells_some c.args.rows.now c.requires).1)

pub invariant_of-result : goal.invariant_of-result
invariant_of-result c =
    let rows = c.args.rows.now in
    let some = cells_some rows c.requires in
    let first : c.as_slice-first.result.now ≡ first_of (cells_in rows) = c.as_slice-first.ensures.value ∙ first_cells rows c.index-rows-0.result (omega (arith, some.0)) c.index-rows-0.is in
    let p : c.times.result ≡ times 24 (first_of (cells_in rows)) = c.times.ensures.count ∙ ap (times 24) first in
    let q : c.times-2.result ≡ times 25 (first_of (cells_in rows)) = c.times-2.ensures.count ∙ ap (times 25) first in
    record {
      drawn = drawn_with (cells_in rows) c.grid_with.result (length c.as_slice-first.result.now) (length rows) c.data_in.result (c.times.result + c.times-2.result) c.requires c.grid_with.ensures
          (ap (length {A = ℕ}) first) (sym (length-map rows (λ (r : ArrayVec ℕ). r.items))) (c.data_in.ensures.count ∙ ap data_in first)
          (ap (λ (n : ℕ). n + c.times-2.result) p ∙ ap (λ (n : ℕ). times 24 (first_of (cells_in rows)) + n) q);
    }

pub returns : goal.returns
unfolding rows_of
returns c =
    let rows = c.args.rows.now in
    let some = cells_some rows c.requires in
    let first : c.as_slice-first.result.now ≡ first_of (cells_in rows) = c.as_slice-first.ensures.value ∙ first_cells rows c.index-rows-0.result (omega (arith, some.0)) c.index-rows-0.is in
    rows_with (cells_in rows) c.grid_with.result (length c.as_slice-first.result.now) (length rows) c.requires c.grid_with.ensures
    (ap (length {A = ℕ}) first) (sym (length-map rows (λ (r : ArrayVec ℕ). r.items)))
