use Rattle.std.proofs.Common.{◌≡◌, ℕ, ◌+◌, [], false, get_or, subst, arith}
use Rattle.xor_tables.specs.Xors.{AreFew, CountRows, IsSumOf}
use Rattle.member_regions.specs.declared.image_sums.ImageSum.{ImageSum}
use Rattle.xor_tables.proofs.row_tally.RowTally.add_rows.Goals as goal

pub loop-j-preserved : goal.loop-j-preserved
loop-j-preserved c =
    let next : c.args.first + c.loop-j.j + 1 ≡ c.args.first + (c.loop-j.j + 1) = omega arith in
    record {
      counts = λ bytes offset told before.
          let none : ImageSum = record { is_zero = false; is_blank = false; is_image = [] } in
          let at : offset + c.args.first + c.loop-j.j ≡ offset + (c.args.first + c.loop-j.j) = omega arith in
          subst (λ (n : ℕ). CountRows bytes c.args.images c.args.span offset n c.add_row.new.self) next
          (c.add_row.ensures.counts bytes offset
          (subst (λ (n : ℕ). IsSumOf bytes c.args.images n (get_or c.args.sums.now c.loop-j.j none)) at (told c.loop-j.j none c.loop-j-test.true))
          (c.loop-j.invariant.counts bytes offset told before));
      few = subst (λ (n : ℕ). AreFew n c.add_row.new.self) next c.add_row.ensures.few;
    }
