use Rattle.std.proofs.Common.{◌≡◌, ◌≢◌, ℕ, ◌+◌, ◌<◌, min, length, get_or, arith, refl, sym, subst, ◌∙◌}
use Rattle.std.proofs.lemmas.List.{get_or-set_other, get_or_read_under, length-set}
use Rattle.xor_tables.specs.Paces.{pace_at, span}
use Rattle.xor_tables.specs.Xors.{AreFew, CountRows, RowTable}
use Rattle.search_plan.specs.Rows.{tested_with}
use Rattle.slot_math.proofs.Lists.{each_set}
use Rattle.xor_tables.proofs.early_table.add_block.Goals as goal

pub loop-place-preserved : goal.loop-place-preserved
loop-place-preserved c =
    let within : c.loop-place.place < length c.loop-place.tables.items = let long = c.loop-place.invariant.long in let same = c.requires.tables in let lt = c.loop-place-test.true in omega arith in
    record {
      done = λ bytes hold before k none lt.
          let P : ℕ → RowTable → Type 0 = λ n table. CountRows bytes (length c.args.plan.now.lengths.items) (span (pace_at c.args.paces.now n)) c.args.offset
          (min (c.args.first + c.args.count) (tested_with c.args.plan.now (pace_at c.args.paces.now n).chunk c.args.offset)) table in
          let Q : RowTable → Type 0 = λ table. CountRows bytes (length c.args.plan.now.lengths.items) (span (pace_at c.args.paces.now c.loop-place.place)) c.args.offset
          (min c.args.first (tested_with c.args.plan.now (pace_at c.args.paces.now c.loop-place.place).chunk c.args.offset)) table in
          let read : c.index_mut.result.now ≡ get_or c.loop-place.tables.items c.loop-place.place none
          = get_or_read_under c.loop-place.tables.items c.loop-place.place (length c.loop-place.tables.items) c.index_mut.result.now none c.index_mut.ensures.value within refl in
          let same : c.index_mut.result.now ≡ get_or c.args.tables.now.items c.loop-place.place none = read ∙ c.loop-place.invariant.rest c.loop-place.place none (omega arith) in
          each_set {X = RowTable} P c.loop-place.tables.items (c.loop-place.place + 1) c.loop-place.place c.add_tested.new.self none within
          (c.add_tested.ensures.counts bytes hold (subst Q (sym same) (before c.loop-place.place none c.loop-place-test.true)))
          (λ i low ne. c.loop-place.invariant.done bytes hold before i none (omega arith)) k lt;
      rest = λ k none le.
          let other : k ≢ c.loop-place.place = λ e. absurd (let x : k ≡ c.loop-place.place = e in omega arith) in
          let before = c.loop-place.invariant.rest k none (omega arith) in
          rw get_or-set_other before;
      few = λ k none lt. each_set {X = RowTable} (λ n table. AreFew (c.args.first + c.args.count) table) c.loop-place.tables.items (c.loop-place.place + 1) c.loop-place.place c.add_tested.new.self none within
          c.add_tested.ensures.few (λ i low ne. c.loop-place.invariant.few i none (omega arith)) k lt;
      long = length-set c.loop-place.tables.items c.loop-place.place c.add_tested.new.self ∙ c.loop-place.invariant.long;
    }

pub returns-clause-counts : goal.returns-clause-counts
returns-clause-counts c = λ bytes hold before k none lt. c.loop-place.invariant.done bytes hold before k none (omega arith)
