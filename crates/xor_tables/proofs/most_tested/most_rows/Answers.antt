use Rattle.std.proofs.Common.{◌≡◌, ℕ, ◌≤◌, max, length, take, get_or, inl, inr, arith, refl, sym, ap, subst, ◌∙◌}
use Rattle.std.proofs.lemmas.Bool.{cases_eq}
use Rattle.std.proofs.lemmas.List.{get_or_default, take_all}
use Rattle.std.proofs.lemmas.List.Sums.{fold_more}
use Rattle.xor_tables.specs.Xors.{most_tested}
use Rattle.search_plan.specs.Rows.{tested_with}
use Rattle.xor_tables.proofs.Settled.{some_at}
use Rattle.xor_tables.proofs.most_tested.most_rows.Goals as goal

pub loop-chunk-init : goal.loop-chunk-init
unfolding most_tested
loop-chunk-init c = record { value = refl; within = omega arith; most = λ k d lt. absurd (omega arith) }

pub tested_rows-requires : goal.tested_rows-requires
tested_rows-requires c = record { chunk = some_at c.args.chunks.now c.loop-chunk.chunk-index c.requires.chunks c.loop-chunk-test.true }

pub loop-chunk-preserved : goal.loop-chunk-preserved
unfolding most_tested
loop-chunk-preserved c =
    let more = fold_more (λ most chunk. max most (tested_with c.args.plan.now chunk c.args.offset)) 0 c.args.chunks.now c.loop-chunk.chunk-index 0 c.loop-chunk-test.true in
    let before : c.loop-chunk.most ≡ most_tested c.args.plan.now (take c.loop-chunk.chunk-index c.args.chunks.now) c.args.offset = c.loop-chunk.invariant.value in
    let here : c.tested_rows.result ≡ tested_with c.args.plan.now (get_or c.args.chunks.now c.loop-chunk.chunk-index 0) c.args.offset = c.tested_rows.ensures.value in
    let low = c.tested_rows.ensures.within in
    let is : c.max-most.result ≡ max c.tested_rows.result c.loop-chunk.most = c.max-most.ensures in
    let within = c.loop-chunk.invariant.within in
    record {
      value = (let e : max c.tested_rows.result c.loop-chunk.most ≡ max c.loop-chunk.most c.tested_rows.result = omega arith in
          is ∙ e ∙ ap (λ (m : ℕ). max m c.tested_rows.result) before ∙ ap (λ (r : ℕ). max (most_tested c.args.plan.now (take c.loop-chunk.chunk-index c.args.chunks.now) c.args.offset) r) here ∙ sym more);
      within = omega arith;
      most = λ k d lt. elim (cases_eq k c.loop-chunk.chunk-index) [
        | inl e ↦ (let same : get_or c.args.chunks.now k d ≡ get_or c.args.chunks.now c.loop-chunk.chunk-index 0 = ap (λ (n : ℕ). get_or c.args.chunks.now n d) e ∙ get_or_default c.args.chunks.now c.loop-chunk.chunk-index d 0 c.loop-chunk-test.true in
            let other : tested_with c.args.plan.now (get_or c.args.chunks.now k d) c.args.offset ≡ tested_with c.args.plan.now (get_or c.args.chunks.now c.loop-chunk.chunk-index 0) c.args.offset
            = ap (λ (n : ℕ). tested_with c.args.plan.now n c.args.offset) same in
            let least : c.tested_rows.result ≤ c.max-most.result = omega arith in
            subst (λ (n : ℕ). n ≤ c.max-most.result) (here ∙ sym other) least)
        | inr ne ↦ (let old = c.loop-chunk.invariant.most k d (omega arith) in let more : c.loop-chunk.most ≤ c.max-most.result = omega arith in omega arith)
      ];
    }

pub returns : goal.returns
returns c =
    let all : length c.args.chunks.now ≤ c.loop-chunk.chunk-index = let h = c.loop-chunk-test.false in omega arith in
    record {
      value = c.loop-chunk.invariant.value ∙ ap (λ l. most_tested c.args.plan.now l c.args.offset) (take_all c.loop-chunk.chunk-index c.args.chunks.now all);
      within = c.loop-chunk.invariant.within;
      most = λ k d lt. c.loop-chunk.invariant.most k d (omega arith);
    }
