use Rattle.std.proofs.Common.{ℕ, ◌/◌, ◌++◌, List, [], ◌∷◌, Some, get_or, length, ap, sym, ◌∙◌, arith, append_assoc, append-nil, length-append}
use Rattle.std.proofs.lemmas.Option.{slice_get-get_or}
use Rattle.wide_product.proofs.Lists.{digit, last_one}
use Rattle.wide_product.proofs.base_lists.bases_at.Goals as goal

pub overflow_cast-later : goal.overflow_cast-later
overflow_cast-later c = let d = digit c.args.offsets.now c.args.images c.loop-image.image c.loop-image.rest c.count_bases-later.result c.loop-image-test.true c.loop-image.invariant.below c.loop-image.invariant.few c.count_bases-later.ensures in let few = d.few in let is = d.counts in omega arith

pub nonzero_div-rest : goal.nonzero_div-rest
nonzero_div-rest c = (digit c.args.offsets.now c.args.images c.loop-image.image c.loop-image.rest c.count_bases-later.result c.loop-image-test.true c.loop-image.invariant.below c.loop-image.invariant.few c.count_bases-later.ensures).some

pub offset_bounds-offsets-rest : goal.offset_bounds-offsets-rest
offset_bounds-offsets-rest c = let row = (digit c.args.offsets.now c.args.images c.loop-image.image c.loop-image.rest c.count_bases-later.result c.loop-image-test.true c.loop-image.invariant.below c.loop-image.invariant.few c.count_bases-later.ensures).row in let few = c.requires.offsets in omega arith

pub bounds-offsets-rest : goal.bounds-offsets-rest
bounds-offsets-rest c = (digit c.args.offsets.now c.args.images c.loop-image.image c.loop-image.rest c.count_bases-later.result c.loop-image-test.true c.loop-image.invariant.below c.loop-image.invariant.few c.count_bases-later.ensures).row

pub nonzero_rem-rest : goal.nonzero_rem-rest
nonzero_rem-rest c = (digit c.args.offsets.now c.args.images c.loop-image.image c.loop-image.rest c.count_bases-later.result c.loop-image-test.true c.loop-image.invariant.below c.loop-image.invariant.few c.count_bases-later.ensures).some

pub loop-image-preserved : goal.loop-image-preserved
loop-image-preserved c =
    let d = digit c.args.offsets.now c.args.images c.loop-image.image c.loop-image.rest c.count_bases-later.result c.loop-image-test.true c.loop-image.invariant.below c.loop-image.invariant.few c.count_bases-later.ensures in
    let long = c.loop-image.invariant.long in
    let items = c.push.ensures.items in
    record {
      long = omega (arith, ap length items, length-append c.loop-image.bases.items (get_or c.args.offsets.now (c.loop-image.rest / c.count_bases-later.result) 0 ∷ []));
      below = d.column;
      few = d.few;
      front = λ tail e.
          let base = get_or c.args.offsets.now (c.loop-image.rest / c.count_bases-later.result) 0 in
          c.loop-image.invariant.front (base ∷ tail) (d.front base tail (slice_get-get_or c.args.offsets.now (c.loop-image.rest / c.count_bases-later.result) 0 d.row) e)
          ∙ ap (λ (l : List ℕ). Some l) (sym (append_assoc c.loop-image.bases.items (base ∷ []) tail) ∙ ap (λ (l : List ℕ). l ++ tail) (sym items));
    }

pub returns : goal.returns
returns c =
    c.loop-image.invariant.front [] (last_one c.args.offsets.now c.args.images c.loop-image.image c.loop-image.rest c.loop-image-test.false c.loop-image.invariant.below)
    ∙ ap (λ (l : List ℕ). Some l) (append-nil c.loop-image.bases.items)
