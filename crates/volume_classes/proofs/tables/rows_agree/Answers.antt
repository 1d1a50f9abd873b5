use Rattle.std.proofs.Common.{◌<◌, ℕ, refl, sym, subst, inl, inr, arith}
use Rattle.std.proofs.lemmas.Bool.{cases_lt, iff_false}
use Rattle.volume_classes.proofs.Agreeing.{answers_false}
use Rattle.volume_classes.proofs.TableRows.{both_sizes, head_valid, in_table_stretch, rows_below, told_is}
use Rattle.volume_classes.proofs.Turns.{closer, past_both}
use Rattle.volume_classes.proofs.tables.rows_agree.Goals as goal

pub told_rows-count-requires-clause-one : goal.told_rows-count-requires-clause-one
told_rows-count-requires-clause-one c = head_valid c.args.images c.args.end c.args.one.now c.requires.one

pub told_rows-count-requires-clause-other : goal.told_rows-count-requires-clause-other
told_rows-count-requires-clause-other c = head_valid c.args.images c.args.end c.args.other.now c.requires.other

pub stretch_end-row-requires-clause-one : goal.stretch_end-row-requires-clause-one
stretch_end-row-requires-clause-one c = head_valid c.args.images c.args.end c.args.one.now c.requires.one

pub stretch_end-row-requires-clause-other : goal.stretch_end-row-requires-clause-other
stretch_end-row-requires-clause-other c = head_valid c.args.images c.args.end c.args.other.now c.requires.other

pub loop-row-smaller : goal.loop-row-smaller
loop-row-smaller c =
    closer c.told_rows-count.result c.loop-row.row c.stretch_end-row.result (omega arith)
    (subst (λ (n : ℕ). c.loop-row.row < n) (sym c.stretch_end-row.ensures)
    (past_both c.args.one.now.head c.args.other.now.head c.loop-row.row (head_valid c.args.images c.args.end c.args.one.now c.requires.one) (head_valid c.args.images c.args.end c.args.other.now c.requires.other)))

pub loop-row-preserved : goal.loop-row-preserved
loop-row-preserved c a b a_is b_is row below =
    let sizes = both_sizes a b c.args.images c.args.end c.args.one.now c.args.other.now a_is b_is c.requires.sizes in
    let told = told_is a b c.args.images c.args.end c.args.one.now c.args.other.now a_is b_is in
    let count = c.told_rows-count.ensures.told in
    let both = rows_below a b c.args.end c.loop-row.row sizes (omega arith) in
    elim (cases_lt row c.loop-row.row) [
      | inl before ↦ c.loop-row.invariant a b a_is b_is row before
      | inr from ↦ in_table_stretch a b c.args.images c.args.end c.loop-row.row row c.args.one.now c.args.other.now a_is b_is from (omega arith)
          ((c.row_agrees.ensures a b c.args.end a_is b_is sizes both.0 both.1).0 c.if-not-row_agrees.false)
    ]

pub returns-then-not-row_agrees : goal.returns-then-not-row_agrees
returns-then-not-row_agrees c a b a_is b_is =
    let sizes = both_sizes a b c.args.images c.args.end c.args.one.now c.args.other.now a_is b_is c.requires.sizes in
    let told = told_is a b c.args.images c.args.end c.args.one.now c.args.other.now a_is b_is in
    let count = c.told_rows-count.ensures.told in
    let both = rows_below a b c.args.end c.loop-row.row sizes (omega arith) in
    answers_false (λ agree. iff_false (c.row_agrees.ensures a b c.args.end a_is b_is sizes both.0 both.1) c.if-not-row_agrees.true (agree c.loop-row.row (omega arith)))

pub returns : goal.returns
returns c a b a_is b_is =
    let told = told_is a b c.args.images c.args.end c.args.one.now c.args.other.now a_is b_is in
    let count = c.told_rows-count.ensures.told in
    (λ is row below. c.loop-row.invariant a b a_is b_is row (omega arith), λ each. refl)
