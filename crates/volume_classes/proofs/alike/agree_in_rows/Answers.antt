use Rattle.std.proofs.Common.{◌<◌, ℕ, refl, sym, subst, inl, inr, arith}
use Rattle.std.proofs.lemmas.Bool.{cases_lt, iff_false}
use Rattle.raid_layouts.proofs.Shapes.{shaped_head}
use Rattle.volume_classes.proofs.Agreeing.{answers_false}
use Rattle.volume_classes.proofs.TableRows.{in_stretch}
use Rattle.volume_classes.proofs.Turns.{closer, past_both}
use Rattle.volume_classes.proofs.alike.agree_in_rows.Goals as goal

pub returns-then-not-agree_in_row : goal.returns-then-not-agree_in_row
returns-then-not-agree_in_row c = answers_false (λ agree. iff_false c.agree_in_row.ensures c.if-not-agree_in_row.true (agree c.loop-row.row (omega arith)))

pub stretch_end-row-requires-clause-one : goal.stretch_end-row-requires-clause-one
stretch_end-row-requires-clause-one c = shaped_head c.args.one.now c.args.images c.requires.one

pub stretch_end-row-requires-clause-other : goal.stretch_end-row-requires-clause-other
stretch_end-row-requires-clause-other c = shaped_head c.args.other.now c.args.images c.requires.other

pub loop-row-smaller : goal.loop-row-smaller
loop-row-smaller c =
    closer c.args.count c.loop-row.row c.stretch_end-row.result (omega arith)
    (subst (λ (n : ℕ). c.loop-row.row < n) (sym c.stretch_end-row.ensures)
    (past_both c.args.one.now.head c.args.other.now.head c.loop-row.row (shaped_head c.args.one.now c.args.images c.requires.one) (shaped_head c.args.other.now c.args.images c.requires.other)))

pub loop-row-preserved : goal.loop-row-preserved
loop-row-preserved c row below =
    elim (cases_lt row c.loop-row.row) [
      | inl before ↦ c.loop-row.invariant row before
      | inr from ↦ in_stretch c.args.one.now c.args.other.now c.args.images c.loop-row.row row (shaped_head c.args.one.now c.args.images c.requires.one) (shaped_head c.args.other.now c.args.images c.requires.other) from (omega arith)
          (c.agree_in_row.ensures.0 c.if-not-agree_in_row.false)
    ]

pub returns : goal.returns
returns c = (λ is row lt. c.loop-row.invariant row (omega arith), λ each. refl)
