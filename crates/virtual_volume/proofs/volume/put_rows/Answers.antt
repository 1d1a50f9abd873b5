use Rattle.std.proofs.Common.{◌∙◌, rules, ◌≡◌, ℕ, ◌+◌, ◌*◌, List, ◌++◌, sym, subst, refl, arith}
use Rattle.std.proofs.lemmas.Result.{err_from_is_err_and}
use Rattle.outside.specs.Streams.{AppendsFront}
use Rattle.virtual_volume.proofs.Puts.{one_row, row_inside, rows_cut, rows_on, rows_start}
use Rattle.virtual_volume.proofs.volume.put_rows.Goals as goal

-- where a row of a batch begins
begins : (first r chunk : ℕ) → first * chunk + r * chunk ≡ (first + r) * chunk
begins first r chunk = grind arith

pub loop-r-init : goal.loop-r-init
loop-r-init g c = record {
  passes = λ images hold. rows_start images c.args.geo.now c.args.first (g.K.Sink.gained c.args.sink.now) c.args.pending.now;
  few = omega arith;
  stays = refl;
  later = omega arith;
}

pub returns-in_err-put_row-clause-passed : goal.returns-in_err-put_row-clause-passed
returns-in_err-put_row-clause-passed g c = λ images hold.
    let cut = c.in_err-put_row.ensures.passed images (c.args.first * c.args.geo.now.head.chunk) (c.args.rows * c.args.geo.now.head.chunk)
    (begins c.args.first c.loop-r.r c.args.geo.now.head.chunk) (row_inside c.loop-r.r c.args.rows c.args.geo.now.head.chunk c.loop-r-test.true) hold in
    let p = err_from_is_err_and c.from_residual.result c.from_residual.ensures.1 in
    rw p.1 (
    rows_cut images c.args.geo.now c.args.first c.loop-r.r 1 c.args.rows (c.args.first + c.loop-r.r) (g.K.Sink.gained c.args.sink.now) (g.K.Sink.gained c.loop-r.sink) (g.K.Sink.gained c.put_row.new.sink) c.args.pending.now c.loop-r.pending
    (omega arith) refl (c.loop-r.invariant.passes images hold)
    (subst (λ (l : List ℕ). AppendsFront (g.K.Sink.gained c.loop-r.sink) (g.K.Sink.gained c.put_row.new.sink) (c.loop-r.pending ++ l)) (sym (one_row images c.args.geo.now (c.args.first + c.loop-r.r))) cut))

pub loop-r-preserved : goal.loop-r-preserved
loop-r-preserved g c = record {
  passes = λ images hold.
      rows_on images c.args.geo.now c.args.first c.loop-r.r (g.K.Sink.gained c.args.sink.now) (g.K.Sink.gained c.loop-r.sink) (g.K.Sink.gained c.put_row.new.sink) c.args.pending.now c.loop-r.pending c.put_row.new.pending
      (c.loop-r.invariant.passes images hold)
      (c.in_ok-put_row.ensures.passed images (c.args.first * c.args.geo.now.head.chunk) (c.args.rows * c.args.geo.now.head.chunk)
      (begins c.args.first c.loop-r.r c.args.geo.now.head.chunk) (row_inside c.loop-r.r c.args.rows c.args.geo.now.head.chunk c.loop-r-test.true) hold);
  few = omega (arith, c.in_ok-put_row.ensures.few);
  stays = (let still : g.K.Sink.faults c.put_row.new.sink ≡ g.K.Sink.faults c.loop-r.sink = search rules in still ∙ c.loop-r.invariant.stays);
  later = omega (arith, c.put_row.ensures.cause.later);
}

pub overflow_mul-at : goal.overflow_mul-at
overflow_mul-at g c =
    let inside = row_inside c.loop-r.r c.args.rows c.args.geo.now.head.chunk c.loop-r-test.true in
    let short = c.requires.short in
    omega arith
