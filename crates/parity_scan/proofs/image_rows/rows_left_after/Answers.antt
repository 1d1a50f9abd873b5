use Rattle.std.proofs.Common.{◌≡◌, ◌+◌, ◌/◌, ◌∙◌, ℕ, ap, arith}
use Rattle.raid_terms.specs.Parity.{is_sound_row, unsound_rows}
use Rattle.parity_scan.proofs.ImageRows.{next_sound, next_unsound, unsound_rises}
use Rattle.parity_scan.proofs.WholeRows.{row_itself}
use Rattle.parity_scan.proofs.image_rows.rows_left_after.Goals as goal
use Rattle.parity_scan.proofs.image_rows.rows_left_after.Goals.{then-not-is_sound_at+else-rest-eq0, else-not-is_sound_at}

pub returns-then-rest-eq0-clause-left : goal.returns-then-rest-eq0-clause-left
returns-then-rest-eq0-clause-left c = λ images hold.
    let sound : c.is_sound_at.result ≡ is_sound_row images c.args.geo.now c.loop-t.t =
    c.is_sound_at.ensures.sound images c.args.run c.loop-t.t hold (omega arith) (omega arith) c.turn_row.ensures.place in
    let more = next_unsound images c.args.geo.now c.loop-t.t c.is_sound_at.result sound c.if-not-is_sound_at.true in
    let grows = unsound_rises images c.args.geo.now (c.loop-t.t + 1) c.args.to (omega arith) in
    let so_far = c.loop-t.invariant.counted images hold in
    let none = c.if-rest-eq0.true in
    omega arith

pub loop-t-preserved : goal.loop-t-preserved
loop-t-preserved c =
    record {
      row = row_itself c.args.geo.now c.args.sums.now.images (c.loop-t.t / c.args.geo.now.head.chunk) c.turn_row.new.row c.turn_row.ensures;
      known = c.is_sound_at.ensures.known;
      room = c.is_sound_at.ensures.room;
      counted = λ images hold.
          let sound : c.is_sound_at.result ≡ is_sound_row images c.args.geo.now c.loop-t.t =
          c.is_sound_at.ensures.sound images c.args.run c.loop-t.t hold (omega arith) (omega arith) c.turn_row.ensures.place in
          let so_far = c.loop-t.invariant.counted images hold in
          elim c.if-not-is_sound_at.branch [
            | then-not-is_sound_at+else-rest-eq0 w ↦
                let more = next_unsound images c.args.geo.now c.loop-t.t c.is_sound_at.result sound w.if-not-is_sound_at.true in
                let some = w.if-rest-eq0.false in
                let is = w.rest-is in
                omega arith
            | else-not-is_sound_at w ↦
                let same = next_sound images c.args.geo.now c.loop-t.t c.loop-t.rest _ c.is_sound_at.result sound w.if-not-is_sound_at.false so_far in
                omega arith
          ];
    }

pub is_sound_at-requires-clause-row : goal.is_sound_at-requires-clause-row
is_sound_at-requires-clause-row c = row_itself c.args.geo.now c.args.sums.now.images (c.loop-t.t / c.args.geo.now.head.chunk) c.turn_row.new.row c.turn_row.ensures

pub returns-clause-left : goal.returns-clause-left
returns-clause-left c = λ images hold.
    let so_far = c.loop-t.invariant.counted images hold in
    let far = c.loop-t.auto.t-end in
    let done = c.loop-t-test.false in
    let some = c.requires.rows in
    let at : c.args.to ≡ c.loop-t.t = omega arith in
    ap (λ (t : ℕ). unsound_rows images c.args.geo.now t + c.loop-t.rest) at ∙ so_far
