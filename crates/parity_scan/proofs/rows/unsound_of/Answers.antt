use Rattle.std.proofs.Common.{◌≡◌, ◌+◌, ◌/◌, ◌∙◌, arith, sym}
use Rattle.raid_terms.specs.Cells.{row_cells}
use Rattle.parity_scan.specs.Block.{is_sound_in}
use Rattle.parity_scan.proofs.Columns.{sound_here, unsound_none, unsound_sound, unsound_unsound}
use Rattle.parity_scan.proofs.rows.unsound_of.Goals as goal
use Rattle.parity_scan.proofs.rows.unsound_of.Goals.{then-not-is_sound, else-not-is_sound}

pub loop-j-init : goal.loop-j-init
loop-j-init c = record {
  counted = sym (unsound_none c.args.geo.now c.args.regions.now c.args.first);
  few = omega arith;
  cells = c.row_cells-cells.ensures;
}

pub loop-j-preserved : goal.loop-j-preserved
loop-j-preserved c =
    let here : c.deref.result.now ≡ row_cells c.args.geo.now ((c.args.first + c.loop-j.j) / c.args.geo.now.head.chunk) = c.deref.ensures.0 ∙ c.turn_to.ensures in
    let sound : c.is_sound.result ≡ is_sound_in c.args.geo.now c.args.regions.now c.args.first c.loop-j.j =
    c.is_sound.ensures ∙ sound_here c.args.geo.now c.args.regions.now c.args.first c.loop-j.j c.deref.result.now here in
    elim c.if-not-is_sound.branch [
      | then-not-is_sound w ↦
          let more = unsound_unsound c.args.geo.now c.args.regions.now c.args.first c.loop-j.j (c.loop-j.j + 1) c.is_sound.result (omega arith) sound w.if-not-is_sound.true in
          record { counted = omega (arith, w.sum-is); few = omega (arith, w.sum-is); cells = c.turn_to.ensures }
      | else-not-is_sound w ↦
          let same = unsound_sound c.args.geo.now c.args.regions.now c.args.first c.loop-j.j (c.loop-j.j + 1) c.is_sound.result (omega arith) sound w.if-not-is_sound.false in
          record { counted = omega (arith, w.sum-is); few = omega (arith, w.sum-is); cells = c.turn_to.ensures }
    ]
