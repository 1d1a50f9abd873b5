use Rattle.std.proofs.Common.{◌≡◌, ℕ, List, [], slice_range, ◌+◌, ◌*◌, get_or, length, refl, ap, sym, ◌∙◌, arith}
use Rattle.raid_params.specs.declared.limits.TheConstants.{MOST}
use Rattle.survey_engine.specs.Blocks.{found_at}
use Rattle.survey_engine.specs.Sightings.{sighting_in}
use Rattle.survey_engine.proofs.Order.{before_up}
use Rattle.survey_engine.proofs.Rows.{long_enough, row_none, row_all, turn_none, turn_some, with_row}
use Rattle.survey_engine.proofs.gathering.look_at_row.Goals as goal
use Rattle.survey_engine.proofs.gathering.look_at_row.Goals.{in-Some+in_ok-add, in_default}

pub loop-image-init : goal.loop-image-init
loop-image-init c = record {
  found = sym (row_none c.args.ask.now c.args.lengths.now c.args.sweep.now c.args.place c.args.counted.now);
  before = before_up c.args.lengths.now ((c.args.sweep.now.first + c.args.place) * MOST) ((c.args.sweep.now.first + c.args.place) * MOST + 0) c.args.counted.now (omega arith) c.requires.before;
}

pub loop-image-preserved : goal.loop-image-preserved
loop-image-preserved c =
    let length = get_or c.args.lengths.now c.loop-image.image 0 in
    let here = get_or c.args.sweep.now.blocks c.loop-image.image [] in
    let bytes = slice_range here (512 * c.args.place) (512 * c.args.place + 512) in
    let is : found_at c.args.ask.now c.args.lengths.now c.args.sweep.now c.args.place c.loop-image.image ≡ c.sighting_in.result =
    ap (λ (n : ℕ). sighting_in c.args.ask.now length (record { sector = n + c.args.place; image = c.loop-image.image }) bytes) (sym c.first.ensures)
    ∙ ap (λ (b : List ℕ). sighting_in c.args.ask.now length (record { sector = c.first.result + c.args.place; image = c.loop-image.image }) b) (sym c.sector-bytes.ensures)
    ∙ sym c.sighting_in.ensures.found in
    let long = long_enough c.args.lengths.now (c.args.sweep.now.first + c.args.sweep.now.count) (c.args.sweep.now.first + c.args.place) (omega arith) c.requires.long in
    elim c.match-sighting_in.branch [
      | in-Some+in_ok-add w ↦ (let t = turn_some c.args.ask.now c.args.lengths.now c.args.sweep.now c.args.place c.loop-image.image (c.args.sweep.now.first + c.args.place) c.args.counted.now c.loop-image.counted c.match-sighting_in.counted w.in-Some.sighting
          refl c.loop-image.invariant.found c.loop-image.invariant.before (is ∙ w.in-Some.is) (w.counted-is ∙ w.in_ok-add.ensures.ok) w.in-Some.ensures.place.0 (w.in-Some.ensures.place.1 ∙ omega arith) (omega arith) c.requires.few long w.in-Some.ensures.sound in
          record { found = t.0; before = t.1 })
      | in_default w ↦ (let t = turn_none c.args.ask.now c.args.lengths.now c.args.sweep.now c.args.place c.loop-image.image (c.args.sweep.now.first + c.args.place) c.args.counted.now c.loop-image.counted
          c.loop-image.invariant.found c.loop-image.invariant.before (is ∙ w.in_default.is) in
          record { found = w.counted-is ∙ t.0; before = rw w.counted-is t.1 })
    ]

pub returns-clause-found : goal.returns-clause-found
returns-clause-found c =
    let all : c.loop-image.image ≡ length c.args.lengths.now = omega arith in
    c.loop-image.invariant.found
    ∙ ap (with_row c.args.ask.now c.args.lengths.now c.args.sweep.now c.args.place c.args.counted.now) all
    ∙ row_all c.args.ask.now c.args.lengths.now c.args.sweep.now c.args.place (length c.args.lengths.now) c.args.counted.now

pub returns-clause-before : goal.returns-clause-before
returns-clause-before c =
    before_up c.args.lengths.now ((c.args.sweep.now.first + c.args.place) * MOST + c.loop-image.image) _ c.loop-image.counted (omega arith) c.loop-image.invariant.before
