use Rattle.std.proofs.Common.{◌<◌, ◌++◌, ◌∙◌, List, ℕ, ap, arith, subst, sym}
use Rattle.raid_params.proofs.Ruled.{ruled_shape}
use Rattle.raid_layouts.proofs.Shapes.{shaped_head}
use Rattle.volume_classes.specs.Coefficients.{turn_coefficients}
use Rattle.volume_classes.proofs.TableRows.{first_fits, flat_more}
use Rattle.volume_classes.proofs.tables.table_of.Goals as goal

pub add_row-requires-clause-shape : goal.add_row-requires-clause-shape
add_row-requires-clause-shape c = ruled_shape c.args.geo.now c.args.images c.args.end c.requires

pub own_turns-turn-end-requires : goal.own_turns-turn-end-requires
own_turns-turn-end-requires c = shaped_head c.args.geo.now c.args.images (ruled_shape c.args.geo.now c.args.images c.args.end c.requires)

pub overflow_mul-turn : goal.overflow_mul-turn
overflow_mul-turn c =
    let below : c.loop-turn.turn < c.own_turns-turn-end.result = omega arith in
    let valid = shaped_head c.args.geo.now c.args.images (ruled_shape c.args.geo.now c.args.images c.args.end c.requires) in
    let most = first_fits c.args.geo.now.head c.args.end c.loop-turn.turn valid (subst (λ (n : ℕ). c.loop-turn.turn < n) c.own_turns-turn-end.ensures below) in
    omega arith

pub loop-turn-preserved : goal.loop-turn-preserved
loop-turn-preserved c =
    c.in_ok-add_row.ensures
    ∙ ap (λ (bytes : List ℕ). bytes ++ turn_coefficients c.args.geo.now c.args.images c.loop-turn.turn) c.loop-turn.invariant
    ∙ sym (flat_more (turn_coefficients c.args.geo.now c.args.images) 0 c.loop-turn.turn c.loop-turn.turn (omega arith))
