use Rattle.std.proofs.Common.{◌≡◌, ◌<◌, ◌≤◌, ◌∙◌, List, length, arith, ap, rules, get_or, get_or-set_other, get_or-set_same, below_more, false}
use Rattle.raid_layouts.proofs.Counts.{cells_length}
use Rattle.raid_layouts.proofs.Levels.{at_most}
use Rattle.raid_params.specs.declared.types.Cell.{Cell}
use Rattle.raid_params.specs.declared.types.Head.{Head}
use Rattle.raid_params.specs.declared.types.Part.TheVariants.{Block}
use Rattle.raid_terms.specs.Cells.{part_of}
use Rattle.relation_prefix.specs.Equations.{weight_in_p, weight_in_q}
use Rattle.relation_prefix.proofs.Left.{part_at}
use Rattle.relation_prefix.proofs.weights.RowWeights.of.Goals as goal

pub loop-slot-preserved : goal.loop-slot-preserved
loop-slot-preserved c =
    let geo = c.empty_set-geo.result in
    let slot = c.loop-slot.slot in
    let d : Cell = record { part = Block 0; missing = false } in
    let long : length c.row_cells-cells.result.items ≡ length geo.slots.items = ap length c.row_cells-cells.ensures ∙ cells_length geo.head c.args.row 0 geo.slots.items in
    let most = at_most c.args.head.now c.requires in
    let inside : slot < length geo.slots.items = omega (arith, c.loop-slot-test.true, c.len-slot-end.ensures.value) in
    let p_in : slot < length c.loop-slot.weights.p = omega (arith, c.loop-slot.invariant.p_long, c.empty_set-geo.ensures.slots) in
    let q_in : slot < length c.loop-slot.weights.q = omega (arith, c.loop-slot.invariant.q_long, c.empty_set-geo.ensures.slots) in
    let part : (cells : List Cell) → cells ≡ c.row_cells-cells.result.items → (get_or cells slot d).part ≡ part_of c.args.head.now c.args.row slot
    = λ cells same. ap (λ (l : List Cell). (get_or l slot d).part) (same ∙ c.row_cells-cells.ensures) ∙ part_at geo.head c.args.row geo.slots.items slot d inside
    ∙ ap (λ (h : Head). part_of h c.args.row slot) c.empty_set-geo.ensures.head in
    record {
      p_long = search rules;
      q_long = search rules;
      p = below_more _ _
          (λ k h. get_or-set_other c.loop-slot.weights.p slot k c.p_weight.result 0 (omega arith) ∙ c.loop-slot.invariant.p k h)
          (get_or-set_same c.loop-slot.weights.p slot c.p_weight.result 0 p_in ∙ c.p_weight.ensures ∙ ap weight_in_p (part c.deref.result.now c.deref.ensures.0));
      q = below_more _ _
          (λ k h. get_or-set_other c.loop-slot.weights.q slot k c.q_weight.result 0 (omega arith) ∙ c.loop-slot.invariant.q k h)
          (get_or-set_same c.loop-slot.weights.q slot c.q_weight.result 0 q_in ∙ c.q_weight.ensures ∙ ap weight_in_q (part c.deref-in-loop-slot.result.now c.deref-in-loop-slot.ensures.0));
    }

pub returns : goal.returns
returns c =
    let geo = c.empty_set-geo.result in
    let long : length c.row_cells-cells.result.items ≡ length geo.slots.items = ap length c.row_cells-cells.ensures ∙ cells_length geo.head c.args.row 0 geo.slots.items in
    let end : c.args.head.now.members ≤ c.loop-slot.slot = omega (arith, c.loop-slot-test.false, c.len-slot-end.ensures.value, c.empty_set-geo.ensures.slots) in
    record { p = λ slot lt. c.loop-slot.invariant.p slot (omega arith); q = λ slot lt. c.loop-slot.invariant.q slot (omega arith) }
