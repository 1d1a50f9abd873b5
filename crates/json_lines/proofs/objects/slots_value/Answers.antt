use Rattle.json_lines.specs.Objects.{slot_data}
use Rattle.json_lines.proofs.NoFloats.{element_more}
use Rattle.json_lines.proofs.objects.slots_value.Goals as goal

pub loop-slot-preserved : goal.loop-slot-preserved
loop-slot-preserved c = element_more slot_data c.args.slots.now c.loop-slot.slot-index _ c.loop-slot.values.items c.push.new.self.items c.slot_value.result c.loop-slot-test.true c.loop-slot.invariant c.slot_value.ensures c.in_ok-push.ensures.items
