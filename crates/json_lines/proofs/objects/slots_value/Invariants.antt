use Rattle.std.proofs.Common.{◌≡◌, map, take}
use Rattle.serde_json.specs.View.{view}
use Rattle.json_lines.specs.Objects.{slot_data}
use Rattle.json_lines.proofs.objects.slots_value.Given as goal

abbrev pub invariant-loop-slot : goal.invariant-loop-slot
invariant-loop-slot l = map view l.values.items ≡ map slot_data (take l.slot-index l.slots)
