use Rattle.std.proofs.Common.{◌≡◌, map, take}
use Rattle.serde_json.specs.View.{view}
use Rattle.json_lines.specs.Objects.{base_data}
use Rattle.json_lines.proofs.objects.bases_value.Given as goal

abbrev pub invariant-loop-base : goal.invariant-loop-base
invariant-loop-base l = map view l.values.items ≡ map base_data (take l.base-index l.bases)
