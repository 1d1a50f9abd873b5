use Rattle.std.proofs.Common.{refl}
use Rattle.serde_json.specs.View.{view}
use Rattle.json_lines.specs.Objects.{next_data}
use Rattle.json_lines.proofs.NoFloats.{same_text}
use Rattle.json_lines.proofs.objects.next_text.Goals as goal

pub returns : goal.returns
returns c =
    same_text (view c.in_ok-value.value) (next_data c.args.next c.args.total) c.to_string.result
    c.to_string.ensures.text c.in_ok-value.ensures refl
