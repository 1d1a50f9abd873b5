use Rattle.serde_json.specs.View.{view}
use Rattle.json_lines.specs.Objects.{set_data}
use Rattle.json_lines.proofs.NoFloats.{same_text, set_no_float}
use Rattle.json_lines.proofs.objects.set_text.Goals as goal

pub returns : goal.returns
returns c =
    same_text (view c.in_ok-value.value) (set_data c.args.rank c.args.head.now c.args.bases.now c.args.slots.now) c.to_string.result
    c.to_string.ensures.text c.in_ok-value.ensures (set_no_float c.args.rank c.args.head.now c.args.bases.now c.args.slots.now)
