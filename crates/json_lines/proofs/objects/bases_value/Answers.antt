use Rattle.json_lines.specs.Objects.{base_data}
use Rattle.json_lines.proofs.NoFloats.{element_more}
use Rattle.json_lines.proofs.objects.bases_value.Goals as goal

pub loop-base-preserved : goal.loop-base-preserved
loop-base-preserved c = element_more base_data c.args.bases.now c.loop-base.base-index _ c.loop-base.values.items c.push.new.self.items c.from.result c.loop-base-test.true c.loop-base.invariant c.from.ensures c.in_ok-push.ensures.items
