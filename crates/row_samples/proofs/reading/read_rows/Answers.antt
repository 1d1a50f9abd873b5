use Rattle.row_samples.proofs.Few.{below_chosen, few_chosen}
use Rattle.row_samples.specs.Rows.{most_kept}
use Rattle.row_samples.proofs.reading.read_rows.Goals as goal

pub returns-clause-few : goal.returns-clause-few
returns-clause-few g c =
    few_chosen (most_kept c.args.scope.now.limits.badrows) c.fill.new.sampler c.finish.result c.fill.ensures.telling_few c.fill.ensures.others_few c.finish.ensures

pub returns-clause-below : goal.returns-clause-below
returns-clause-below g c = below_chosen c.args.rows c.fill.new.sampler c.finish.result c.fill.ensures.below c.finish.ensures
