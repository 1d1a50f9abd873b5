use Rattle.std.proofs.Common.{◌++◌, codes, decimal}
use Rattle.std.proofs.lemmas.Result.{on_ok_weaker}
use Rattle.plan_text.specs.PlanText.{arrays_lines, sizes_lines, counts_lines}
use Rattle.plan_text.proofs.Written.{one_and_three}
use Rattle.plan_text.proofs.writer.add_search.Goals as goal

pub returns : goal.returns
returns c =
    let plan = c.args.plan.now in
    on_ok_weaker c.add_counts.result (λ last. one_and_three c.args.text.now c.add_number_line.new.text c.add_arrays.new.text c.add_sizes.new.text c.add_counts.new.text (codes "end " ++ decimal plan.end) (arrays_lines plan.bounds) (sizes_lines plan.bounds plan.tests) (counts_lines plan.bounds plan.limits plan.tests)
    c.in_ok-add_number_line.ensures c.in_ok-add_arrays.ensures c.in_ok-add_sizes.ensures last) c.add_counts.ensures
