use Rattle.std.proofs.Common.{◌++◌, codes, decimal, map}
use Rattle.std.proofs.lemmas.Result.{on_ok_weaker}
use Rattle.value_text.specs.Spelling.{commas, level_name, pattern_name}
use Rattle.plan_text.specs.PlanText.{delays_lines, some_delays, syndromes_line}
use Rattle.plan_text.proofs.Written.{three_some_and_one}
use Rattle.plan_text.proofs.writer.add_arrays.Goals as goal

pub returns : goal.returns
returns c =
    let bounds = c.args.bounds.now in
    on_ok_weaker c.add_list_line-4.result
    (λ last. three_some_and_one c.args.text.now c.add_list_line.new.text c.add_list_line-2.new.text c.add_list_line-3.new.text c.add_delays.new.text c.add_list_line-4.new.text
    (codes "levels " ++ commas (map level_name bounds.levels.items)) (codes "members " ++ commas (map decimal bounds.members.items)) (codes "patterns " ++ commas (map pattern_name bounds.patterns.items))
    (syndromes_line bounds.syndromes.items) (delays_lines (some_delays bounds.delays.items) bounds.delays.items)
    (rw c.deref.ensures.0 at c.in_ok-add_list_line.ensures) (rw c.deref-2.ensures.0 at c.in_ok-add_list_line-2.ensures) (rw c.deref-3.ensures.0 at c.in_ok-add_list_line-3.ensures)
    (rw c.deref-4.ensures.0 at c.in_ok-add_delays.ensures) (rw c.deref-5.ensures.0 at last)) c.add_list_line-4.ensures
