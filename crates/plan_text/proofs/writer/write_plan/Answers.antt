use Rattle.std.proofs.Common.{◌++◌, ◌∙◌, Bool, List, ap, ap₂}
use Rattle.std.specs.List.{flat_map}
use Rattle.landmark_rules.specs.declared.marks.Group.{Group}
use Rattle.value_text.specs.Spelling.{line}
use Rattle.plan_text.specs.PlanText.{groups_lines, image_lines, says_more, search_lines, some_delays, version_lines}
use Rattle.plan_text.proofs.Written.{whole}
use Rattle.plan_text.proofs.writer.write_plan.Goals as goal

pub returns : goal.returns
returns c =
    let plan = c.args.plan.now in
    whole c.new-text.result c.add_version.new.text c.add_images.new.text c.add_search.new.text c.add_groups.new.text
    (version_lines plan.each (says_more (some_delays plan.bounds.delays.items) plan.groups)) (image_lines plan.lengths.items) (search_lines plan.end plan.bounds plan.limits plan.tests) (groups_lines plan.groups)
    c.new-text.ensures
    (c.in_ok-add_version.ensures ∙ ap₂ (λ (each third : Bool). c.new-text.result ++ flat_map line (version_lines each third)) c.version_of.ensures.each c.version_of.ensures.third)
    (rw c.deref.ensures.0 at c.in_ok-add_images.ensures) c.in_ok-add_search.ensures
    (c.in_ok-add_groups.ensures ∙ ap (λ (groups : List Group). c.add_search.new.text ++ flat_map line (groups_lines groups)) c.as_slice.ensures)
