use Rattle.std.proofs.Common.{ap, ◌∙◌}
use Rattle.std.specs.List.{flat_map}
use Rattle.plan_jobs.proofs.Listed.{list_fault, list_found, list_short}
use Rattle.plan_jobs.specs.Listing.{found_text}
use Rattle.plan_jobs.proofs.listing.text_over.Goals as goal

pub returns-in-Ok-pages_text : goal.returns-in-Ok-pages_text
returns-in-Ok-pages_text g c names =
    list_found c.args.asked.now names c.args.plan.now (g.I.Images.seen c.args.images.now) (g.I.Images.seen c.pages.new.images) c.in-Ok.found c.in-Ok-pages_text.text c.in-Ok.ensures
    (c.in-Ok-pages_text.ensures ∙ ap (flat_map (found_text c.args.asked.now.form)) c.as_slice.ensures)

pub returns-in-Ok : goal.returns-in-Ok
returns-in-Ok g c names =
    list_short c.args.asked.now names c.args.plan.now (g.I.Images.seen c.args.images.now) (g.I.Images.seen c.pages.new.images) c.in-Ok.found c.in-Ok.ensures

pub returns : goal.returns
returns g c names =
    rw c.stop_of.ensures
    (list_fault c.args.asked.now names c.args.plan.now (g.I.Images.seen c.args.images.now) (g.I.Images.seen c.pages.new.images) c.in-Err.fault c.in-Err.ensures)
