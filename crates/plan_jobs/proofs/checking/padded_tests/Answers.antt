use Rattle.std.proofs.Common.{◌≡◌, ◌∙◌, List, ℕ, subst, sym, ap, rules, length}
use Rattle.outside.specs.Attached.{told_all}
use Rattle.image_padding.specs.Padded.{padded_images, seen_padded}
use Rattle.padded_images.specs.Plans.{padded_plan}
use Rattle.wide_product.specs.Sets.{padded_bytes}
use Rattle.plan_jobs.specs.Checking.{tested_reads, tests_text}
use Rattle.plan_jobs.specs.Testing.{Tests}
use Rattle.plan_jobs.proofs.Bases.{short_lengths}
use Rattle.plan_jobs.proofs.Told.{tests_based}
use Rattle.plan_jobs.proofs.checking.padded_tests.Goals as goal

pub pad_plan-requires-clause-short : goal.pad_plan-requires-clause-short
pad_plan-requires-clause-short g c =
    short_lengths (g.I.Images.seen c.args.images.now).attached c.args.plan.now.lengths.items c.requires.set.agree (c.requires.set.padded.short c.requires.some)

pub returns : goal.returns
returns g c =
    let set = c.args.set.now in
    let plan = c.args.plan.now in
    let rank = c.args.rank in
    let moved = c.in_ok-plan.plan in
    let answer = c.tests_over.result in
    let old = g.I.Images.seen c.new-padded.result.images.now in
    let new = g.I.Images.seen c.tests_over.new.images.images.now in
    let reference = c.new-padded.result.images.ghost_name in
    let other = c.tests_over.new.images.images.ghost_name in
    let used = c.new-padded.result.bases.items in
    let others = c.tests_over.new.images.bases.items in
    let e = c.tests_over.ensures in
    let padded : Tests (tested_reads set.geo (padded_images used old.attached) moved) (λ bytes. tests_text rank bytes moved set.geo) (told_all (padded_images used old.attached)) (seen_padded reference used old) (seen_padded other others new) answer
    = record { text = e.text; reads = e.reads; quiet = e.quiet; ends = e.ends } in
    let same : used ≡ set.bases.items = c.new-padded.ensures.bases ∙ c.deref-2.ensures.0 in
    let is : moved ≡ padded_plan set.bases.items plan = c.in_ok-plan.ensures.padded ∙ ap (λ (bs : List ℕ). padded_plan bs plan) c.deref.ensures.0 in
    let each : length set.bases.items ≡ length old.attached = c.requires.set.padded.each c.requires.some ∙ ap (λ v. length (g.I.Images.seen v).attached) (sym c.new-padded.ensures.within) in
    let based = tests_based reference other set.bases.items used others rank set.geo plan moved old new answer same is each padded in
    let kept : other ≡ reference = based.0 in
    let done : Tests (tested_reads set.geo (g.I.Images.seen c.args.images.now).attached plan) (λ bytes. tests_text rank (padded_bytes set.bases.items bytes) (padded_plan set.bases.items plan) set.geo) (told_all (g.I.Images.seen c.args.images.now).attached) (g.I.Images.seen c.args.images.now) new answer
    = subst (λ v. Tests (tested_reads set.geo (g.I.Images.seen v).attached plan) (λ bytes. tests_text rank (padded_bytes set.bases.items bytes) (padded_plan set.bases.items plan) set.geo) (told_all (g.I.Images.seen v).attached) (g.I.Images.seen v) new answer) c.new-padded.ensures.within based.1 in
    search rules
