use Rattle.std.proofs.Common.{◌≡◌, ◌∙◌, IfSome, map, rules}
use Rattle.outside.specs.Attached.{told_all}
use Rattle.survey_engine.specs.Telling.{told_by_copy}
use Rattle.survey_engine.proofs.Told.{both_read, leaf_alone, told_twice}
use Rattle.survey_engine.proofs.telling.tell_by.Goals as goal

pub returns-clause-told : goal.returns-clause-told
returns-clause-told g c =
    let attached = (g.I.Images.seen c.args.images.now).attached in
    let second : IfSome (told_all (g.I.Images.seen c.tell_by_leaf.new.images).attached) (λ bytes. c.tell_by_copy.new.found ≡ map (λ s. told_by_copy c.args.asked.now.extinode c.args.lengths.now bytes s c.args.by.now) c.tell_by_leaf.new.found) = search rules in
    told_twice (told_all attached) c.args.asked.now c.args.lengths.now c.args.by.now c.args.found.now c.tell_by_leaf.new.found c.tell_by_copy.new.found (search rules) (rw (← c.tell_by_leaf.ensures.reads.attached) second)

pub returns-clause-alike : goal.returns-clause-alike
returns-clause-alike g c = c.tell_by_copy.ensures.alike ∙ c.tell_by_leaf.ensures.alike

pub returns-clause-reads : goal.returns-clause-reads
returns-clause-reads g c =
    both_read (g.I.Images.seen c.args.images.now) (g.I.Images.seen c.tell_by_leaf.new.images) (g.I.Images.seen c.tell_by_copy.new.images) c.args.asked.now c.args.lengths.now c.args.by.now c.tell_by_leaf.ensures.reads c.tell_by_copy.ensures.reads

pub returns-in_err-tell_by_leaf-clause-reads : goal.returns-in_err-tell_by_leaf-clause-reads
returns-in_err-tell_by_leaf-clause-reads g c =
    leaf_alone (g.I.Images.seen c.args.images.now) (g.I.Images.seen c.tell_by_leaf.new.images) c.args.asked.now c.args.lengths.now c.args.by.now c.tell_by_leaf.ensures.reads

pub returns-in_err-tell_by_copy-clause-reads : goal.returns-in_err-tell_by_copy-clause-reads
returns-in_err-tell_by_copy-clause-reads g c =
    both_read (g.I.Images.seen c.args.images.now) (g.I.Images.seen c.tell_by_leaf.new.images) (g.I.Images.seen c.tell_by_copy.new.images) c.args.asked.now c.args.lengths.now c.args.by.now c.tell_by_leaf.ensures.reads c.tell_by_copy.ensures.reads

pub returns-in_err-tell_by_copy-clause-alike : goal.returns-in_err-tell_by_copy-clause-alike
returns-in_err-tell_by_copy-clause-alike g c = c.tell_by_copy.ensures.alike ∙ c.tell_by_leaf.ensures.alike
