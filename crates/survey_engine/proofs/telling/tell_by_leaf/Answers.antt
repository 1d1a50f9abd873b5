use Rattle.std.proofs.Common.{arith, rules}
use Rattle.outside.specs.Attached.{told_all}
use Rattle.outside.specs.Seen.{AreTold}
use Rattle.survey_engine.proofs.Leaves.{heard_alike, leaf_told, leaf_within, no_leaf, not_whole, whole_leaf}
use Rattle.survey_engine.proofs.telling.tell_by_leaf.Goals as goal

pub returns-then-not-is_leaf-clause-told : goal.returns-then-not-is_leaf-clause-told
returns-then-not-is_leaf-clause-told g c = no_leaf (told_all (g.I.Images.seen c.args.images.now).attached) c.args.asked c.args.lengths.now c.args.by.now c.args.found.now (search rules)

pub read-requires : goal.read-requires
read-requires g c = leaf_within c.args.asked (g.I.Images.seen c.args.images.now).attached c.args.lengths.now c.args.by.now c.requires.lengths c.requires.by (search rules)

pub returns-then-not-is_whole-clause-told : goal.returns-then-not-is_whole-clause-told
returns-then-not-is_whole-clause-told g c =
    let attached = (g.I.Images.seen c.args.images.now).attached in
    let are : AreTold attached c.args.by.now.image c.args.by.now.sector c.read.new.to = search rules in
    not_whole (told_all attached) c.args.asked c.args.lengths.now c.read.new.to c.args.by.now c.args.found.now
    (leaf_told attached c.args.lengths.now c.args.by.now c.read.new.to c.requires.lengths c.requires.by are (omega arith)) (search rules)

pub returns-clause-told : goal.returns-clause-told
returns-clause-told g c =
    let attached = (g.I.Images.seen c.args.images.now).attached in
    let are : AreTold attached c.args.by.now.image c.args.by.now.sector c.read.new.to = search rules in
    whole_leaf (told_all attached) c.args.asked c.args.lengths.now c.read.new.to c.args.by.now c.args.found.now c.hear.new.found c.hear.ensures (search rules)
    (leaf_told attached c.args.lengths.now c.args.by.now c.read.new.to c.requires.lengths c.requires.by are (omega arith)) (search rules)

pub returns-clause-alike : goal.returns-clause-alike
returns-clause-alike g c = rw c.hear.ensures (heard_alike c.read.new.to c.args.by.now.landmark c.args.found.now)
