use Rattle.std.proofs.Common.{◌≡◌, ◌∙◌, true, sym, arith, rules}
use Rattle.outside.specs.Attached.{told_all}
use Rattle.outside.specs.Seen.{AreTold}
use Rattle.survey_engine.specs.Telling.{has_copy}
use Rattle.survey_engine.proofs.Descriptors.{copy_told, copy_within, no_copy, no_tables, placed_alike, some_tables}
use Rattle.survey_engine.proofs.copies.tell_by_copy.Goals as goal

pub returns-then-not-has_copy-clause-told : goal.returns-then-not-has_copy-clause-told
returns-then-not-has_copy-clause-told g c = no_copy (told_all (g.I.Images.seen c.args.images.now).attached) c.args.asked c.args.lengths.now c.args.by.now c.args.found.now (search rules)

pub read-requires : goal.read-requires
read-requires g c = copy_within c.args.asked (g.I.Images.seen c.args.images.now).attached c.args.lengths.now c.args.by.now c.requires.lengths c.requires.by (search rules)

pub returns-in_default-clause-told : goal.returns-in_default-clause-told
returns-in_default-clause-told g c =
    let attached = (g.I.Images.seen c.args.images.now).attached in
    let are : AreTold attached c.args.by.now.image c.args.by.now.sector c.read.new.to = search rules in
    let is : has_copy c.args.asked c.args.lengths.now c.args.by.now ≡ true = sym c.has_copy.ensures ∙ c.if-not-has_copy.false in
    no_tables (told_all attached) c.args.asked c.args.lengths.now c.read.new.to c.args.by.now c.args.found.now is
    (copy_told attached c.args.lengths.now c.args.by.now c.read.new.to c.requires.lengths c.requires.by are (omega arith)) (search rules)

pub returns-in-Some-clause-told : goal.returns-in-Some-clause-told
returns-in-Some-clause-told g c =
    let attached = (g.I.Images.seen c.args.images.now).attached in
    let are : AreTold attached c.args.by.now.image c.args.by.now.sector c.read.new.to = search rules in
    let is : has_copy c.args.asked c.args.lengths.now c.args.by.now ≡ true = sym c.has_copy.ensures ∙ c.if-not-has_copy.false in
    some_tables (told_all attached) c.args.asked c.args.lengths.now c.read.new.to c.args.by.now _ c.args.found.now c.place_all.new.found c.place_all.ensures is
    (copy_told attached c.args.lengths.now c.args.by.now c.read.new.to c.requires.lengths c.requires.by are (omega arith)) (search rules)

pub returns-in-Some-clause-alike : goal.returns-in-Some-clause-alike
returns-in-Some-clause-alike g c = rw c.place_all.ensures (placed_alike c.read.new.to _ c.args.found.now)
