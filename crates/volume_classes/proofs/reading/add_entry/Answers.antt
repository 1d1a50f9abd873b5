use Rattle.volume_classes.proofs.ListSteps.{added_set}
use Rattle.volume_classes.proofs.reading.add_entry.Goals as goal

pub returns-in-Some-Set : goal.returns-in-Some-Set
returns-in-Some-Set c =
    let told = rw c.in-Some-Set.field-0-is at c.in-Some-Set.ensures in
    added_set c.args.images c.args.end c.args.number c.args.line.now c.in-Some-Set.set c.args.sets.now c.add_set.new.sets told.0 c.add_set.result told.1 told.2 told.3 c.add_set.ensures
