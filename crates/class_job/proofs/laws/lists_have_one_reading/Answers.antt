use Rattle.class_job.proofs.OneReading.{one_reading}
use Rattle.class_job.proofs.laws.lists_have_one_reading.Goals as goal

pub returns : goal.returns
returns c images end text one other a b = one_reading images end text one other a b
