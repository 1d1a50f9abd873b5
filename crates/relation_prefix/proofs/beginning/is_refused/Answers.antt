use Rattle.relation_prefix.proofs.beginning.is_refused.Goals as goal

pub returns-in-Some : goal.returns-in-Some
returns-in-Some c e rows slots are = c.are_many.ensures e rows slots (rw c.in-Some.is at are)
