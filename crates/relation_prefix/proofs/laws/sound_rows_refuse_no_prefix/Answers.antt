use Rattle.relation_prefix.proofs.Sound.{sound_refuses_none}
use Rattle.relation_prefix.proofs.laws.sound_rows_refuse_no_prefix.Goals as goal

pub returns : goal.returns
returns c = sound_refuses_none
