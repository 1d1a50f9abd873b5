use Rattle.reraid_rows.proofs.Ready.{still_ready}
use Rattle.reraid_rows.proofs.failing.ready_to_fail.Goals as goal

pub returns : goal.returns
returns c = still_ready _ _ _ _ _ _ _ _ _ c.in_ok-fail.ensures.files c.in_ok-fail.ensures.attached c.in_ok-fail.ensures.images c.in_ok-fail.ensures.plan c.in_ok-fail.ensures.out c.in_ok-fail.ensures.notes c.in_ok-met.ensures
