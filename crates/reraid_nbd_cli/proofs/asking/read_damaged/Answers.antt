use Rattle.std.proofs.Common.{ℕ, List, Ok, Err, subst}
use Rattle.reraid_nbd_cli.specs.Words.{Asks}
use Rattle.reraid_nbd_cli.proofs.asking.read_damaged.Goals as goal

pub returns-in-Ok-clause-asks : goal.returns-in-Ok-clause-asks
returns-in-Ok-clause-asks c words is = subst (λ (w : List (List ℕ)). Asks w (Ok c.in-Ok.command)) is c.in-Ok.ensures.asks

pub returns-in-Err-clause-asks : goal.returns-in-Err-clause-asks
returns-in-Err-clause-asks c words is = (c.in-Err.number, subst (λ (w : List (List ℕ)). Asks w (Err c.in-Err.number)) is c.in-Err.ensures.asks, c.as_typed.ensures)
