use Rattle.pq_parity.proofs.Pairs.{finds_data}
use Rattle.pq_parity.proofs.weights.weights_of_data.Goals as goal

pub returns-in-None : goal.returns-in-None
returns-in-None c = rw c.in-None.is (finds_data c.args.k)
