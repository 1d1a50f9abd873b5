use Rattle.std.proofs.Common.{ℕ, ◌≡◌, ◌/◌, ap, arith}
use Rattle.near_volume.specs.Columns.{stripe}
use Rattle.near_volume.proofs.FarRows.{few_rows}
use Rattle.near_volume.proofs.columns.rows_at.Goals as goal

pub returns-in-Far-clause-few : goal.returns-in-Far-clause-few
returns-in-Far-clause-few c =
    let same : c.args.left / c.stripe.result ≡ c.args.left / stripe c.args.head.now = ap (λ (x : ℕ). c.args.left / x) c.stripe.ensures in
    few_rows c.args.left (stripe c.args.head.now) _ (omega arith)
