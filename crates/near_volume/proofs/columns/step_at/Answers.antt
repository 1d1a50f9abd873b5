use Rattle.std.proofs.Common.{◌*◌, ◌≤◌, arith, inl, inr}
use Rattle.std.proofs.lemmas.Nat.{mod_below, mul-le}
use Rattle.near_mirror.proofs.Chunks.{valid_chunk}
use Rattle.near_volume.proofs.FarRows.{are_rows, some_stripe}
use Rattle.near_volume.proofs.columns.step_at.Goals as goal

pub overflow_sub-head : goal.overflow_sub-head
overflow_sub-head c = let low = mod_below c.args.first c.args.head.now.chunk (valid_chunk c.args.head.now c.requires.head) in omega arith

pub returns-then-rows-gt1-clause-some : goal.returns-then-rows-gt1-clause-some
returns-then-rows-gt1-clause-some c =
    let some = some_stripe c.args.head.now c.requires.head in
    let is = c.stripe.ensures in
    let times : 1 * 1 ≤ c.rows_at-rows.result * c.stripe.result = mul-le 1 1 c.rows_at-rows.result c.stripe.result (omega arith) (omega arith) in
    omega arith

pub returns-then-rows-gt1-clause-step : goal.returns-then-rows-gt1-clause-step
returns-then-rows-gt1-clause-step c =
    rw c.stripe.ensures
    (inr (are_rows c.args.head.now 64 c.args.first c.rows_at-rows.result c.requires.head (c.rows_at-rows.ensures.far (omega arith)) (c.rows_at-rows.ensures.begins (omega arith)) c.rows_at-rows.ensures.fits))

pub returns-else-rows-gt1-clause-some : goal.returns-else-rows-gt1-clause-some
returns-else-rows-gt1-clause-some c = let low = mod_below c.args.first c.args.head.now.chunk (valid_chunk c.args.head.now c.requires.head) in omega arith

pub returns-else-rows-gt1-clause-step : goal.returns-else-rows-gt1-clause-step
returns-else-rows-gt1-clause-step c = inl (let low = mod_below c.args.first c.args.head.now.chunk (valid_chunk c.args.head.now c.requires.head) in omega arith)
