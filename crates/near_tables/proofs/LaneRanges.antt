-- How many lanes there are.
use Rattle.std.proofs.Common.{ℕ, ◌≡◌, ◌+◌, ◌*◌, ◌<◌, ◌≤◌, arith}
use Rattle.std.proofs.lemmas.Nat.{div_below, mul-le}
use Rattle.near_mirror.specs.declared.types.Copying.{Copying}
use Rattle.near_mirror.specs.declared.types.Copying.TheVariants.{Near, Far, Offset}
use Rattle.near_tables.specs.Tables.{lane_of}

-- each copy of a chunk of a group has one
pub lane_within : (copying : Copying) (n copies copy j : ℕ) → copy < copies → j < n → lane_of copying n copies copy j < copies
lane_within Near n copies copy j lt below =
    let most : copies * (j + 1) ≤ copies * n = mul-le copies (j + 1) copies n (omega arith) (omega arith) in
    let wide : copies * (j + 1) ≡ copies * j + copies = grind arith in
    div_below (copies * j + copy) n copies (omega arith) (omega arith)
lane_within Far n copies copy j lt below = lt
lane_within Offset n copies copy j lt below = lt
