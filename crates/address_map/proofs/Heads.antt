-- What a valid head says of its numbers.
use Rattle.std.proofs.Common.{◌≡◌, ℕ, ◌+◌, ◌-◌, ◌*◌, ◌%◌, ◌/◌, ◌^◌, ◌<◌, ◌≤◌, arith, ap}
use Rattle.std.proofs.lemmas.Bool.Decides.{nat_tests}
use Rattle.std.proofs.lemmas.Nat.{mul-le, div-add-mod'}
use Rattle.std.specs.Prelude.{IsTrue}
use Rattle.raid_params.specs.declared.types.Head.{Head}
use Rattle.raid_params.specs.declared.types.Level.{Level}
use Rattle.raid_params.specs.Validity.{fewest, is_chunk, is_valid_head}
use Rattle.raid_params.specs.Size.{redundancy, data_blocks}
use Rattle.raid_layouts.proofs.Levels.{enough, at_most}

pub chunk_above : (chunk : ℕ) → IsTrue (is_chunk chunk) → 0 < chunk
unfolding is_chunk
chunk_above chunk h = grind (arith, nat_tests)

pub some_chunk : (head : Head) → IsTrue (is_valid_head head) → 0 < head.chunk
some_chunk head h = grind (arith, nat_tests, chunk_above)

chunk_short : (chunk : ℕ) → IsTrue (is_chunk chunk) → chunk ≤ 32768
unfolding is_chunk
chunk_short chunk h = grind (arith, nat_tests)

pub short_chunk : (head : Head) → IsTrue (is_valid_head head) → head.chunk ≤ 32768
short_chunk head h = grind (arith, nat_tests, chunk_short)

some_left : (level : Level) (n : ℕ) → fewest level ≤ n → 0 < n - redundancy level
some_left level n h = omega arith

pub some_data : (head : Head) → IsTrue (is_valid_head head) → 0 < data_blocks head
some_data head h = some_left head.level head.members (enough head h)

pub few_data : (head : Head) → IsTrue (is_valid_head head) → data_blocks head ≤ 24
few_data head h = let x = at_most head h in omega arith

-- whole chunks do not reach past what they are cut from
pub whole_below : (x n r : ℕ) → r ≡ x / n → r * n ≤ x
whole_below x n r e =
    let split : x / n * n + x % n ≡ x = div-add-mod' x n in
    let same : r * n ≡ x / n * n = ap (λ (t : ℕ). t * n) e in
    omega arith

-- a volume of short members is numbered in 64 bits
pub volume_fits : (area d : ℕ) → area < 2 ^ 55 → d ≤ 24 → area * d < 2 ^ 64
volume_fits area d h k =
    let most : area * d ≤ 2 ^ 55 * 24 = mul-le area d (2 ^ 55) 24 (omega arith) k in
    omega arith
