-- Chunks are not empty.
use Rattle.std.proofs.Common.{ℕ, ◌≤◌, IsTrue, arith}
use Rattle.std.proofs.lemmas.Bool.Decides.{nat_tests}
use Rattle.raid_params.specs.Validity.{is_chunk}
use Rattle.near_mirror.specs.Heads.{is_valid_near}
use Rattle.near_mirror.specs.declared.types.NearHead.{NearHead}

chunk_above : (chunk : ℕ) → IsTrue (is_chunk chunk) → 1 ≤ chunk
unfolding is_chunk
chunk_above chunk h = grind (arith, nat_tests)

chunk_short : (chunk : ℕ) → IsTrue (is_chunk chunk) → chunk ≤ 32768
unfolding is_chunk
chunk_short chunk h = grind (arith, nat_tests)

-- the chunk of a valid head is not empty
pub valid_chunk : (head : NearHead) → IsTrue (is_valid_near head) → 1 ≤ head.chunk
valid_chunk head h = grind (arith, nat_tests, chunk_above)

pub short_chunk : (head : NearHead) → IsTrue (is_valid_near head) → head.chunk ≤ 32768
short_chunk head h = grind (arith, nat_tests, chunk_short)
