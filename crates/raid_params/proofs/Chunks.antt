-- Chunks are not empty.
use Rattle.std.proofs.Common.{◌≡◌, ℕ, ◌≤◌, IsTrue, None, arith}
use Rattle.std.proofs.lemmas.Bool.Decides.{nat_tests}
use Rattle.raid_params.specs.Validity.{is_chunk, shape_fault}
use Rattle.raid_params.specs.declared.types.Geometry.{Geometry}

chunk_above : (chunk : ℕ) → IsTrue (is_chunk chunk) → 1 ≤ chunk
unfolding is_chunk
chunk_above chunk h = grind (arith, nat_tests)

-- a set whose shape breaks no rule has a chunk that is not empty
pub some_chunk : (geo : Geometry) (images : ℕ) → shape_fault geo images ≡ None → 1 ≤ geo.head.chunk
some_chunk geo images h = grind (arith, nat_tests, chunk_above)
