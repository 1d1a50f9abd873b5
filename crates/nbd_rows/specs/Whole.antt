-- The law of a device in memory, and what it stands on.
use Rattle.std.proofs.Common.{ℕ, ◌≡◌, ◌*◌, ◌/◌, List, [], None, false, length, arith}
use Rattle.std.proofs.lemmas.List.{length-take}
use Rattle.block_device.specs.Content.{Fixed}
use Rattle.outside.specs.Seen.{whole_sectors}

-- whole sectors have 512 bytes each
pub whole_length : (bytes : List ℕ) → length (whole_sectors bytes) ≡ 512 * (length bytes / 512)
whole_length bytes = omega (arith, length-take (512 * (length bytes / 512)) bytes)

-- no images stand below it
abbrev pub nothing_below : Fixed
nothing_below = record { reference = 0; world = record { may_attach = λ name. false; told = λ name. None; fixed = [] }; attached = [] }
