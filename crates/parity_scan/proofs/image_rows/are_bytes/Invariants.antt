use Rattle.std.proofs.Common.{ℕ, ◌≡◌, ◌+◌, ◌*◌, ◌<◌, get_or, None, Some}
use Rattle.member_regions.specs.ImageSums.{room_byte}
use Rattle.parity_scan.proofs.image_rows.are_bytes.Given as goal

abbrev pub invariant-loop-slot : goal.invariant-loop-slot
invariant-loop-slot l = record {
  bytes : (slot image x : ℕ) → slot < l.slot → get_or l.geo.slots.items slot None ≡ Some image → x < 512 → room_byte l.regions (512 * l.place + x) image < 256;
}
