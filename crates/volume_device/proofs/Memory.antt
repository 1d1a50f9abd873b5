-- What readings keep, one after the other.
use Rattle.std.proofs.Common.{◌≡◌, ℕ, ◌+◌, ◌%◌, ◌<◌, ◌≤◌, List, refl, ◌∙◌, arith}
use Rattle.outside.proofs.Reading.{reads_join, reads_none, reads_up}
use Rattle.outside.specs.Seen.{Image, Seen}
use Rattle.raid_params.specs.Size.{volume_sectors}
use Rattle.raid_params.specs.declared.types.Geometry.{Geometry}
use Rattle.raid_terms.specs.Address.{LiesAt}
use Rattle.virtual_volume.proofs.Sets.{served_held, served_testable}
use Rattle.volume_device.specs.Kept.{CanKeep, CanRead, HasRead, IsKept}
use Rattle.volume_device.specs.declared.kept.Kept.{Kept}
use Rattle.volume_device.proofs.Chunks.{run_near}

-- nothing happened
pub read_none : (geo : Geometry) (seen : Seen) (memory : Kept) → IsKept seen.attached geo memory.regions memory.first memory.count → HasRead geo 0 seen seen memory memory
read_none geo seen memory kept = record {
  reads = reads_none seen;
  room = record { members = refl; stride = refl };
  kept = kept;
}

-- a reading of some sectors is one of as many or more
pub read_up : {m n : ℕ} {geo : Geometry} {old new : Seen} {before after : Kept} → HasRead geo m old new before after → m ≤ n → HasRead geo n old new before after
read_up r h = record { reads = reads_up _ _ r.reads h; room = r.room; kept = r.kept }

-- one after the other
pub read_join : {m n : ℕ} {geo : Geometry} {old mid new : Seen} {before between after : Kept} →
    HasRead geo m old mid before between → HasRead geo n mid new between after → HasRead geo (m + n) old new before after
read_join one two = record {
  reads = reads_join _ _ _ one.reads two.reads;
  room = record { members = two.room.members ∙ one.room.members; stride = two.room.stride ∙ one.room.stride };
  kept = rw (← one.reads.attached) two.kept;
}

-- and nothing after it
pub read_still : {m : ℕ} {geo : Geometry} {old mid new : Seen} {before between after : Kept} →
    HasRead geo m old mid before between → after ≡ between → new ≡ mid → HasRead geo m old new before after
read_still r same unread = rw same (rw unread r)

-- what can be read can be read again
pub can_again : {geo : Geometry} {end sectors m : ℕ} {old new : Seen} {before after : Kept} →
    HasRead geo m old new before after → CanRead geo end sectors old.attached before → CanRead geo end sectors new.attached after
can_again r can = record {
  set = rw r.reads.attached can.set;
  room = record { many = omega (arith, can.room.many, r.room.members); long = omega (arith, can.room.long, r.room.stride) };
  kept = rw r.reads.attached r.kept;
}

-- with less room
pub can_less : {geo : Geometry} {end sectors less : ℕ} {attached : List Image} {memory : Kept} →
    CanRead geo end sectors attached memory → less ≤ sectors → CanRead geo end less attached memory
can_less can h = record {
  set = can.set;
  room = record { many = can.room.many; long = omega (arith, can.room.long, h) };
  kept = can.kept;
}

-- sectors of the members before the end can be kept, where there is room
pub can_keep : {geo : Geometry} {end sectors : ℕ} {attached : List Image} {memory : Kept} (first count : ℕ) →
    CanRead geo end sectors attached memory → count ≤ sectors → geo.head.offset + (first + count) ≤ end → CanKeep geo first count attached memory
can_keep first count can few before = record {
  set = served_testable _ _ _ can.set;
  held = served_held _ _ _ _ can.set before;
  near = omega (arith, can.set.near, before);
  room = record { many = can.room.many; long = omega (arith, can.room.long, few) };
  kept = can.kept;
}

-- those that hold sectors of one chunk of the volume
pub chunk_kept : {geo : Geometry} {end : ℕ} {attached : List Image} {memory : Kept} (slot sector v n : ℕ) → CanRead geo end geo.head.chunk attached memory →
    LiesAt geo.head slot sector v → v < volume_sectors geo.head end → v % geo.head.chunk + n ≤ geo.head.chunk → CanKeep geo sector n attached memory
chunk_kept slot sector v n can lies below few = can_keep sector n can (omega arith) (run_near _ _ v n _ slot sector can.set lies below few)
