-- What can be read once more, and what was read.
use Rattle.std.proofs.Common.{ℕ, ◌≡◌, ◌*◌, ◌∙◌, true, false, List, length, Result, refl, sym, subst, arith}
use Rattle.std.specs.Result.{is_err}
use Rattle.block_device.specs.Reading.{Answers, Asked, counts_of, is_any_lost}
use Rattle.outside.specs.Seen.{Image, OnlyReads, Seen}
use Rattle.outside.specs.declared.Failed.{Failed}
use Rattle.raid_params.specs.declared.wide.Wide.{Wide}
use Rattle.rescue_map.specs.Damaged.{is_lost, IsMendable, IsReadable}
use Rattle.virtual_volume.proofs.Sets.{served_held, served_testable}
use Rattle.virtual_volume.specs.Served.{IsServed}
use Rattle.rescue_map.specs.Salvaged.{reads_for_all, ReadsUpTo}
use Rattle.rescue_text.specs.declared.section.Section.{Section}
use Rattle.volume_device.specs.Kept.{HasRead}
use Rattle.volume_device.specs.declared.kept.Kept.{Kept}
use Rattle.volume_device.proofs.Counted.{costs}
use Rattle.volume_device.proofs.Memory.{can_again}
use Rattle.damaged_device.specs.Cost.{damaged_cost}
use Rattle.damaged_device.specs.Reading.{CanReadDamaged}

-- a set that breaks no rule can be mended, and its members read
pub mendable_of : (set : Wide) (end : ℕ) (attached : List Image) → IsServed set.geo end attached → IsMendable set end
mendable_of set end attached s = record { shape = served_testable set.geo end attached s; near = s.near }

pub readable_of : (set : Wide) (end : ℕ) (attached : List Image) → IsServed set.geo end attached → IsReadable set end attached
readable_of set end attached s = record { mendable = mendable_of set end attached s; held = served_held set.geo end end attached s (omega arith) }

-- after the memory was used
pub again_kept : (set : Wide) (end m : ℕ) (old new : Seen) (before after : Kept) (row : List ℕ) → CanReadDamaged set end old.attached before row → HasRead set.geo m old new before after → CanReadDamaged set end new.attached after row
again_kept set end m old new before after row c read = record {
  can = can_again read c.can;
  room = c.room;
}

-- after the row was
pub again_row : (set : Wide) (end m : ℕ) (old new : Seen) (memory : Kept) (row other : List ℕ) → CanReadDamaged set end old.attached memory row → OnlyReads old new m → length other ≡ length row → CanReadDamaged set end new.attached memory other
again_row set end m old new memory row other c reads long =
    let long_too : length other ≡ 512 * length set.geo.slots.items = long ∙ c.room in
    subst (λ (l : List Image). CanReadDamaged set end l memory other) (sym reads.attached) (record { can = c.can; room = long_too })

-- nothing is read where a sector is lost
pub answers_lost : (sections : List Section) (set : Wide) (asked : Asked) (seen : Seen) → is_any_lost (is_lost sections set) asked ≡ true → Answers (damaged_cost sections set asked) true (counts_of seen) (counts_of seen)
answers_lost sections set asked seen lost = rw lost (refl, refl)

pub answers_kept : (sections : List Section) (set : Wide) (asked : Asked) (old new : Seen) (result : Result (Unit {0}) Failed) → is_any_lost (is_lost sections set) asked ≡ false →
    ReadsUpTo old new (reads_for_all sections set asked.first asked.count) result → Answers (damaged_cost sections set asked) (is_err result) (counts_of old) (counts_of new)
answers_kept sections set asked old new result kept reads = rw kept (costs (reads_for_all sections set asked.first asked.count) old new result reads.only reads.cause)
