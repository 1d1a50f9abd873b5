-- Sectors of the volume, part by part.
use Rattle.std.proofs.Common.{◌≡◌, ℕ, ◌+◌, ◌*◌, ◌≤◌, List, length, Option, IfSome, arith}
use Rattle.std.specs.Io.KnownBytes.{Appends}
use Rattle.outside.proofs.Reading.{reads_none}
use Rattle.outside.specs.Seen.{OnlyReads, Seen}
use Rattle.outside.specs.Streams.{AppendsFront}
use Rattle.near_mirror.specs.Volume.{home_copy}
use Rattle.near_mirror.specs.declared.types.NearSet.{NearSet}
use Rattle.virtual_volume.specs.Gained.{IsAhead}
use Rattle.member_regions.proofs.IfTold.{if_any, if_both}
use Rattle.virtual_volume.proofs.Fronts.{front_none, gained_long}
use Rattle.virtual_volume.proofs.Ranges.{flat_long}
use Rattle.near_volume.specs.Sectors.{near_sector, sectors_of}
use Rattle.near_volume.proofs.Runs.{copy_long}

-- the bytes of n sectors
sectors_long : (images : List (List ℕ)) (set : NearSet) (end first n : ℕ) → length (sectors_of images set end first n) ≡ 512 * n
unfolding sectors_of
sectors_long images set end first n = omega (arith, flat_long (near_sector images set end) 512 first n (λ v. copy_long images set end v (home_copy set v)))

-- the reading is ahead of what was put by no more than was tried last
pub ahead_at_error : (told : Option (List (List ℕ))) (old mid new : Seen) (set : NearSet) (end most first count : ℕ) (a b c : Option (List ℕ)) → count ≤ most →
    OnlyReads old mid first → OnlyReads mid new count →
    IfSome told (λ bytes. Appends a b (sectors_of bytes set end 0 first)) → IfSome told (λ bytes. AppendsFront b c (sectors_of bytes set end first count)) →
    IfSome told (λ bytes. IsAhead most old.sectors_read new.sectors_read a c)
ahead_at_error told old mid new set end most first count a b c few reads more put front =
    if_both told (λ bytes. Appends a b (sectors_of bytes set end 0 first)) (λ bytes. AppendsFront b c (sectors_of bytes set end first count)) (λ bytes. IsAhead most old.sectors_read new.sectors_read a c)
    (λ bytes p q.
    gained_long (λ before after. 512 * new.sectors_read + before ≤ 512 * (old.sectors_read + most) + after) a b c (sectors_of bytes set end 0 first) (sectors_of bytes set end first count) p q
    (λ before after long. omega (arith, long, sectors_long bytes set end 0 first, reads.sectors_read, more.sectors_read))) put front

pub ahead_at_end : (told : Option (List (List ℕ))) (old new : Seen) (set : NearSet) (end most first : ℕ) (a b : Option (List ℕ)) →
    OnlyReads old new first → IfSome told (λ bytes. Appends a b (sectors_of bytes set end 0 first)) → IfSome told (λ bytes. IsAhead most old.sectors_read new.sectors_read a b)
ahead_at_end told old new set end most first a b reads put =
    ahead_at_error told old new new set end most first 0 a b b (omega arith) reads (reads_none new) put
    (if_any told (λ bytes. AppendsFront b b (sectors_of bytes set end first 0)) (λ bytes. front_none b (sectors_of bytes set end first 0)))
