-- How far the reading is ahead of what was put.
use Rattle.std.proofs.Common.{◌≡◌, ℕ, ◌+◌, ◌*◌, ◌≤◌, List, Option, None, Some, IfSome, arith}
use Rattle.std.proofs.lemmas.Nat.{mul-le}
use Rattle.std.specs.Io.KnownBytes.{Appends}
use Rattle.member_regions.proofs.IfTold.{if_any, if_both}
use Rattle.outside.proofs.Reading.{reads_none, reads_up}
use Rattle.outside.specs.Seen.{OnlyReads, Seen}
use Rattle.outside.specs.Streams.{AppendsFront}
use Rattle.raid_params.specs.declared.types.Geometry.{Geometry}
use Rattle.member_rebuild.specs.Sectors.{IsAheadBy, sectors_of}
use Rattle.member_rebuild.proofs.Parts.{sectors_long}
use Rattle.virtual_volume.proofs.Fronts.{front_none, gained_long}

-- as many blocks more as sectors were gained, and of one more block of sectors
ahead_by : (blocks most from to first count before after : ℕ) → count ≤ most → to ≤ from + blocks * first + blocks * count → before + 512 * first ≤ after →
    512 * to + blocks * before ≤ 512 * (from + blocks * most) + blocks * after
ahead_by blocks most from to first count before after few read long =
    let gained : blocks * (before + 512 * first) ≤ blocks * after = mul-le blocks (before + 512 * first) blocks after (omega arith) long in
    let parts : blocks * (before + 512 * first) ≡ blocks * before + 512 * (blocks * first) = grind arith in
    let block : blocks * count ≤ blocks * most = mul-le blocks count blocks most (omega arith) few in
    omega arith

pub ahead_at_error : (told : Option (List (List ℕ))) (old mid new : Seen) (geo : Geometry) (slot blocks most first count : ℕ) (a b c : Option (List ℕ)) → count ≤ most →
    OnlyReads old mid (blocks * first) → OnlyReads mid new (blocks * count) →
    IfSome told (λ bytes. Appends a b (sectors_of bytes geo slot 0 first)) → IfSome told (λ bytes. AppendsFront b c (sectors_of bytes geo slot first count)) →
    IfSome told (λ bytes. IsAheadBy blocks most old.sectors_read new.sectors_read a c)
ahead_at_error told old mid new geo slot blocks most first count a b c few reads more put front =
    if_both told (λ bytes. Appends a b (sectors_of bytes geo slot 0 first)) (λ bytes. AppendsFront b c (sectors_of bytes geo slot first count)) (λ bytes. IsAheadBy blocks most old.sectors_read new.sectors_read a c)
    (λ bytes p q.
    gained_long (λ before after. 512 * new.sectors_read + blocks * before ≤ 512 * (old.sectors_read + blocks * most) + blocks * after) a b c (sectors_of bytes geo slot 0 first) (sectors_of bytes geo slot first count) p q
    (λ before after long.
    ahead_by blocks most old.sectors_read new.sectors_read first count before after few (omega (arith, reads.sectors_read, more.sectors_read)) (omega (arith, long, sectors_long bytes geo slot 0 first)))) put front

pub ahead_at_end : (told : Option (List (List ℕ))) (old new : Seen) (geo : Geometry) (slot blocks most first : ℕ) (a b : Option (List ℕ)) →
    OnlyReads old new (blocks * first) → IfSome told (λ bytes. Appends a b (sectors_of bytes geo slot 0 first)) →
    IfSome told (λ bytes. IsAheadBy blocks most old.sectors_read new.sectors_read a b)
ahead_at_end told old new geo slot blocks most first a b reads put =
    ahead_at_error told old new new geo slot blocks most first 0 a b b (omega arith) reads (reads_up new new (reads_none new) (omega arith)) put
    (if_any told (λ bytes. AppendsFront b b (sectors_of bytes geo slot first 0)) (λ bytes. front_none b (sectors_of bytes geo slot first 0)))

-- nothing was read, and nothing was put
pub ahead_none : (told : Option (List (List ℕ))) (blocks most from : ℕ) (a : Option (List ℕ)) → IfSome told (λ bytes. IsAheadBy blocks most from from a a)
ahead_none None blocks most from a = tt
ahead_none (Some bytes) blocks most from None = tt
ahead_none (Some bytes) blocks most from (Some xs) = omega arith
