-- How far the reading is ahead of what was put.
use Rattle.std.proofs.Common.{ℕ, ◌≡◌, ◌+◌, ◌-◌, ◌*◌, ◌/◌, ◌≤◌, min, List, [], length, Option, None, Some, IfSome, Result, Ok, Err, refl, ap, arith}
use Rattle.std.specs.Io.KnownBytes.{Appends}
use Rattle.std.specs.Result.{IsErrOf}
use Rattle.member_regions.proofs.IfTold.{if_any}
use Rattle.outside.proofs.Reading.{reads_none, reads_up}
use Rattle.member_regions.specs.declared.regions.TheConstants.{BLOCK}
use Rattle.outside.specs.Seen.{OnlyReads, Seen}
use Rattle.outside.specs.Streams.{AppendsFront}
use Rattle.raid_params.specs.declared.wide.Wide.{Wide}
use Rattle.rescue_map.specs.Salvaged.{reads_for_all, salvaged_sectors, IsReadAhead, Salvages}
use Rattle.rescue_map.proofs.Blocks.{reads_parts, sectors_long}
use Rattle.rescue_text.specs.declared.section.Section.{Section}
use Rattle.virtual_volume.proofs.Fronts.{front_none, gained_long}
use Rattle.virtual_volume.specs.declared.volume.VolumeFault.{VolumeFault}
use Rattle.virtual_volume.specs.declared.volume.VolumeFault.TheVariants.{ReadFault, WriteFault, Memory}

reads_grow : (sections : List Section) (set : Wide) (n m : ℕ) → n ≤ m → reads_for_all sections set 0 n ≤ reads_for_all sections set 0 m
reads_grow sections set n m le = omega (arith, reads_parts sections set 0 n (m - n) m n (omega arith) (omega arith))

-- a sink that gained so many sectors, and a front of more
gained : (sections : List Section) (set : Wide) (sectors first count from to : ℕ) (a b c : Option (List ℕ)) (front after : List ℕ) → length front ≡ 512 * first → first + count ≤ sectors → count ≤ BLOCK →
    to ≤ from + reads_for_all sections set 0 (first + count) → Appends a b front → AppendsFront b c after → IsReadAhead sections set sectors from to a c
gained sections set sectors first count from to a b c front after long within few read p q =
    gained_long (λ before more. to ≤ from + reads_for_all sections set 0 (min sectors ((more - before) / 512 + BLOCK))) a b c front after p q
    (λ before more grown.
    let all = reads_grow sections set (first + count) (min sectors ((more - before) / 512 + BLOCK)) (omega arith) in
    omega arith)

pub ahead_at_error : (told : Option (List (List ℕ))) (sections : List Section) (set : Wide) (old mid new : Seen) (sectors first count n : ℕ) (a b c : Option (List ℕ)) → n ≡ count → first + count ≤ sectors → count ≤ BLOCK →
    OnlyReads old mid (reads_for_all sections set 0 first) → OnlyReads mid new (reads_for_all sections set first n) →
    IfSome told (λ bytes. Appends a b (salvaged_sectors bytes sections set 0 first)) → IfSome told (λ bytes. AppendsFront b c (salvaged_sectors bytes sections set first n)) →
    IfSome told (λ bytes. IsReadAhead sections set sectors old.sectors_read new.sectors_read a c)
ahead_at_error None sections set old mid new sectors first count n a b c same within few reads block p q = tt
ahead_at_error (Some bytes) sections set old mid new sectors first count n a b c same within few reads block p q =
    let all = reads_parts sections set 0 first n (first + count) first (omega arith) (omega arith) in
    gained sections set sectors first count old.sectors_read new.sectors_read a b c (salvaged_sectors bytes sections set 0 first) (salvaged_sectors bytes sections set first n)
    (sectors_long bytes sections set 0 first) within few (omega (arith, all, reads.sectors_read, block.sectors_read)) p q

pub ahead_at_end : (told : Option (List (List ℕ))) (sections : List Section) (set : Wide) (old new : Seen) (sectors first : ℕ) (a b : Option (List ℕ)) → first ≤ sectors →
    OnlyReads old new (reads_for_all sections set 0 first) → IfSome told (λ bytes. Appends a b (salvaged_sectors bytes sections set 0 first)) →
    IfSome told (λ bytes. IsReadAhead sections set sectors old.sectors_read new.sectors_read a b)
ahead_at_end None sections set old new sectors first a b within reads p = tt
ahead_at_end (Some bytes) sections set old new sectors first a b within reads p =
    let none : first + 0 ≡ first = omega arith in
    let same : reads_for_all sections set 0 (first + 0) ≡ reads_for_all sections set 0 first = ap (λ (k : ℕ). reads_for_all sections set 0 k) none in
    gained sections set sectors first 0 old.sectors_read new.sectors_read a b b (salvaged_sectors bytes sections set 0 first) []
    (sectors_long bytes sections set 0 first) (omega arith) (omega arith) (omega (arith, same, reads.sectors_read)) p (front_none b [])

-- nothing was read, and nothing was put
pub ahead_none : (told : Option (List (List ℕ))) (sections : List Section) (set : Wide) (sectors from : ℕ) (a : Option (List ℕ)) → IfSome told (λ bytes. IsReadAhead sections set sectors from from a a)
ahead_none None sections set sectors from a = tt
ahead_none (Some bytes) sections set sectors from None = tt
ahead_none (Some bytes) sections set sectors from (Some xs) = omega arith

-- memory ran out before anything was read or put
pub salvages_none : {T : Type 0} (told : Option (List (List ℕ))) (sections : List Section) (set : Wide) (sectors : ℕ) (seen : Seen) (sink : Option (List ℕ)) (faults : ℕ) (result : Result T VolumeFault) →
    IsErrOf result Memory → Salvages told sections set sectors seen seen sink sink faults faults result
salvages_none told sections set sectors seen sink faults (Ok value) is = absurd (cc)
salvages_none told sections set sectors seen sink faults (Err ReadFault) is = absurd (cc)
salvages_none told sections set sectors seen sink faults (Err WriteFault) is = absurd (cc)
salvages_none told sections set sectors seen sink faults (Err Memory) is = record {
  put = if_any told (λ bytes. AppendsFront sink sink (salvaged_sectors bytes sections set 0 sectors)) (λ bytes. front_none sink (salvaged_sectors bytes sections set 0 sectors));
  whole = λ other. absurd (cc);
  memory = λ same. (refl, refl);
  reads = reads_up seen seen (reads_none seen) (omega arith);
  ahead = ahead_none told sections set sectors seen.sectors_read sink;
  later = omega arith;
  faults = (refl, refl);
}
