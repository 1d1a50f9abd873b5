-- Blocks of sectors.
use Rattle.std.proofs.Common.{ℕ, ◌≡◌, ◌+◌, ◌-◌, ◌*◌, ◌/◌, ◌%◌, ◌<◌, ◌≤◌, List, length, get_or, map, take, refl, ap, ◌∙◌, subst, arith}
use Rattle.std.specs.List.{range_with_len, sum}
use Rattle.std.proofs.lemmas.List.{length-take, map-append}
use Rattle.std.proofs.lemmas.List.Sums.{sum_by-append}
use Rattle.std.proofs.Common.{min}
use Rattle.virtual_volume.proofs.Blocks.{blocks_are}
use Rattle.outside.proofs.Reading.{reads_join, reads_none, reads_up}
use Rattle.outside.specs.Seen.{OnlyReads, Seen}
use Rattle.raid_params.specs.declared.wide.Wide.{Wide}
use Rattle.virtual_volume.proofs.Ranges.{flat_long, range_split}
use Rattle.rescue_map.specs.Salvaged.{column_at, filled_byte, reads_for, reads_for_all, salvaged_sector, salvaged_sectors, IsFilled, IsRead}
use Rattle.rescue_map.proofs.Found.{salvaged_long}
use Rattle.rescue_text.specs.declared.section.Section.{Section}

-- what is read for more sectors
pub reads_parts : (sections : List Section) (set : Wide) (first n m k next : ℕ) → k ≡ n + m → next ≡ first + n → reads_for_all sections set first k ≡ reads_for_all sections set first n + reads_for_all sections set next m
unfolding reads_for_all
reads_parts sections set first n m k next e f =
    ap (λ (l : List ℕ). sum (map (reads_for sections set) l)) (range_split first n m k next e f)
    ∙ ap sum (map-append (reads_for sections set) (range_with_len first n) (range_with_len next m))
    ∙ sum_by-append (λ x. x) (map (reads_for sections set) (range_with_len first n)) (map (reads_for sections set) (range_with_len next m))

pub reads_one : (sections : List Section) (set : Wide) (v : ℕ) → reads_for_all sections set v 1 ≡ reads_for sections set v
unfolding reads_for_all
reads_one sections set v = omega arith

pub reads_some : (old new : Seen) (sections : List Section) (set : Wide) (first n m : ℕ) → n ≤ m → OnlyReads old new (reads_for_all sections set first n) → OnlyReads old new (reads_for_all sections set first m)
reads_some old new sections set first n m le reads =
    reads_up old new reads (omega (arith, reads_parts sections set first n (m - n) m (first + n) (omega arith) refl))

pub reads_blocks : (old mid new : Seen) (sections : List Section) (set : Wide) (first n m : ℕ) → OnlyReads old mid (reads_for_all sections set first n) → OnlyReads mid new (reads_for_all sections set (first + n) m) →
    OnlyReads old new (reads_for_all sections set first (n + m))
reads_blocks old mid new sections set first n m before block =
    reads_up old new (reads_join old mid new before block) (omega (arith, reads_parts sections set first n m (n + m) (first + n) refl refl))

-- the sectors that were read and found
pub salvaged_are : (images : List (List ℕ)) (sections : List Section) (set : Wide) (first n : ℕ) (rows old new : List ℕ) → length new ≡ 512 * n →
    ((j : ℕ) → j < n → IsRead images sections set first rows old j) → ((j : ℕ) → j < n → IsFilled sections set first 0 rows old new j) → new ≡ salvaged_sectors images sections set first n
unfolding salvaged_sectors
salvaged_are images sections set first n rows old new long read filled =
    blocks_are new (salvaged_sector images sections set) first n long (salvaged_long images sections set)
    (λ j x below inside.
    let at : 0 + j ≡ j = omega arith in
    filled j below x inside
    ∙ ap (λ (t : ℕ). filled_byte sections set (first + t) (column_at (length set.geo.slots.items) rows (512 * length set.geo.slots.items * t) x) (get_or old (512 * j + x) 0)) at
    ∙ read j below x inside)

-- a piece of a block is whole sectors
pub piece_whole : (total start len : ℕ) → total % 512 ≡ 0 → start % 32768 ≡ 0 → len ≡ min 32768 (total - start) → start + len ≤ total →
    (len % 512 ≡ 0) × (512 * (start / 512) ≡ start) × (start / 512 + len / 512 ≤ total / 512)
piece_whole total start len whole at long inside = (omega arith, omega arith, omega arith)

-- the bytes of n sectors
pub sectors_long : (images : List (List ℕ)) (sections : List Section) (set : Wide) (first n : ℕ) → length (salvaged_sectors images sections set first n) ≡ 512 * n
unfolding salvaged_sectors
sectors_long images sections set first n = omega (arith, flat_long (salvaged_sector images sections set) 512 first n (salvaged_long images sections set))

-- nothing was read yet, and more was
pub reads_start : (s : Seen) (sections : List Section) (set : Wide) → OnlyReads s s (reads_for_all sections set 0 0)
reads_start s sections set = reads_up s s (reads_none s) (omega arith)

pub reads_next : (old mid new : Seen) (sections : List Section) (set : Wide) (first n m : ℕ) → n ≡ m → OnlyReads old mid (reads_for_all sections set 0 first) → OnlyReads mid new (reads_for_all sections set first n) →
    OnlyReads old new (reads_for_all sections set 0 (first + m))
reads_next old mid new sections set first n m same before block =
    reads_up old new (reads_join old mid new before block)
    (omega (arith, reads_parts sections set 0 first m (first + m) first refl (omega arith), ap (λ (k : ℕ). reads_for_all sections set first k) same))

-- the sectors of the first part of a block
pub part_count : (block : List ℕ) (count : ℕ) → 512 * count ≤ length block → length (take (512 * count) block) / 512 ≡ count
part_count block count fits = let long = length-take (512 * count) block in omega arith

-- rows that have room for so many sectors
pub room_same : (slots start n m room : ℕ) → 512 * slots * (start + n) ≤ room → start + n ≡ m → 512 * slots * m ≤ room
room_same slots start n m room fits same = subst (λ (t : ℕ). 512 * slots * t ≤ room) same fits
