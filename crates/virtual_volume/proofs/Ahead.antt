-- How far the reading is ahead of what was put.
use Rattle.std.proofs.Common.{◌≡◌, ℕ, ◌+◌, ◌*◌, ◌≤◌, List, [], ◌++◌, length, take, max, Option, None, Some, IfSome, Result, Ok, Err, sym, ap, ◌∙◌, arith, length-append}
use Rattle.std.proofs.lemmas.Nat.{mul-le}
use Rattle.std.specs.Io.KnownBytes.{Appends}
use Rattle.outside.specs.Seen.{OnlyReads, Seen}
use Rattle.outside.specs.Streams.{AppendsFront}
use Rattle.raid_params.specs.Size.{data_blocks}
use Rattle.raid_params.specs.declared.types.Geometry.{Geometry}
use Rattle.raid_terms.specs.Role.{item_of}
use Rattle.raid_terms.specs.Volume.{member_sector}
use Rattle.member_regions.specs.Members.{IsTestable}
use Rattle.lost_members.specs.Needs.{needed_sectors}
use Rattle.member_regions.specs.declared.regions.TheConstants.{BLOCK}
use Rattle.lost_members.proofs.NeededRows.{as_many_as_data}
use Rattle.virtual_volume.specs.Gained.{IsAhead}
use Rattle.virtual_volume.specs.Parts.{chunk_of, items_of, rows_of}
use Rattle.virtual_volume.specs.Waiting.{Passed, Passes}
use Rattle.virtual_volume.proofs.Blocks.{sector_long}
use Rattle.virtual_volume.proofs.Fronts.{front_none, gained_long}
use Rattle.virtual_volume.proofs.Ranges.{flat_long}

chunk_long : (images : List (List ℕ)) (geo : Geometry) (row slot : ℕ) → length (chunk_of images geo row slot) ≡ geo.head.chunk * 512
unfolding chunk_of
chunk_long images geo row slot = flat_long (λ at. member_sector images geo slot (row * geo.head.chunk + at)) 512 0 geo.head.chunk (λ at. sector_long images geo slot (row * geo.head.chunk + at))

items_long : (images : List (List ℕ)) (geo : Geometry) (row n : ℕ) → length (items_of images geo row n) ≡ n * (geo.head.chunk * 512)
unfolding items_of
items_long images geo row n = flat_long (λ item. chunk_of images geo row (item_of geo.head row item)) (geo.head.chunk * 512) 0 n (λ item. chunk_long images geo row (item_of geo.head row item))

rows_long : (images : List (List ℕ)) (geo : Geometry) (first n : ℕ) → length (rows_of images geo first n) ≡ n * (data_blocks geo.head * (geo.head.chunk * 512))
unfolding rows_of
rows_long images geo first n = flat_long (λ row. items_of images geo row (data_blocks geo.head)) (data_blocks geo.head * (geo.head.chunk * 512)) first n (λ row. items_long images geo row (data_blocks geo.head))

-- the needed sectors of some rows are as long as their part of the volume
needed_long : (images : List (List ℕ)) (geo : Geometry) (n : ℕ) → IsTestable geo → 512 * needed_sectors geo 0 (n * geo.head.chunk) ≡ length (rows_of images geo 0 n)
needed_long images geo n t =
    ap (λ (k : ℕ). 512 * k) (as_many_as_data geo t.images 0 (n * geo.head.chunk) t.shaped) ∙ turned n geo.head.chunk (data_blocks geo.head) ∙ sym (rows_long images geo 0 n)
  where
    turned : (n c d : ℕ) → 512 * (n * c * d) ≡ n * (d * (c * 512))
    turned n c d = grind arith

-- a sink that gained a front holds no less than before, and a front more
gained_front : (most from to : ℕ) (old mid new : Option (List ℕ)) (front after : List ℕ) → Appends old mid front → AppendsFront mid new after → 512 * to ≤ 512 * (from + most) + length front → IsAhead most from to old new
gained_front most from to old mid new front after p q few =
    gained_long (λ before more. 512 * to + before ≤ 512 * (from + most) + more) old mid new front after p q (λ before more long. omega arith)

-- what passed is as long as the rows, but for what waits
front_long : (old new : Option (List ℕ)) (before after bytes : List ℕ) (p : Passes old new before after bytes) → length bytes ≤ length p.front + length after
front_long old new before after bytes p =
    let whole : length (before ++ bytes) ≡ length (p.front ++ after) = ap (λ (l : List ℕ). length l) p.whole in
    omega (arith, whole, length-append before bytes, length-append p.front after)

pub ahead_at_error : (told : Option (List (List ℕ))) (old mid new : Seen) (geo : Geometry) (first count batch : ℕ) (a b c : Option (List ℕ)) (before between : List ℕ) → IsTestable geo → count ≤ batch → length between ≤ 512 * BLOCK →
    OnlyReads old mid (needed_sectors geo 0 (first * geo.head.chunk)) → OnlyReads mid new (needed_sectors geo (first * geo.head.chunk) (count * geo.head.chunk)) →
    IfSome told (λ bytes. Passes a b before between (rows_of bytes geo 0 first)) → IfSome told (λ bytes. AppendsFront b c (between ++ rows_of bytes geo first count)) →
    IfSome told (λ bytes. IsAhead (data_blocks geo.head * (batch * geo.head.chunk) + BLOCK) old.sectors_read new.sectors_read a c)
ahead_at_error None old mid new geo first count batch a b c before between t few waits reads batch_reads p q = tt
ahead_at_error (Some bytes) old mid new geo first count batch a b c before between t few waits reads batch_reads p q =
    let one : needed_sectors geo (first * geo.head.chunk) (count * geo.head.chunk) ≡ count * geo.head.chunk * data_blocks geo.head = as_many_as_data geo t.images (first * geo.head.chunk) (count * geo.head.chunk) t.shaped in
    gained_front (data_blocks geo.head * (batch * geo.head.chunk) + BLOCK) old.sectors_read new.sectors_read a b c p.front (between ++ rows_of bytes geo first count) p.gained q
    (omega (arith, one, fewer count batch geo.head.chunk (data_blocks geo.head) few, needed_long bytes geo first t, front_long a b before between (rows_of bytes geo 0 first) p, reads.sectors_read, batch_reads.sectors_read, waits))
  where
    fewer : (n m c d : ℕ) → n ≤ m → n * c * d ≤ d * (m * c)
    fewer n m c d le = grind arith

pub ahead_at_end : (told : Option (List (List ℕ))) (old new : Seen) (geo : Geometry) (first batch : ℕ) (a b : Option (List ℕ)) (before between : List ℕ) → IsTestable geo → length between ≤ 512 * BLOCK →
    OnlyReads old new (needed_sectors geo 0 (first * geo.head.chunk)) → IfSome told (λ bytes. Passes a b before between (rows_of bytes geo 0 first)) →
    IfSome told (λ bytes. IsAhead (data_blocks geo.head * (batch * geo.head.chunk) + BLOCK) old.sectors_read new.sectors_read a b)
ahead_at_end None old new geo first batch a b before between t waits reads p = tt
ahead_at_end (Some bytes) old new geo first batch a b before between t waits reads p =
    gained_front (data_blocks geo.head * (batch * geo.head.chunk) + BLOCK) old.sectors_read new.sectors_read a b b p.front [] p.gained (front_none b [])
    (omega (arith, needed_long bytes geo first t, front_long a b before between (rows_of bytes geo 0 first) p, reads.sectors_read, waits))

-- it is not further ahead where the sink gains more
ahead_grown : (most from to : ℕ) (a b c : Option (List ℕ)) (more : List ℕ) → IsAhead most from to a b → Appends b c more → IsAhead most from to a c
ahead_grown most from to None b c more is p = tt
ahead_grown most from to (Some xs) None c more is p = absurd is
ahead_grown most from to (Some xs) (Some ys) None more is p = absurd p
ahead_grown most from to (Some xs) (Some ys) (Some zs) more is p =
    let grown : length zs ≡ length ys + length more = ap (λ (l : List ℕ). length l) p ∙ length-append ys more in
    omega (arith, is, grown)

pub ahead_passed : {T E : Type 0} (told : Option (List (List ℕ))) (most from to : ℕ) (a b c : Option (List ℕ)) (before after bytes : List ℕ) (result : Result T E) →
    IfSome told (λ images. IsAhead most from to a b) → Passed b c before after result bytes → IfSome told (λ images. IsAhead most from to a c)
ahead_passed None most from to a b c before after bytes result is p = tt
ahead_passed (Some images) most from to a b c before after bytes (Ok v) is p = ahead_grown most from to a b c p.front is p.gained
ahead_passed (Some images) most from to a b c before after bytes (Err e) is p = ahead_grown most from to a b c (take p.0 (before ++ bytes)) is p.2

-- nor where more is allowed
pub ahead_most : (told : Option (List (List ℕ))) (less more from to : ℕ) (a b : Option (List ℕ)) → less ≤ more → IfSome told (λ images. IsAhead less from to a b) → IfSome told (λ images. IsAhead more from to a b)
ahead_most None less more from to a b le is = tt
ahead_most (Some images) less more from to None b le is = tt
ahead_most (Some images) less more from to (Some xs) None le is = absurd is
ahead_most (Some images) less more from to (Some xs) (Some ys) le is = omega (arith, is, le)

-- nothing was read, and nothing was put
pub ahead_none : (told : Option (List (List ℕ))) (most from : ℕ) (a : Option (List ℕ)) → IfSome told (λ images. IsAhead most from from a a)
ahead_none None most from a = tt
ahead_none (Some images) most from None = tt
ahead_none (Some images) most from (Some xs) = omega arith

-- a batch is as long as it may be
pub few_ahead : (blocks batch chunk block : ℕ) → batch * chunk ≤ max block chunk → blocks * (batch * chunk) + block ≤ blocks * max block chunk + block
few_ahead blocks batch chunk block le = let most : blocks * (batch * chunk) ≤ blocks * max block chunk = mul-le blocks (batch * chunk) blocks (max block chunk) (omega arith) le in omega arith
