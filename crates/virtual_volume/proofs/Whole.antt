-- The volume is its rows.
use Rattle.std.proofs.Common.{◌≡◌, ℕ, ◌+◌, ◌*◌, ◌%◌, ◌<◌, ◌≤◌, ◌-◌, List, [], ◌++◌, refl, ap, ◌∙◌, arith}
use Rattle.std.specs.List.{flat_map, range_with_len}
use Rattle.address_map.proofs.Sectors.{made_row, made_item, made_at}
use Rattle.raid_params.specs.Size.{data_blocks, rows, volume_sectors}
use Rattle.raid_params.specs.declared.types.Geometry.{Geometry}
use Rattle.raid_terms.specs.Address.{home_item, home_row, home_sector, home_slot}
use Rattle.raid_terms.specs.Role.{item_of}
use Rattle.raid_terms.specs.Volume.{member_sector, volume, volume_sector}
use Rattle.virtual_volume.specs.Parts.{chunk_of, items_of, rows_of}
use Rattle.virtual_volume.proofs.Ranges.{flat_more, flat_product, flat_same, flat_split}

-- a sector of the volume, by its row, its item and its place in the chunk
made_sector : (images : List (List ℕ)) (geo : Geometry) (v row item at : ℕ) → at < geo.head.chunk → item < data_blocks geo.head →
    v ≡ (row * data_blocks geo.head + item) * geo.head.chunk + at →
    volume_sector images geo v ≡ member_sector images geo (item_of geo.head row item) (row * geo.head.chunk + at)
made_sector images geo v row item at below inside e =
    let r : home_row geo.head v ≡ row = ap (λ (t : ℕ). home_row geo.head t) e ∙ made_row geo.head.chunk (data_blocks geo.head) row item at below inside in
    let i : home_item geo.head v ≡ item = ap (λ (t : ℕ). home_item geo.head t) e ∙ made_item geo.head.chunk (data_blocks geo.head) row item at below inside in
    let a : v % geo.head.chunk ≡ at = ap (λ (t : ℕ). t % geo.head.chunk) e ∙ made_at geo.head.chunk (data_blocks geo.head) row item at below in
    let slot : home_slot geo.head v ≡ item_of geo.head row item = ap (λ (t : ℕ). item_of geo.head t (home_item geo.head v)) r ∙ ap (λ (t : ℕ). item_of geo.head row t) i in
    let sector : home_sector geo.head v ≡ row * geo.head.chunk + at = ap (λ (t : ℕ). t * geo.head.chunk + v % geo.head.chunk) r ∙ ap (λ (t : ℕ). row * geo.head.chunk + t) a in
    ap (λ (s : ℕ). member_sector images geo s (home_sector geo.head v)) slot ∙ ap (λ (t : ℕ). member_sector images geo (item_of geo.head row item) t) sector

-- the sectors of a row
row_sectors : (images : List (List ℕ)) (geo : Geometry) (row : ℕ) →
    flat_map (λ u. volume_sector images geo (row * (data_blocks geo.head * geo.head.chunk) + u)) (range_with_len 0 (data_blocks geo.head * geo.head.chunk))
    ≡ items_of images geo row (data_blocks geo.head)
unfolding items_of chunk_of
row_sectors images geo row =
    let c = geo.head.chunk in
    let d = data_blocks geo.head in
    flat_product (λ u. volume_sector images geo (row * (data_blocks geo.head * geo.head.chunk) + u)) (data_blocks geo.head) geo.head.chunk (data_blocks geo.head * geo.head.chunk) refl
    ∙ flat_same (λ item. flat_map (λ at. volume_sector images geo (row * (data_blocks geo.head * geo.head.chunk) + (item * geo.head.chunk + at))) (range_with_len 0 geo.head.chunk))
    (λ item. flat_map (λ at. member_sector images geo (item_of geo.head row item) (row * geo.head.chunk + at)) (range_with_len 0 geo.head.chunk)) 0 (data_blocks geo.head)
    (λ item low high. flat_same (λ at. volume_sector images geo (row * (data_blocks geo.head * geo.head.chunk) + (item * geo.head.chunk + at)))
    (λ at. member_sector images geo (item_of geo.head row item) (row * geo.head.chunk + at)) 0 geo.head.chunk
    (λ at from to. made_sector images geo (row * (data_blocks geo.head * geo.head.chunk) + (item * geo.head.chunk + at)) row item at (omega arith) (omega arith)
    (placed row (data_blocks geo.head) geo.head.chunk item at)))
  where
    placed : (row d c item at : ℕ) → row * (d * c) + (item * c + at) ≡ (row * d + item) * c + at
    placed row d c item at = grind arith

-- the volume, row by row
pub volume_rows : (images : List (List ℕ)) (geo : Geometry) (end : ℕ) → volume images geo end ≡ rows_of images geo 0 (rows geo.head end)
unfolding rows_of
volume_rows images geo end =
    let n : volume_sectors geo.head end ≡ rows geo.head end * (data_blocks geo.head * geo.head.chunk) = turned (rows geo.head end) geo.head.chunk (data_blocks geo.head) in
    flat_product (volume_sector images geo) (rows geo.head end) (data_blocks geo.head * geo.head.chunk) (volume_sectors geo.head end) n
    ∙ flat_same (λ row. flat_map (λ u. volume_sector images geo (row * (data_blocks geo.head * geo.head.chunk) + u)) (range_with_len 0 (data_blocks geo.head * geo.head.chunk)))
    (λ row. items_of images geo row (data_blocks geo.head)) 0 (rows geo.head end) (λ row low high. row_sectors images geo row)
  where
    turned : (r c d : ℕ) → r * c * d ≡ r * (d * c)
    turned r c d = grind arith

-- one more item of a row
pub items_none : (images : List (List ℕ)) (geo : Geometry) (row : ℕ) → items_of images geo row 0 ≡ []
unfolding items_of
items_none images geo row = refl

pub items_more : (images : List (List ℕ)) (geo : Geometry) (row n m : ℕ) → m ≡ n + 1 → items_of images geo row m ≡ items_of images geo row n ++ chunk_of images geo row (item_of geo.head row n)
unfolding items_of
items_more images geo row n m e = flat_more (λ item. chunk_of images geo row (item_of geo.head row item)) 0 n m n e (omega arith)

pub items_split : (images : List (List ℕ)) (geo : Geometry) (row n m : ℕ) → n ≤ m → (rest : List ℕ) × (items_of images geo row m ≡ items_of images geo row n ++ rest)
unfolding items_of
items_split images geo row n m le =
    let f : ℕ → List ℕ = λ item. chunk_of images geo row (item_of geo.head row item) in
    (flat_map f (range_with_len n (m - n)), flat_split f 0 n (m - n) m n (omega arith) (omega arith))

-- no row, one more row, more rows
pub rows_none : (images : List (List ℕ)) (geo : Geometry) (first : ℕ) → rows_of images geo first 0 ≡ []
unfolding rows_of
rows_none images geo first = refl

pub rows_more : (images : List (List ℕ)) (geo : Geometry) (first n m : ℕ) → m ≡ n + 1 → rows_of images geo first m ≡ rows_of images geo first n ++ items_of images geo (first + n) (data_blocks geo.head)
unfolding rows_of
rows_more images geo first n m e = flat_more (λ row. items_of images geo row (data_blocks geo.head)) first n m (first + n) e refl

pub rows_join : (images : List (List ℕ)) (geo : Geometry) (first n m k next : ℕ) → k ≡ n + m → next ≡ first + n →
    rows_of images geo first k ≡ rows_of images geo first n ++ rows_of images geo next m
unfolding rows_of
rows_join images geo first n m k next e f = flat_split (λ row. items_of images geo row (data_blocks geo.head)) first n m k next e f
