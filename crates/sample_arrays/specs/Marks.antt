-- The sectors of an XFS with which the groups of a volume begin.
use Rattle.std.specs.Prelude.{ℕ, ◌-◌, ◌*◌, ◌/◌, ◌%◌, ◌==◌, Bool, nat_lt, ◌&&◌, if◌then◌else◌, List, ◌++◌, codes, length, replicate}
use Rattle.std.specs.Int.{w16, w32, to_be_bytes}
use Rattle.std.specs.declared.option.Option.{Option}
use Rattle.std.specs.declared.option.Option.TheVariants.{None, Some}
use Rattle.sample_arrays.specs.Words.{random_sector}

-- the blocks of a group: the greatest number up to the volume's 64th part, in blocks, that leaves 1 when it is divided by
-- the data items of a row
abbrev pub group_blocks : ℕ → ℕ → ℕ
group_blocks sectors items = sectors / 512 - (sectors / 512 - 1) % items

-- the bytes, and zeros after them up to n bytes
abbrev pub padded : ℕ → List ℕ → List ℕ
padded n bytes = bytes ++ replicate (n - length bytes) 0

-- a superblock: blocks of 4096 bytes, 64 groups of `blocks` blocks, and sectors of 512 bytes
unfoldable pub super_sector : ℕ → List ℕ
super_sector blocks =
    padded 512 (padded 102 (padded 84 (padded 32 (codes "XFSB" ++ to_be_bytes w32 4096) ++ replicate 16 165) ++ to_be_bytes w32 blocks ++ to_be_bytes w32 64) ++ to_be_bytes w16 512)

-- a header of a group, which begins with these letters
unfoldable pub header_sector : List ℕ → ℕ → List ℕ
header_sector letters group = padded 512 (letters ++ to_be_bytes w32 1 ++ to_be_bytes w32 group)

-- sector k of a group of `blocks` blocks, where k is 0, 1 or 2
abbrev pub mark_sector : ℕ → ℕ → ℕ → List ℕ
mark_sector blocks group k = if k == 0 then super_sector blocks else if k == 1 then header_sector (codes "XAGF") group else header_sector (codes "XAGI") group

-- volume sector v is one of the first three sectors of one of the 64 groups
abbrev pub is_mark : ℕ → ℕ → Bool
is_mark blocks v = nat_lt (v / (8 * blocks)) 64 && nat_lt (v % (8 * blocks)) 3

-- volume sector v of the array generated from a number, with the groups of an XFS or without
abbrev pub volume_sector : ℕ → Option ℕ → ℕ → List ℕ
volume_sector number None v = random_sector number v
volume_sector number (Some blocks) v =
    if is_mark blocks v then mark_sector blocks (v / (8 * blocks)) (v % (8 * blocks)) else random_sector number v
