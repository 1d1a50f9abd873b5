-- The label of a physical volume of LVM2 (LVM2, lib/label/label.h, struct label_header). Numbers are
-- little-endian.
use Rattle.std.specs.Prelude.{ℕ, List, Bool, ◌&&◌, nat_lt, Option, Some, None, if◌then◌else◌, codes, ◌^◌}
use Rattle.sector_fields.specs.Fields.{has_bytes, u64_le}

-- the facts that make a sector a label
unfoldable pub is_lvm_label : List ℕ → Bool
is_lvm_label s =
    has_bytes s 0 (codes "LABELONE")  -- id: 8 bytes at 0
    && has_bytes s 24 (codes "LVM2 001")  -- type: 8 bytes at 24
    && nat_lt (u64_le s 8) (2 ^ 55)  -- sector_xl: u64 at 8, below 2^55

-- the sector of its volume that a label says it lies in, if the sector is one
unfoldable pub lvm_label : List ℕ → Option ℕ
lvm_label s = if is_lvm_label s then Some (u64_le s 8) else None
