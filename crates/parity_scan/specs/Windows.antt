-- The image sectors that a scan may read.
use Rattle.std.specs.Prelude.{ℕ, ◌+◌, ◌*◌, Bool, nat_le, nat_lt, ◌&&◌, List, min, count_by}
use Rattle.std.specs.List.{list_any, range_with_len}

-- the image sector lies in the window that begins at the offset, before the end
abbrev pub is_in_window : ℕ → ℕ → ℕ → ℕ → Bool
is_in_window end window sector offset = nat_le offset sector && nat_lt sector (min end (offset + window))

-- how many of the image sectors below one lie in the window of some offset, before the end
unfoldable pub sectors_below : ℕ → ℕ → List ℕ → ℕ → ℕ
sectors_below end window offsets below = count_by (λ sector. list_any (is_in_window end window sector) offsets) (range_with_len 0 below)

-- how many image sectors do
abbrev pub window_sectors : ℕ → ℕ → List ℕ → ℕ
window_sectors end window offsets = sectors_below end window offsets end

-- the most sectors that a scan of sets with these offsets reads of the images: 64 samples of each, and each sector of a window
-- once
abbrev pub scan_reads : ℕ → ℕ → ℕ → List ℕ → ℕ
scan_reads images end window offsets = images * (64 + window_sectors end window offsets)
