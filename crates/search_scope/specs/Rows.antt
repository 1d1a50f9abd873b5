-- How many rows of sectors are tested.
use Rattle.std.specs.Prelude.{ℕ, ◌-◌, ◌*◌, ◌/◌, min}

-- the tested rows of each set of this chunk and this offset: those in whole rows of chunks before the end, and below the window
abbrev pub tested_with : ℕ → ℕ → ℕ → ℕ → ℕ
tested_with end window chunk offset = min ((end - offset) / chunk * chunk) window
