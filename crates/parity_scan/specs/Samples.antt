-- At which image sectors samples are taken.
use Rattle.std.specs.Prelude.{ℕ, ◌+◌, ◌*◌, ◌/◌, ◌%◌, List, length, slice_index_or}
use Rattle.raid_params.specs.declared.types.Geometry.{Geometry}
use Rattle.search_scope.specs.declared.scope.Scope.{Scope}
use Rattle.parity_scan.specs.ImageRows.{rows_of}

-- where a sample is taken of this set: some of 64 parts into its tested rows, and 37 parts more a sample, counted round
abbrev pub sample_in : Scope → Geometry → ℕ → ℕ
sample_in scope geo number = geo.head.offset + (rows_of scope geo * ((number * 37) % 64)) / 64

-- sample `number` of 64 is taken of the set that lies as many of 64 parts into the sets
abbrev pub sample_of : Scope → List Geometry → Geometry → ℕ → ℕ
sample_of scope sets none number = sample_in scope (slice_index_or sets ((number * length sets) / 64) none) number
