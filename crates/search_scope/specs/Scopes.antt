-- Which scopes and which bounds there are: their numbers are within the limits of the tool, and their lists rise.
use Rattle.std.specs.Prelude.{ℕ, ◌≡◌, ◌≤◌, ◌<◌, ◌^◌, IsTrue, List, length, map, All}
use Rattle.outside.specs.Seen.{Image, lengths_of}
use Rattle.raid_params.specs.declared.limits.TheConstants.{LONGEST_DELAY, MOST, MOST_DELAYS}
use Rattle.raid_params.specs.declared.types.Bounds.{Bounds}
use Rattle.raid_params.specs.Places.{AreRising, level_place, pattern_place, syndrome_place}
use Rattle.raid_params.specs.Validity.{is_chunk}
use Rattle.search_scope.specs.declared.scope.Limits.{Limits}
use Rattle.search_scope.specs.declared.scope.Scope.{Scope}

-- lengths of images: from 1 to MOST of them, each below 2^55
pub record AreLengths (lengths : List ℕ) : Type 0 where
  pub some : 1 ≤ length lengths
  pub most : length lengths ≤ MOST
  pub short : All (λ n. n < 2 ^ 55) lengths

-- the bounds of a search: each list has an element and rises strictly, and each number is within its
-- limit
pub record AreBounds (bounds : Bounds) : Type 0 where
  pub levels : AreRising (map level_place bounds.levels.items)
  pub members : AreRising bounds.members.items
  pub few_members : All (λ n. (2 ≤ n) × (n ≤ MOST)) bounds.members.items
  pub patterns : AreRising (map pattern_place bounds.patterns.items)
  pub delays : AreRising bounds.delays.items
  pub few_delays : length bounds.delays.items ≤ MOST_DELAYS
  pub short_delays : All (λ delay. (1 ≤ delay) × (delay ≤ LONGEST_DELAY)) bounds.delays.items
  pub syndromes : AreRising (map syndrome_place bounds.syndromes.items)
  pub chunks : AreRising bounds.chunks.items
  pub powers : All (λ chunk. IsTrue (is_chunk chunk)) bounds.chunks.items
  pub offsets : AreRising bounds.offsets.items
  pub few_offsets : length bounds.offsets.items ≤ 64
  pub near_offsets : All (λ n. n < 2 ^ 55) bounds.offsets.items
  pub missing : bounds.missing ≤ 2
  pub foreign : bounds.foreign ≤ MOST

-- how rows are tested: numbers below 2^55, and a window of at least one sector row
pub record AreLimits (limits : Limits) : Type 0 where
  pub badrows : limits.badrows < 2 ^ 55
  pub some_window : 1 ≤ limits.window
  pub window : limits.window < 2 ^ 55

-- a scope, part by part; its end is past no image
pub record IsScope (scope : Scope) : Type 0 where
  pub lengths : AreLengths scope.lengths.items
  pub ends : All (λ n. scope.end ≤ n) scope.lengths.items
  pub limits : AreLimits scope.limits

-- the attached images have the lengths of the scope, and there are no others
abbrev pub AgreeWith : Scope → List Image → Type 0
AgreeWith scope attached = lengths_of attached ≡ scope.lengths.items
