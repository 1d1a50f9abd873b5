-- Parts of a plan that stand on lines one after the other.
use Rattle.std.specs.Prelude.{ℕ, Bool, true, false, ◌≡◌, ◌≤◌, ◌<◌, ◌^◌, List, [], ◌∷◌, ◌++◌, length, map, All, codes, decimal}
use Rattle.raid_params.specs.declared.limits.TheConstants.{MOST, MOST_SYNDROMES}
use Rattle.search_plan.specs.Places.{level_place, pattern_place, syndrome_place}
use Rattle.search_plan.specs.Plans.{AreRising, AreBounds, AreLengths, AreLimits, AreTests}
pub use Rattle.value_text.specs.Bounded.{AreChunks, AreDelays, AreMembers, AreSectors}
use Rattle.plan_text.specs.declared.parts.AfterPatterns.{AfterPatterns}
use Rattle.plan_text.specs.declared.parts.AfterPatterns.TheVariants.{Delays, Syndromes}
use Rattle.plan_text.specs.declared.parts.Counts.{Counts}
use Rattle.plan_text.specs.declared.parts.Arrays.{Arrays}
use Rattle.plan_text.specs.declared.parts.Search.{Search}
use Rattle.plan_text.specs.declared.parts.Sizes.{Sizes}
use Rattle.plan_text.specs.PlanText.{delays_line, delays_lines, search_lines, some_delays, syndromes_line}
use Rattle.value_text.specs.Spelling.{level_name, pattern_name, commas, named}

-- what may stand on the line after the patterns: other delays than one, in version 3 alone, or orders of Q
abbrev pub MayComeAfter : Bool → AfterPatterns → Type 0
MayComeAfter third (Delays delays) = (third ≡ true) × AreDelays delays.items × (some_delays delays.items ≡ true)
MayComeAfter third (Syndromes syndromes) = AreRising (map syndrome_place syndromes.items) × (length syndromes.items ≤ MOST_SYNDROMES) × All (λ syndrome. Unit {0}) syndromes.items

abbrev pub line_after : AfterPatterns → List ℕ
line_after (Delays delays) = delays_line delays.items
line_after (Syndromes syndromes) = syndromes_line syndromes.items

-- the arrays of a plan of version 3, or of an earlier one: there parity stays for one row
pub record AreArrays (third : Bool) (arrays : Arrays) : Type 0 where
  pub levels : AreRising (map level_place arrays.levels.items)
  pub members : AreMembers arrays.members.items
  pub patterns : AreRising (map pattern_place arrays.patterns.items)
  pub delays : AreDelays arrays.delays.items
  pub once : third ≡ false → some_delays arrays.delays.items ≡ false
  pub syndromes : AreRising (map syndrome_place arrays.syndromes.items)

abbrev pub lines_of_arrays : Arrays → List (List ℕ)
lines_of_arrays arrays =
    named (codes "levels") (commas (map level_name arrays.levels.items))
    ∷ named (codes "members") (commas (map decimal arrays.members.items))
    ∷ named (codes "patterns") (commas (map pattern_name arrays.patterns.items))
    ∷ (delays_lines (some_delays arrays.delays.items) arrays.delays.items ++ syndromes_line arrays.syndromes.items ∷ [])

-- the end of lengths and offsets, and the most foreign images: images with offsets of their own are moved by them
abbrev pub sectors_end : Bool → ℕ
sectors_end false = 2 ^ 55
sectors_end true = 2 ^ 54

abbrev pub most_foreign : Bool → ℕ
most_foreign false = MOST
most_foreign true = 0

abbrev pub AreImages : Bool → List ℕ → Type 0
AreImages each lengths = AreLengths lengths × All (λ n. n < sectors_end each) lengths

-- places that rise, each below `end`
abbrev pub AreBelow : ℕ → ℕ → List ℕ → Type 0
AreBelow end most ns = AreSectors most ns × All (λ n. n < end) ns

pub record AreSizes (each : Bool) (sizes : Sizes) : Type 0 where
  pub chunks : AreChunks sizes.chunks.items
  pub offsets : AreBelow (sectors_end each) 64 sizes.offsets.items
  pub origins : AreBelow (2 ^ 55) 64 sizes.origins.items

abbrev pub lines_of_sizes : Sizes → List (List ℕ)
lines_of_sizes sizes =
    named (codes "chunks") (commas (map decimal sizes.chunks.items))
    ∷ named (codes "offsets") (commas (map decimal sizes.offsets.items))
    ∷ named (codes "origins") (commas (map decimal sizes.origins.items))
    ∷ []

pub record AreCounts (each : Bool) (counts : Counts) : Type 0 where
  pub missing : counts.missing ≤ 2
  pub foreign : counts.foreign ≤ most_foreign each
  pub badrows : counts.badrows < 2 ^ 55
  pub some_window : 1 ≤ counts.window
  pub window : counts.window < 2 ^ 55
  pub misfits : counts.misfits < 2 ^ 55
  pub least : counts.least < 2 ^ 55

abbrev pub lines_of_counts : Counts → List (List ℕ)
lines_of_counts counts =
    named (codes "missing") (decimal counts.missing)
    ∷ named (codes "foreign") (decimal counts.foreign)
    ∷ named (codes "badrows") (decimal counts.badrows)
    ∷ named (codes "window") (decimal counts.window)
    ∷ named (codes "misfits") (decimal counts.misfits)
    ∷ named (codes "least") (decimal counts.least)
    ∷ []

-- a search in images, of which the shortest has this many sectors, of a plan of version 3 or of an earlier one
pub record IsSearch (shortest : ℕ) (each third : Bool) (search : Search) : Type 0 where
  pub ends : search.end ≤ shortest
  pub bounds : AreBounds search.bounds
  pub limits : AreLimits search.limits
  pub tests : AreTests search.tests
  pub once : third ≡ false → some_delays search.bounds.delays.items ≡ false
  pub foreign : search.bounds.foreign ≤ most_foreign each
  pub near : All (λ n. n < sectors_end each) search.bounds.offsets.items

abbrev pub lines_of_search : Search → List (List ℕ)
lines_of_search search = search_lines search.end search.bounds search.limits search.tests
