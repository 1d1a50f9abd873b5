-- What is lost of a volume, as a text.
use Rattle.std.specs.Prelude.{ℕ, ◌≡◌, ◌<◌, ◌≤◌, ◌⊎◌, true, false, ◌+◌, ◌-◌, Bool, ◌==◌, ◌&&◌, ◌||◌, not, if◌then◌else◌, List, [], ◌∷◌, ◌++◌, filter, count_by, codes, decimal}
use Rattle.std.specs.List.{flat_map, range_with_len}
use Rattle.raid_params.specs.Size.{volume_sectors}
use Rattle.raid_params.specs.declared.wide.Wide.{Wide}
use Rattle.std.specs.declared.option.Option.{Option}
use Rattle.std.specs.declared.option.Option.TheVariants.{None, Some}
use Rattle.rescue_map.specs.Damaged.{is_lost}
use Rattle.rescue_map.specs.declared.lost.Runs.{Runs}
use Rattle.rescue_text.specs.declared.section.Section.{Section}
use Rattle.value_text.specs.Spelling.{line}

-- a run of lost sectors begins at v: it is lost, and no sector is before it, or one that is not lost
abbrev pub begins_run : (ℕ → Bool) → ℕ → Bool
begins_run lost v = lost v && (v == 0 || not (lost (v - 1)))

-- how many of these are lost before the first that is not
abbrev pub run_length : (ℕ → Bool) → List ℕ → ℕ
run_length lost [] = 0
run_length lost (v ∷ vs) = if lost v then 1 + run_length lost vs else 0

-- lost FIRST COUNT, for the run that begins at v, of a volume of so many sectors
abbrev pub run_line : (ℕ → Bool) → ℕ → ℕ → List ℕ
run_line lost sectors v = line (codes "lost " ++ decimal v ++ codes " " ++ decimal (run_length lost (range_with_len v (sectors - v))))

-- a line for each longest run, in their order, and how many sectors are not lost of how many
unfoldable pub lost_lines : (ℕ → Bool) → ℕ → List ℕ
lost_lines lost sectors =
    flat_map (run_line lost sectors) (filter (begins_run lost) (range_with_len 0 sectors))
    ++ line (codes "good " ++ decimal (count_by (λ v. not (lost v)) (range_with_len 0 sectors)) ++ codes " of " ++ decimal sectors)

abbrev pub lost_text : List Section → Wide → ℕ → List ℕ
lost_text sections set end = lost_lines (is_lost sections set) (volume_sectors set.geo.head end)

-- the lines of the runs that begin before a sector
abbrev pub lines_before : (ℕ → Bool) → ℕ → ℕ → List ℕ
lines_before lost sectors v = flat_map (run_line lost sectors) (filter (begins_run lost) (range_with_len 0 v))

-- the lines of the runs up to a sector: the last of them may not have ended
abbrev pub AreLines : (ℕ → Bool) → ℕ → ℕ → List ℕ → Option ℕ → Type 0
AreLines lost sectors v text None = (text ≡ lines_before lost sectors v) × ((v ≡ 0) ⊎ (lost (v - 1) ≡ false))
AreLines lost sectors v text (Some first) =
    (text ≡ lines_before lost sectors first) × (first < v) × (begins_run lost first ≡ true) × ((w : ℕ) → first ≤ w → w < v → lost w ≡ true)

-- the runs among the sectors before one, and how many of these are not lost
pub record HasRuns (lost : ℕ → Bool) (sectors v : ℕ) (runs : Runs) : Type 0 where
  pub within : v ≤ sectors
  pub lines : AreLines lost sectors v runs.text runs.first
  pub good : runs.good ≡ count_by (λ w. not (lost w)) (range_with_len 0 v)

-- the runs of what is lost of the volume, among its sectors before one
abbrev pub HasLost : List Section → Wide → ℕ → ℕ → Runs → Type 0
HasLost sections set end v runs = HasRuns (is_lost sections set) (volume_sectors set.geo.head end) v runs
