-- The plan that a survey makes.
use Rattle.std.specs.Prelude.{ℕ, true, ◌≡◌, ◌+◌, ◌-◌, ◌*◌, ◌^◌, ◌≤◌, ◌<◌, ◌++◌, List, length, count_by, slice_index, All, Option, if◌then◌else◌}
use Rattle.std.specs.Option.{option_map_or}
use Rattle.mft_survey.specs.Records.{has_record}
use Rattle.outside.specs.Attached.{told_all}
use Rattle.outside.specs.Causes.{Rose}
use Rattle.outside.specs.Seen.{Image, Seen, lengths_of}
use Rattle.raid_params.specs.declared.limits.TheConstants.{MOST}
use Rattle.gpt_marks.specs.Header.{IsUnit}
use Rattle.search_plan.specs.Plans.{AreBounds, AreLimits, AreMovable, AreTests}
use Rattle.search_plan.specs.declared.plan.Plan.{Plan}
use Rattle.survey_engine.specs.Origins.{headers_of, is_followed, origins_of}
use Rattle.survey_engine.specs.Owners.{groups_of}
use Rattle.survey_engine.specs.Sightings.{counted, sightings}
use Rattle.survey_engine.specs.Sizing.{all_sized, has_run}
use Rattle.survey_engine.specs.Tables.{records_of, table_groups}
use Rattle.survey_engine.specs.Telling.{has_copy, is_leaf, told}
use Rattle.survey_engine.specs.declared.ask.Ask.{Ask}
use Rattle.survey_engine.specs.declared.sighting.Sighting.{Sighting}
use Rattle.survey_engine.specs.declared.planning.SurveyFault.{SurveyFault}
use Rattle.survey_engine.specs.declared.planning.SurveyFault.TheVariants.{ReadFault, Memory}

-- what is asked for is within the limits of a plan
pub record IsAsk (ask : Ask) : Type 0 where
  pub bounds : AreBounds ask.bounds
  pub limits : AreLimits ask.limits
  pub tests : AreTests ask.tests
  pub unit : IsUnit ask.unit

-- it can be asked of the attached images: there are some, and they reach to the end; where each is to have an
-- offset of its own, they can be moved by them
pub record IsSurveyable (ask : Ask) (attached : List Image) : Type 0 where
  pub ask_is : IsAsk ask
  pub some : 1 ≤ length attached
  pub most : length attached ≤ MOST
  pub short : All (λ image. image.sectors < 2 ^ 55) attached
  pub long : All (λ image. ask.end ≤ image.sectors) attached
  pub each : ask.each ≡ true → AreMovable (lengths_of attached) ask.bounds

-- the sightings that count, in images of these bytes
abbrev pub found_in : Ask → List Image → List (List ℕ) → List Sighting
found_in ask attached images = counted (sightings ask (lengths_of attached) images (length attached))

-- the most sectors of entries that a survey reads, if partition tables are looked for: one for each sighting that counts and that entries
-- follow, and 4,096 if the bytes of the images are not known
abbrev pub entries_read : Option (List (List ℕ)) → Ask → List Image → ℕ
entries_read told ask attached =
    option_map_or (λ images. count_by (is_followed (lengths_of attached)) (headers_of ask.kinds.gpt (found_in ask attached images))) told
    (if ask.kinds.gpt then 4096 else 0)

-- the most sectors of leaves of trees of chunks that it reads: 32 for each that counts and that its image has whole, where tree blocks of
-- btrfs are looked for, and where the bytes are not known 32 * 4,096
abbrev pub leaves_read : Option (List (List ℕ)) → Ask → List Image → ℕ
leaves_read bytes ask attached =
    option_map_or (λ images. 32 * count_by (is_leaf ask.kinds.btrfstree (lengths_of attached)) (found_in ask attached images)) bytes
    (if ask.kinds.btrfstree then 32 * 4096 else 0)

-- the most sectors from copies of superblocks of ext on: 256 for each that counts and of which its image has them, where inodes of
-- ext4 are looked for, and where the bytes are not known 256 * 4,096
abbrev pub copies_read : Option (List (List ℕ)) → Ask → List Image → ℕ
copies_read bytes ask attached =
    option_map_or (λ images. 256 * count_by (has_copy ask.kinds.extinode (lengths_of attached)) (found_in ask attached images)) bytes
    (if ask.kinds.extinode then 256 * 4096 else 0)

-- the most sectors from first sectors of inodes of XFS on that have more: 4 for each that counts and of which its image has them, where
-- inodes of XFS are looked for, and where the bytes are not known 4 * 4,096
abbrev pub inodes_read : Option (List (List ℕ)) → Ask → List Image → ℕ
inodes_read bytes ask attached =
    option_map_or (λ images. 4 * count_by (has_run ask.kinds.xfs5 (lengths_of attached)) (found_in ask attached images)) bytes
    (if ask.kinds.xfs5 then 4 * 4096 else 0)

-- the most sectors of file records of NTFS: 8 for each that counts and that its image has whole, where they are looked for, and where the
-- bytes are not known 8 * 2 * 4,096
abbrev pub records_read : Option (List (List ℕ)) → Ask → List Image → ℕ
records_read bytes ask attached =
    option_map_or (λ images. 8 * count_by (has_record (lengths_of attached)) (records_of ask.kinds.mft (found_in ask attached images))) bytes
    (if ask.kinds.mft then 8 * (2 * 4096) else 0)

-- the most sectors that it reads: each of each image from the smallest offset to the end once, those of entries, those of file records
-- of NTFS, those of larger inodes of XFS, those of leaves, and those from copies on
unfoldable pub survey_reads : Ask → List Image → ℕ
survey_reads ask attached =
    length attached * (ask.end - slice_index ask.bounds.offsets.items 0) + entries_read (told_all attached) ask attached
    + records_read (told_all attached) ask attached + inodes_read (told_all attached) ask attached + leaves_read (told_all attached) ask attached + copies_read (told_all attached) ask attached

-- what the plan repeats
pub record Repeats (ask : Ask) (attached : List Image) (plan : Plan) : Type 0 where
  pub lengths : plan.lengths.items ≡ lengths_of attached
  pub end : plan.end ≡ ask.end
  pub bounds : plan.bounds ≡ ask.bounds
  pub limits : plan.limits ≡ ask.limits
  pub misfits : plan.tests.misfits ≡ ask.tests.misfits
  pub least : plan.tests.least ≡ ask.tests.least
  pub each : plan.each ≡ ask.each

-- the sightings that count, with how many bytes inodes have
abbrev pub sized_in : Ask → List Image → List (List ℕ) → List Sighting
sized_in ask attached images = all_sized ask.kinds.xfs5 (lengths_of attached) images (found_in ask attached images)

-- what it adds, by the images' bytes: groups of these with what some tell of others, those of file records of NTFS, and origins
pub record Adds (ask : Ask) (attached : List Image) (images : List (List ℕ)) (plan : Plan) : Type 0 where
  pub groups : plan.groups ≡ groups_of ask.kinds (told ask.kinds (lengths_of attached) images (sized_in ask attached images)) ++ table_groups ask.kinds.mft (lengths_of attached) images (found_in ask attached images)
  pub origins : plan.tests.origins.items ≡ origins_of ask.tests.origins.items (lengths_of attached) images (headers_of ask.kinds.gpt (found_in ask attached images))

-- a survey ends without a plan where the images failed, and their count of faults rose, or where memory ran out, and
-- it stayed
abbrev pub EndsSurvey : Seen → Seen → SurveyFault → Type 0
EndsSurvey old new ReadFault = Rose old.faults new.faults
EndsSurvey old new Memory = new.faults ≡ old.faults
