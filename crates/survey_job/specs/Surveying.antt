-- What `survey` refuses and prints.
use Rattle.std.specs.Prelude.{ℕ, false, ◌++◌, if◌then◌else◌, List, length}
use Rattle.std.specs.Option.{option_map, option_or}
use Rattle.std.specs.declared.option.Option.{Option}
use Rattle.std.specs.declared.option.Option.TheVariants.{None}
use Rattle.asked_values.specs.Asked.{members_for, window_for}
use Rattle.outside.specs.Seen.{Image, lengths_of}
use Rattle.search_plan.specs.declared.plan.Plan.{Plan}
use Rattle.survey_engine.specs.Origins.{headers_of, origins_of}
use Rattle.survey_engine.specs.Owners.{groups_of}
use Rattle.survey_engine.specs.Surveys.{found_in, sized_in, survey_reads as reads_of}
use Rattle.survey_engine.specs.Tables.{table_groups}
use Rattle.survey_engine.specs.Telling.{told as told_sightings}
use Rattle.survey_engine.specs.declared.ask.Ask.{Ask}
use Rattle.plan_text.specs.PlanText.{plan_text}
use Rattle.command_words.specs.declared.command.SurveyWords.{SurveyWords}
use Rattle.outside.specs.Attached.{told_all}
use Rattle.run_ends.specs.Agreement.{end_of, limits_fault, long_fault}
use Rattle.run_ends.specs.declared.agreement.Disagreement.{Disagreement}
use Rattle.run_ends.specs.Jobs.{Job, textless}
use Rattle.run_ends.specs.declared.stop.Refusal.{Refusal}
use Rattle.run_ends.specs.declared.stop.Refusal.TheVariants.{Images}

-- what the words ask of a survey of `names` images, whose members end before the image sector `end`
abbrev pub ask_of : SurveyWords → ℕ → ℕ → Ask
ask_of asked names end = record {
  bounds = record asked.bounds { members = record { items = members_for asked.bounds.members.items names } };
  end = end;
  limits = record { badrows = asked.badrows; window = window_for asked.window end };
  tests = asked.tests;
  kinds = asked.kinds;
  drops = asked.drops;
  each = asked.each;
  unit = asked.unit;
}

-- the plan of a survey: it repeats what was asked, and adds the images' lengths, the groups of the landmarks
-- that were seen, and the origins that partition tables give
abbrev pub survey_plan : Ask → List Image → List (List ℕ) → Plan
survey_plan ask attached images = record {
  lengths = record { items = lengths_of attached };
  end = ask.end;
  bounds = ask.bounds;
  limits = ask.limits;
  tests = record {
    origins = record { items = origins_of ask.tests.origins.items (lengths_of attached) images (headers_of ask.kinds.gpt (found_in ask attached images)) };
    misfits = ask.tests.misfits;
    least = ask.tests.least;
  };
  groups =
      groups_of ask.kinds (told_sightings ask.kinds (lengths_of attached) images (sized_in ask attached images))
      ++ table_groups ask.kinds.mft (lengths_of attached) images (found_in ask attached images);
  each = ask.each;
}

-- how the images disagree with what `survey` takes; where each is to have an offset of its own, the last cause is
-- the first image that is too long for that
abbrev pub survey_fault : SurveyWords → ℕ → List Image → Option Disagreement
survey_fault asked names attached = option_or (limits_fault asked.end names attached) (if asked.each then long_fault attached else None)

-- the first refusal of `survey`
unfoldable pub survey_refusal : SurveyWords → ℕ → List Image → Option Refusal
survey_refusal asked names attached = option_map (λ fault. Images fault) (survey_fault asked names attached)

-- what `survey` prints, where the bytes of the images are known
unfoldable pub survey_output : SurveyWords → ℕ → List Image → Option (List (List ℕ)) → Option (List ℕ)
survey_output asked names attached told =
    option_map (λ images. plan_text (survey_plan (ask_of asked names (end_of asked.end attached)) attached images)) told

-- the most sectors that `survey` reads: each sector of each image from the smallest offset to the end once, and those that are read for
-- what sightings tell
abbrev pub survey_reads : SurveyWords → List Image → ℕ
survey_reads asked attached = reads_of (ask_of asked (length attached) (end_of asked.end attached)) attached

-- `survey`
abbrev pub survey_job : SurveyWords → Job
survey_job asked =
    textless false (λ given. survey_refusal asked given.names given.attached) (λ given. survey_output asked given.names given.attached (told_all given.attached)) (λ given. survey_reads asked given.attached)
