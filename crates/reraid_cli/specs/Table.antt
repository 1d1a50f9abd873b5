-- The table of commands: the job of each.
use Rattle.std.specs.Prelude.{ℕ, Result, Ok, Err}
use Rattle.std.specs.declared.option.Option.TheVariants.{None, Some}
use Rattle.command_words.specs.declared.command.Command.{Command}
use Rattle.command_words.specs.declared.command.Command.TheVariants.{Survey, List, Check, Map, Write, Rebuild, Sample, Classes, Mirrors, MirrorWrite, Salvage, Relations, Help, Version}
use Rattle.class_job.specs.Classing.{classes_job}
use Rattle.near_jobs.specs.MirrorWriting.{mirrorwrite_job}
use Rattle.near_jobs.specs.Mirroring.{mirrors_job}
use Rattle.plan_jobs.specs.Checking.{check_job}
use Rattle.plan_jobs.specs.Listing.{list_job}
use Rattle.program_texts.specs.Telling.{help_job, version_job}
use Rattle.relation_job.specs.Relating.{relations_job}
use Rattle.run_ends.specs.Jobs.{Job, imageless}
use Rattle.run_ends.specs.declared.stop.Refusal.TheVariants.{Word}
use Rattle.salvage_job.specs.Salvaging.{salvage_job}
use Rattle.sample_job.specs.Sampling.{sample_job}
use Rattle.set_jobs.specs.Mapping.{map_job}
use Rattle.set_jobs.specs.Writing.{rebuild_job, write_job}
use Rattle.survey_job.specs.Surveying.{survey_job}

-- the job of each command. Words that are none are refused, whatever images there are
abbrev pub job_of : Result Command ℕ → Job
job_of (Err number) = imageless (Some (Word number)) None
job_of (Ok (Survey asked)) = survey_job asked
job_of (Ok (List from size span pages form names)) = list_job (record { from = from; size = size; span = span; pages = pages; form = form })
job_of (Ok (Check set names)) = check_job set
job_of (Ok (Map set sector end names)) = map_job set end sector
job_of (Ok (Write set end names)) = write_job set end
job_of (Ok (Rebuild set slot end names)) = rebuild_job set end slot
job_of (Ok (Sample number set rows xfs)) = sample_job number set rows xfs
job_of (Ok (Classes images end)) = classes_job images end
job_of (Ok (Mirrors layouts members chunks offsets missing foreign badrows window end from size span names)) = mirrors_job (record {
  layouts = layouts;
  members = members;
  chunks = chunks;
  offsets = offsets;
  missing = missing;
  foreign = foreign;
  badrows = badrows;
  window = window;
  end = end;
  from = from;
  size = size;
  span = span;
})
job_of (Ok (MirrorWrite set end names)) = mirrorwrite_job set end
job_of (Ok (Salvage set lost end names)) = salvage_job set lost end
job_of (Ok (Relations asked)) = relations_job asked
job_of (Ok Help) = help_job
job_of (Ok Version) = version_job
