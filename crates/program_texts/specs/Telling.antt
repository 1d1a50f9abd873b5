-- The jobs of `--help` and `--version`.
use Rattle.std.specs.declared.option.Option.TheVariants.{None, Some}
use Rattle.run_ends.specs.Jobs.{Job, imageless}
use Rattle.program_texts.specs.Texts.{help_text, version_text}

-- `--help` refuses nothing, and prints how the program is used
abbrev pub help_job : Job
help_job = imageless None (Some help_text)

-- `--version` refuses nothing, and prints the version
abbrev pub version_job : Job
version_job = imageless None (Some version_text)
