use Rattle.std.proofs.Common.{◌∙◌, sym}
use Rattle.command_words.proofs.Refusals.{no_command, no_words, not_alone_then}
use Rattle.command_words.proofs.reading.read_line.Goals as goal

pub returns-in_default : goal.returns-in_default
returns-in_default c = no_words c.args.words.now c.in_default.ensures.cases

pub returns-else-is_empty : goal.returns-else-is_empty
returns-else-is_empty c =
    not_alone_then c.args.words.now c.in-Some.first.now c.in-Some.rest.now c.in-Some-read_alone.command c.in-Some.ensures.cases.0 (sym c.is_empty.ensures ∙ c.if-is_empty.false) c.in-Some-read_alone.ensures

pub returns-in_default-read_verb : goal.returns-in_default-read_verb
returns-in_default-read_verb c =
    no_command c.args.words.now c.in-Some.first.now c.in-Some.rest.now c.in-Some.ensures.cases.0 c.in_default-read_alone.ensures c.in_default-read_verb.ensures
