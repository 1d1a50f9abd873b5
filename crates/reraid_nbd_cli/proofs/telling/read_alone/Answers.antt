use Rattle.std.proofs.Common.{◌∙◌, sym}
use Rattle.reraid_nbd_cli.proofs.OneWord.{asks_nothing}
use Rattle.reraid_nbd_cli.proofs.telling.read_alone.Goals as goal

pub returns-in_default : goal.returns-in_default
returns-in_default c =
    asks_nothing c.args.words.now c.in_ok-first.rest.now c.in_ok-first.first.now c.as_str.result.now c.in_ok-first.ensures.cases.0 (sym c.is_empty.ensures ∙ c.if-not-is_empty.false) c.as_str.ensures c.in_default.not-text c.in_default.not-text-2
