use Rattle.std.proofs.Common.{◌∙◌, Some, ap, sym}
use Rattle.raid_params.specs.declared.wide.Wide.{Wide}
use Rattle.command_words.specs.Commands.{set_in}
use Rattle.command_words.specs.declared.values.Value.{Value}
use Rattle.command_words.proofs.Copies.{copied}
use Rattle.command_words.proofs.building.set.Goals as goal

pub returns-in-Some-Set : goal.returns-in-Some-Set
returns-in-Some-Set c =
    ap (λ (w : Wide). Some w) (copied c.in-Some-Set.set c.list_of.result c.list_of-in-Some-Set.result _ (c.list_of.ensures ∙ c.deref.ensures.0) (c.list_of-in-Some-Set.ensures ∙ c.deref-in-Some-Set.ensures.0))
    ∙ sym (ap set_in c.in-Some-Set.ensures ∙ ap (λ (v : Value). set_in (Some v)) c.in-Some-Set.field-0-is)
