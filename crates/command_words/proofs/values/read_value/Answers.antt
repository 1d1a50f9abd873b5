use Rattle.std.proofs.Common.{refl, sym, subst}
use Rattle.command_words.specs.Operands.{IsValueOf}
use Rattle.command_words.specs.declared.table.ValueKind.{ValueKind}
use Rattle.command_words.specs.declared.values.Value.TheVariants.{Set}
use Rattle.command_words.proofs.values.read_value.Goals as goal

pub returns-in_ok-read_set-in-Set : goal.returns-in_ok-read_set-in-Set
returns-in_ok-read_set-in-Set c =
    let set = c.in_ok-read_set-in-Set.field-0 in (
      subst (λ (kind : ValueKind). IsValueOf (Set set) kind) (sym c.in-Set.is) (set, refl, c.in_ok-read_set-in-Set.ensures.0),
      c.in_ok-read_set-in-Set.ensures.1,
    )
