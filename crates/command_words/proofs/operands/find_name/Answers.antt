use Rattle.std.proofs.Common.{◌≢◌, get_or, arith, ◌∙◌}
use Rattle.std.proofs.lemmas.List.Elements.{All-more}
use Rattle.command_words.specs.Operands.{name_text}
use Rattle.command_words.specs.declared.table.Name.TheVariants.{Levels}
use Rattle.command_words.proofs.NameTexts.{is_other}
use Rattle.command_words.proofs.operands.find_name.Goals as goal

pub loop-name-preserved : goal.loop-name-preserved
loop-name-preserved c = (
  c.loop-name.invariant.0,
  All-more (λ name. c.args.text.now ≢ name_text name) c.operands-name-items.result.now c.loop-name.name-index Levels (omega (arith, c.loop-name-test.true)) c.loop-name.invariant.1
      (is_other (name_text (get_or c.operands-name-items.result.now c.loop-name.name-index Levels)) c.args.text.now c.as_bytes.result.now c.eq.result (c.as_bytes.ensures.value ∙ c.text.ensures) c.eq.ensures c.if-eq.false),
)
