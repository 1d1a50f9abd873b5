use Rattle.value_text.proofs.Spellings.{none_then}
use Rattle.command_words.proofs.Spelled.{another_name, another_value, name_and_value, without_equals}
use Rattle.command_words.proofs.operands.read_operand.Goals as goal

pub returns-in_err-text : goal.returns-in_err-text
returns-in_err-text c = none_then _ _ c.from_residual.result c.from_residual.ensures (without_equals c.args.verb c.args.word.now c.in_err-text.ensures)

pub returns-in_err-name : goal.returns-in_err-name
returns-in_err-name c =
    none_then _ _ c.from_residual-in_err-name.result c.from_residual-in_err-name.ensures
    (another_name c.args.verb c.args.word.now c.in_ok-text.text.now c.in_ok-text.value_text.now c.in_ok-text.ensures.0 c.in_ok-text.ensures.1 c.in_err-name.ensures)

pub returns-in_err-value : goal.returns-in_err-value
returns-in_err-value c =
    none_then _ _ c.from_residual-in_err-value.result c.from_residual-in_err-value.ensures
    (another_value c.args.verb c.args.word.now c.in_ok-text.text.now c.in_ok-text.value_text.now c.in_ok-name.name c.kind.result c.in_ok-text.ensures.0 c.in_ok-text.ensures.1 c.in_ok-name.ensures.1 c.kind.ensures c.in_err-value.ensures)

pub returns : goal.returns
returns c =
    name_and_value c.args.verb c.args.word.now c.in_ok-text.text.now c.in_ok-text.value_text.now c.in_ok-name.name c.kind.result c.in_ok-value.value c.in_ok-text.ensures.1 c.in_ok-name.ensures.0 c.in_ok-name.ensures.1 c.kind.ensures c.in_ok-value.ensures
