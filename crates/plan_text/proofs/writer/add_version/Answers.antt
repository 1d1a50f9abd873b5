use Rattle.std.proofs.Common.{◌++◌, ◌∙◌, ℕ, ap, codes, decimal}
use Rattle.value_text.specs.Spelling.{line}
use Rattle.plan_text.proofs.Written.{with_mode, without_mode}
use Rattle.plan_text.proofs.writer.add_version.Goals as goal

pub returns-in_ok-add_mode : goal.returns-in_ok-add_mode
returns-in_ok-add_mode c =
    with_mode c.args.text.now c.add_number_line.new.text c.add_mode.new.text c.args.version.each c.args.version.third c.if-version.true
    (c.in_ok-add_number_line.ensures ∙ ap (λ (n : ℕ). c.args.text.now ++ line (codes "reraid-plan " ++ decimal n)) c.version_number.ensures) c.in_ok-add_mode.ensures

pub returns-else-version : goal.returns-else-version
returns-else-version c =
    without_mode c.args.text.now c.add_number_line.new.text c.args.version.each c.args.version.third c.if-version.false
    (c.in_ok-add_number_line.ensures ∙ ap (λ (n : ℕ). c.args.text.now ++ line (codes "reraid-plan " ++ decimal n)) c.version_number.ensures)
