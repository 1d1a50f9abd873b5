use Rattle.std.proofs.Common.{IsTrue, sym, ◌∙◌}
use Rattle.command_words.specs.Operands.{layout_place}
use Rattle.near_mirror.specs.Heads.{are_copies}
use Rattle.near_mirror.specs.NameLaws.{layout_law}
use Rattle.near_mirror.specs.Words.{layout_name}
use Rattle.near_mirror.specs.declared.types.CopyLayout.{CopyLayout}
use Rattle.value_text.specs.NameLaws.{in_lists}
use Rattle.value_text.proofs.Spellings.{none_then, same_list}
use Rattle.value_text.proofs.Lists.{some_value, rising_values}
use Rattle.command_words.proofs.layouts.read_layouts.Goals as goal

pub returns-in_err-layouts : goal.returns-in_err-layouts
returns-in_err-layouts c =
    none_then _ _ c.from_residual.result c.from_residual.ensures (λ xs is e. c.in_err-layouts.ensures xs (some_value layout_place xs is.list.rising) is.list.few is.all e)

pub returns-then-rise : goal.returns-then-rise
returns-then-rise c =
    let up = rw c.deref.ensures.0 at (c.rise.ensures.0 c.if-rise.true) in
    (record { list = record { rising = rising_values layout_place c.in_ok-layouts.layouts.items c.in_ok-layouts.ensures.0 up; few = c.in_ok-layouts.ensures.1 }; all = c.in_ok-layouts.ensures.2 }, c.in_ok-layouts.ensures.3)

pub returns-else-rise : goal.returns-else-rise
returns-else-rise c xs is e =
    let Has : CopyLayout → Type 0 = λ layout. IsTrue (are_copies layout.copies) in
    let same = same_list layout_name Has (in_lists layout_name Has layout_law) c.in_ok-layouts.layouts.items xs c.in_ok-layouts.ensures.0 (some_value layout_place xs is.list.rising) c.in_ok-layouts.ensures.2 is.all (sym c.in_ok-layouts.ensures.3 ∙ e) in
    let holds = c.rise.ensures.1 (rw (c.deref.ensures.0, same) is.list.rising.rising) in
    let fails = c.if-rise.false in
    cc
