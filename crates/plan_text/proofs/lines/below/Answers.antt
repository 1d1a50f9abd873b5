use Rattle.std.proofs.Common.{◌<◌, ◌^◌, decimal, sym, ◌∙◌}
use Rattle.value_text.specs.NameLaws.{in_lists, number_law}
use Rattle.value_text.proofs.Fits.{offsets_are_short}
use Rattle.value_text.proofs.Spellings.{same_list}
use Rattle.plan_text.proofs.lines.below.Goals as goal

pub returns-else-are_below : goal.returns-else-are_below
returns-else-are_below g c ns are e =
    let read = c.in_ok-sectors.ensures in
    let same = same_list decimal (λ n. n < 2 ^ 64) (in_lists decimal (λ n. n < 2 ^ 64) number_law) c.in_ok-sectors.sectors.items ns read.0.0.some are.0.0.some (offsets_are_short c.in_ok-sectors.sectors.items read.0.2) (offsets_are_short ns are.0.2) (sym read.1 ∙ e) in
    let holds = c.are_below.ensures.1 (rw (c.deref.ensures.0, same) are.1) in
    let fails = c.if-are_below.false in
    cc
