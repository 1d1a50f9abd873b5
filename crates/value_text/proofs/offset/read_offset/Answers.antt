use Rattle.std.proofs.Common.{sym, ◌∙◌, arith}
use Rattle.value_text.proofs.Spellings.{none_then}
use Rattle.value_text.proofs.Offsets.{are_bases, few_numbers, name_is, no_offset, numbers_fit, numbers_join, numbers_of, some_numbers}
use Rattle.value_text.proofs.offset.read_offset.Goals as goal
use Rattle.value_text.proofs.offset.read_offset.Goals.{else-len-eq1-via-then-len-eq1+else-greatest-lt-SECTORS_END, else-len-eq1-via-else-len-eq1, else-len-ne1-via-then-len-ne1+else-greatest-lt-BASES_END, else-len-ne1-via-else-len-ne1}

pub joined-requires : goal.joined-requires
joined-requires c = (omega arith, numbers_join)

pub returns-in_err-numbers : goal.returns-in_err-numbers
returns-in_err-numbers c =
    none_then _ _ c.from_residual.result c.from_residual.ensures
    (λ offset bases has e. c.in_err-numbers.ensures (numbers_of offset bases) (some_numbers offset bases) (few_numbers offset bases has) (numbers_fit offset bases has) (e ∙ name_is offset bases))

pub returns-then-greatest-lt-BASES_END : goal.returns-then-greatest-lt-BASES_END
returns-then-greatest-lt-BASES_END c =
    let length_is = c.len-else-len-eq1.ensures.value in
    let read = c.in_ok-numbers.ensures in
    let other = c.if-len-ne1.true in
    are_bases c.args.text.now c.in_ok-numbers.numbers.items c.greatest_of-greatest.result read.0 read.1 (λ e. other (length_is ∙ e)) (rw c.deref.ensures.0 at c.greatest_of-greatest.ensures) c.if-greatest-lt-BASES_END.true read.3

pub returns-else-len-ne1 : goal.returns-else-len-ne1
returns-else-len-ne1 c offset bases has e =
    let length_is = c.len.ensures.value in
    let again_is = c.len-else-len-eq1.ensures.value in
    let read = c.in_ok-numbers.ensures in
    no_offset c.in_ok-numbers.numbers.items c.greatest_of-greatest.result offset bases read.0 read.2 (rw c.deref.ensures.0 at c.greatest_of-greatest.ensures)
    (λ single. elim c.else-len-eq1.branch [ else-len-eq1-via-then-len-eq1+else-greatest-lt-SECTORS_END w ↦ w.if-greatest-lt-SECTORS_END.false | else-len-eq1-via-else-len-eq1 w ↦ absurd (w.if-len-eq1.false (length_is ∙ single)) ])
    (λ more. elim c.else-len-ne1.branch [ else-len-ne1-via-then-len-ne1+else-greatest-lt-BASES_END w ↦ w.if-greatest-lt-BASES_END.false | else-len-ne1-via-else-len-ne1 w ↦ absurd (more (sym again_is ∙ w.if-len-ne1.false)) ])
    has (sym read.3 ∙ e)
