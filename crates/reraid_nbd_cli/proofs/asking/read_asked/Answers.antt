use Rattle.std.proofs.Common.{ℕ, ◌-◌, ap, inl, inr, refl, codes}
use Rattle.reraid_nbd_cli.proofs.Asked.{mirrorwrite_puts, named_behind, write_puts}
use Rattle.reraid_nbd_cli.proofs.asking.read_asked.Goals as goal

pub returns-in-Ok-clause-asks : goal.returns-in-Ok-clause-asks
returns-in-Ok-clause-asks c = inl c.in-Ok.ensures.reads

pub returns-in-Ok-clause-volume : goal.returns-in-Ok-clause-volume
returns-in-Ok-clause-volume c = write_puts c.args.words.now c.in-Ok.command c.in-Ok.ensures.reads

pub returns-in-Ok-clause-named : goal.returns-in-Ok-clause-named
returns-in-Ok-clause-named c =
    named_behind (codes "write") c.args.words.now c.in-Ok.command refl c.in-Ok.ensures.names

pub returns-in-Ok-read_words_after-clause-asks : goal.returns-in-Ok-read_words_after-clause-asks
returns-in-Ok-read_words_after-clause-asks c = inr (c.in-Err.number, c.in-Err.ensures.reads, c.in-Ok-read_words_after.ensures.reads)

pub returns-in-Ok-read_words_after-clause-volume : goal.returns-in-Ok-read_words_after-clause-volume
returns-in-Ok-read_words_after-clause-volume c = mirrorwrite_puts c.args.words.now c.in-Ok-read_words_after.command c.in-Ok-read_words_after.ensures.reads

pub returns-in-Ok-read_words_after-clause-named : goal.returns-in-Ok-read_words_after-clause-named
returns-in-Ok-read_words_after-clause-named c =
    named_behind (codes "mirrorwrite") c.args.words.now c.in-Ok-read_words_after.command refl c.in-Ok-read_words_after.ensures.names

pub returns-in-Err-read_words_after-clause-asks : goal.returns-in-Err-read_words_after-clause-asks
returns-in-Err-read_words_after-clause-asks c = (c.in-Err.number, c.in-Err-read_words_after.other, c.in-Err.ensures.reads, c.in-Err-read_words_after.ensures.reads, ap (λ (n : ℕ). n - 1) c.max.ensures)
