use Rattle.std.proofs.Common.{◌≡◌, ◌+◌, ◌*◌, length}
use Rattle.sample_arrays.proofs.States.{words_front}
use Rattle.sample_arrays.specs.Words.{answers, state_after}
use Rattle.sample_arrays.proofs.words.random_sector.Given as goal

abbrev pub invariant-loop : goal.invariant-loop
invariant-loop l =
    (l.bytes.items ≡ words_front l.number (64 * l.sector) l.counter)
    × (length l.bytes.items ≡ 8 * l.counter)
    × (answers l.generator ≡ answers (state_after (64 * l.sector + l.counter) l.number))
