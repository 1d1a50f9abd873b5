use Rattle.std.proofs.Common.{◌≡◌, ◌*◌, ℕ, ap, ◌∙◌, arith}
use Rattle.sample_arrays.proofs.States.{all_words, state_moved, word_appended, words_front}
use Rattle.sample_arrays.proofs.words.random_sector.Goals as goal

pub loop-preserved : goal.loop-preserved
loop-preserved c =
    let so_far = c.loop.invariant in (
      word_appended c.args.number (64 * c.args.sector) c.loop.counter c.next.result c.loop.generator c.loop.bytes.items c.to_le_bytes.result c.append.new.sector.items
          so_far.0 so_far.2 c.next.ensures.word c.to_le_bytes.ensures c.append.ensures.items,
      (let before = so_far.1 in let grown = c.append.ensures.long in omega arith),
      state_moved c.args.number (64 * c.args.sector) c.loop.counter c.loop.generator c.next.new.generator so_far.2 c.next.ensures.rest,
    )

pub returns-clause-bytes : goal.returns-clause-bytes
returns-clause-bytes c =
    let end : c.loop.counter ≡ 64 = omega arith in
    c.loop.invariant.0 ∙ ap (λ (n : ℕ). words_front c.args.number (64 * c.args.sector) n) end ∙ all_words c.args.number c.args.sector
