use Rattle.std.proofs.Common.{◌≡◌, ◌-◌, ℕ, length, drop, take, ap, ◌∙◌, arith}
use Rattle.std.proofs.lemmas.Grind.{common_steps}
use Rattle.rescue_text.proofs.FirstWords.{past_word_is_left}
use Rattle.rescue_text.proofs.words.split_word.Goals as goal

pub returns-clause-rest : goal.returns-clause-rest
returns-clause-rest c =
    let end = c.word_length-end.result in
    let text = c.args.text.now in
    let whole : take (length text - end) (drop end text) ≡ drop end text = grind (arith, common_steps) in
    whole ∙ ap (λ (n : ℕ). drop n text) c.word_length-end.ensures ∙ past_word_is_left text
