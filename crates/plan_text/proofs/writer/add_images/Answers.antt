use Rattle.std.proofs.Common.{◌≡◌, ◌++◌, List, ℕ, map, take, length, ap, ◌∙◌, arith}
use Rattle.std.specs.List.{flat_map}
use Rattle.std.proofs.lemmas.List.{take_all}
use Rattle.value_text.specs.Spelling.{line}
use Rattle.plan_text.proofs.ImageLines.{images_line, length_line}
use Rattle.plan_text.proofs.Written.{one_and_more}
use Rattle.plan_text.proofs.writer.add_images.Goals as goal

pub returns : goal.returns
returns c =
    let lengths = c.args.lengths.now in
    let all : take c.loop-length.length-index lengths ≡ lengths = take_all c.loop-length.length-index lengths (omega (arith, c.loop-length-test.false)) in
    one_and_more c.args.text.now c.add_number_line.new.text c.loop-length.text (images_line (length lengths)) (map length_line lengths) c.in_ok-add_number_line.ensures
    (c.loop-length.invariant ∙ ap (λ (ls : List ℕ). c.add_number_line.new.text ++ flat_map line (map length_line ls)) all)
