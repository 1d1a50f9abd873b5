use Rattle.std.proofs.Common.{◌≡◌, ℕ, Option, Some, List, [], ◌∷◌, ◌++◌, length, ap, arith, ◌∙◌}
use Rattle.row_samples.proofs.Ordered.{order_length, order_more}
use Rattle.row_samples.proofs.reading.all_images.Goals as goal

pub push-requires : goal.push-requires
push-requires c = let long : length c.loop-image.slots.items ≡ c.loop-image.image = ap length c.loop-image.invariant ∙ order_length c.loop-image.image in (omega arith, omega arith)

pub loop-image-preserved : goal.loop-image-preserved
loop-image-preserved c = c.push.ensures.items ∙ ap (λ (l : List (Option ℕ)). l ++ Some c.loop-image.image ∷ []) c.loop-image.invariant ∙ order_more c.loop-image.image
