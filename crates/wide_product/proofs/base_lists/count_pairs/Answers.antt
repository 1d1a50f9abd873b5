use Rattle.std.proofs.Common.{◌^◌, min, ℕ, ap, ◌∙◌}
use Rattle.wide_product.proofs.Counts.{product_stops}
use Rattle.wide_product.proofs.base_lists.count_pairs.Goals as goal

pub returns : goal.returns
returns c = λ n m e f. c.min.ensures ∙ ap (λ (k : ℕ). min k (2 ^ 64)) c.saturating_mul.ensures ∙ product_stops c.args.firsts c.args.seconds n m e f
