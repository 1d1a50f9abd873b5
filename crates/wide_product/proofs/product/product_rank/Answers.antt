use Rattle.std.proofs.Common.{rules, ◌≡◌, ◌∙◌, ◌==◌, ℕ, List, true, false, length, sym, ap, arith}
use Rattle.std.proofs.lemmas.Bool.{eqb-true}
use Rattle.std.proofs.lemmas.List.{nil_from_length}
use Rattle.wide_product.proofs.Products.{not_common, common_rank, common_total}
use Rattle.wide_product.specs.Sets.{based}
use Rattle.wide_product.proofs.product.product_rank.Goals as goal

pub returns-then-not-is_empty : goal.returns-then-not-is_empty
returns-then-not-is_empty c =
    sym (not_common c.args.plan.now (based c.args.set.now) c.if-plan.false
    (λ none. let bad : true ≡ false = sym (ap (λ (l : List ℕ). length l == 0) none) ∙ sym c.if-not-is_empty.ensures in absurd (search rules)))

pub product_rank-requires-clause-few : goal.product_rank-requires-clause-few
product_rank-requires-clause-few c = let same = common_total c.args.plan.now c.if-plan.false in let few = c.requires.few in omega arith

pub returns : goal.returns
returns c = c.product_rank.ensures ∙ common_rank c.args.plan.now (based c.args.set.now) c.if-plan.false (nil_from_length c.args.set.now.bases.items (eqb-true (length c.args.set.now.bases.items) 0 (sym c.if-not-is_empty.ensures)))
