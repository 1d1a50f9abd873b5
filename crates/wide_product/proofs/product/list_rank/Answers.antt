use Rattle.std.proofs.Common.{◌∙◌, ℕ, List, length, ap, ap₂, arith}
use Rattle.std.specs.List.{position}
use Rattle.wide_product.specs.Bases.{base_lists, same_bases}
use Rattle.wide_product.proofs.product.list_rank.Goals as goal

pub bases_rank-requires-clause-few : goal.bases_rank-requires-clause-few
bases_rank-requires-clause-few c =
    let same = ap₂ (λ (offsets bases : List ℕ). length (base_lists offsets (length bases))) c.deref.ensures.0 c.deref-2.ensures.0 in
    let each = ap (λ (n : ℕ). length (base_lists c.args.plan.now.bounds.offsets.items n)) c.requires.each in
    let few = c.requires.few in
    omega arith

pub returns : goal.returns
returns c =
    c.bases_rank.ensures
    ∙ ap₂ (λ (offsets bases : List ℕ). position (same_bases bases) (base_lists offsets (length bases))) c.deref.ensures.0 c.deref-2.ensures.0
    ∙ ap (λ (n : ℕ). position (same_bases c.args.set.now.bases.items) (base_lists c.args.plan.now.bounds.offsets.items n)) c.requires.each
