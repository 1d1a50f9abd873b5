use Rattle.std.proofs.Common.{ℕ, get_or, refl, sym, ◌∙◌}
use Rattle.std.proofs.lemmas.Bool.{false≢true}
use Rattle.relation_prefix.proofs.Wholes.{foreign_agree, held_agree}
use Rattle.relation_prefix.proofs.whole.whole_fits.Goals as goal

pub returns-then-slots_fit : goal.returns-then-slots_fit
returns-then-slots_fit c =
    let values = λ (t : ℕ). get_or c.values_at-values.result t 0 in (
      λ good. (values, record { bytes = c.values_at-values.ensures.bytes; held = c.slots_fit.ensures.0 c.if-slots_fit.true; foreign = λ whole. c.foreign_fit.ensures.0 good }),
      λ v. c.foreign_fit.ensures.1 (foreign_agree c.args.ties.now v.0 values c.args.slots.now c.requires.ties (c.values_at-values.ensures.values v.0 v.1) (v.1.foreign refl)),
    )

pub returns-else-slots_fit : goal.returns-else-slots_fit
returns-else-slots_fit c =
    let values = λ (t : ℕ). get_or c.values_at-values.result t 0 in (
      λ good. absurd (false≢true (sym c.if-slots_fit.false ∙ good)),
      λ v. c.slots_fit.ensures.1 (held_agree c.args.ties.now v.0 values c.args.weights.now c.args.slots.now c.requires.ties c.requires.slots (c.values_at-values.ensures.values v.0 v.1) v.1.held),
    )
