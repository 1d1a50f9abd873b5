use Rattle.std.proofs.Common.{◌∙◌, ap, ℕ}
use Rattle.raid_layouts.proofs.Powers.{data_off_p, data_off_q}
use Rattle.raid_terms.specs.Role.{double_p, double_q}
use Rattle.raid_layouts.proofs.exponents.exponent.Goals as goal

pub number_after_q-requires-clause-not_q : goal.number_after_q-requires-clause-not_q
number_after_q-requires-clause-not_q c =
    λ e. data_off_q c.args.head.now c.args.row c.args.slot c.requires.head c.requires.level c.requires.holds
    (e ∙ c.double_q-q.ensures ∙ ap (λ (t : ℕ). double_q c.args.head.now.pattern c.args.head.now.members t) c.turn-turn.ensures)

pub number_after_q-requires-clause-not_p : goal.number_after_q-requires-clause-not_p
number_after_q-requires-clause-not_p c =
    λ e. data_off_p c.args.head.now c.args.row c.args.slot c.requires.head c.requires.level c.requires.holds
    (e ∙ c.double_p-p.ensures ∙ ap (λ (t : ℕ). double_p c.args.head.now.pattern c.args.head.now.members t) c.turn-turn.ensures)
