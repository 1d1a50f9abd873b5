use Rattle.std.proofs.Common.{ℕ, sym, ap, ◌∙◌}
use Rattle.raid_params.specs.Validity.{early_fault}
use Rattle.set_jobs.proofs.SetRefusals.{rule_refused}
use Rattle.set_jobs.proofs.mapping.allowed_end.Goals as goal

pub returns-in-Err-clause-refused : goal.returns-in-Err-clause-refused
returns-in-Err-clause-refused g c =
    rule_refused c.args.set.now c.args.end c.args.names (g.I.Images.seen c.args.images.now).attached c.in-Err.fault c.in_ok-end.ensures.allowed
    (ap (λ (n : ℕ). early_fault c.args.set.now.geo c.args.names n) (sym c.in_ok-end.ensures.end) ∙ c.in-Err.ensures)
