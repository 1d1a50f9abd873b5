use Rattle.std.proofs.Common.{Some, ap, sym, ◌∙◌}
use Rattle.raid_params.specs.declared.wide.WideFault.{WideFault}
use Rattle.raid_params.specs.declared.wide.WideFault.TheVariants.{Geo}
use Rattle.set_jobs.proofs.SetRefusals.{by_late}
use Rattle.set_jobs.proofs.mapping.late_fault.Goals as goal

pub returns-in-Err-Geo : goal.returns-in-Err-Geo
returns-in-Err-Geo c =
    sym (by_late c.args.set.now c.args.images c.args.end (Some (Geo c.in-Err-Geo.fault)) c.requires (c.in-Err-Geo.ensures ∙ ap (λ (fault : WideFault). Some fault) c.in-Err-Geo.field-0-is))
