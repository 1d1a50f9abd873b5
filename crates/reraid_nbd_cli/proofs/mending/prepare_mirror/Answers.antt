use Rattle.std.proofs.Common.{◌≡◌, ◌∙◌, None, Some, refl, sym}
use Rattle.run_ends.specs.Jobs.{named}
use Rattle.run_ends.specs.declared.stop.Refusal.TheVariants.{Images}
use Rattle.reraid_nbd_cli.proofs.Mended.{is_mendable, limits_are, unready_limits, unready_mirror, unready_text}
use Rattle.reraid_nbd_cli.proofs.mending.prepare_mirror.Goals as goal

pub returns-in-Some-clause-unready : goal.returns-in-Some-clause-unready
returns-in-Some-clause-unready g c =
    let given = named c.args.names (g.I.Images.seen c.args.images.now).attached in
    unready_limits c.args.set.now c.args.end given (g.M.Source.left c.args.maps.now) _ (limits_are c.args.end given (Some c.in-Some.fault) (sym c.limits_fault.ensures ∙ c.in-Some.is))

pub returns-in-Some-clause-early : goal.returns-in-Some-clause-early
returns-in-Some-clause-early g c refusal e =
    let given = named c.args.names (g.I.Images.seen c.args.images.now).attached in
    let is : Some (Images c.in-Some.fault) ≡ Some refusal = sym (limits_are c.args.end given (Some c.in-Some.fault) (sym c.limits_fault.ensures ∙ c.in-Some.is)) ∙ e in
    (cc, refl)

pub returns-in-Ok-mirrored_end-clause-ready : goal.returns-in-Ok-mirrored_end-clause-ready
returns-in-Ok-mirrored_end-clause-ready g c =
    let attached = (g.I.Images.seen c.args.images.now).attached in
    let given = named c.args.names attached in
    let limits = sym c.limits_fault.ensures ∙ c.in_default.is in
    let left = g.M.Source.left c.args.maps.now in
    is_mendable c.args.set.now c.args.end given left (record { end = c.in-Ok-mirrored_end.end; rescue = c.in-Ok.rescue }) (limits_are c.args.end given None limits)
    c.in-Ok.ensures.read c.in-Ok-mirrored_end.ensures.allowed c.in-Ok-mirrored_end.ensures.end c.in-Ok-mirrored_end.ensures.mirrored

pub returns-in-Ok-mirrored_end-clause-early : goal.returns-in-Ok-mirrored_end-clause-early
returns-in-Ok-mirrored_end-clause-early g c refusal e =
    let given = named c.args.names (g.I.Images.seen c.args.images.now).attached in
    let none : None ≡ Some refusal = sym (limits_are c.args.end given None (sym c.limits_fault.ensures ∙ c.in_default.is)) ∙ e in
    absurd (cc)

pub returns-in-Err-mirrored_end-clause-unready : goal.returns-in-Err-mirrored_end-clause-unready
returns-in-Err-mirrored_end-clause-unready g c =
    let attached = (g.I.Images.seen c.args.images.now).attached in
    let given = named c.args.names attached in
    let limits = sym c.limits_fault.ensures ∙ c.in_default.is in
    let left = g.M.Source.left c.args.maps.now in
    unready_mirror c.args.set.now c.args.end given left c.in-Ok.rescue (Some c.in-Err-mirrored_end.refusal) (limits_are c.args.end given None limits)
    c.in-Ok.ensures.read c.in-Err-mirrored_end.ensures.refused

pub returns-in-Err-mirrored_end-clause-early : goal.returns-in-Err-mirrored_end-clause-early
returns-in-Err-mirrored_end-clause-early g c refusal e =
    let given = named c.args.names (g.I.Images.seen c.args.images.now).attached in
    let none : None ≡ Some refusal = sym (limits_are c.args.end given None (sym c.limits_fault.ensures ∙ c.in_default.is)) ∙ e in
    absurd (cc)

pub returns-in-Err-clause-unready : goal.returns-in-Err-clause-unready
returns-in-Err-clause-unready g c =
    let attached = (g.I.Images.seen c.args.images.now).attached in
    let given = named c.args.names attached in
    let limits = sym c.limits_fault.ensures ∙ c.in_default.is in
    let left = g.M.Source.left c.args.maps.now in
    unready_text c.args.set.now c.args.end given left c.in-Err.stop (limits_are c.args.end given None limits) c.in-Err.ensures.unread

pub returns-in-Err-clause-early : goal.returns-in-Err-clause-early
returns-in-Err-clause-early g c refusal e =
    let given = named c.args.names (g.I.Images.seen c.args.images.now).attached in
    let none : None ≡ Some refusal = sym (limits_are c.args.end given None (sym c.limits_fault.ensures ∙ c.in_default.is)) ∙ e in
    absurd (cc)
