use Rattle.std.proofs.Common.{◌≡◌, ◌∙◌, ◌≤◌, IfSome, ap, arith, refl, subst, rules}
use Rattle.std.proofs.lemmas.Option.{IfSome_then}
use Rattle.block_device.specs.Reading.{Answers, counts_of}
use Rattle.damaged_device.specs.Cost.{damaged_cost}
use Rattle.damaged_device.specs.Lengths.{salvaged_told}
use Rattle.nbd_server.specs.Served.{Serves}
use Rattle.nbd_server.specs.Turns.{wire}
use Rattle.nbd_text.specs.Dialogue.{dialogue}
use Rattle.outside.specs.Attached.{told_all}
use Rattle.run_ends.specs.Jobs.{stream}
use Rattle.virtual_volume.proofs.Sets.{served_head}
use Rattle.raid_params.specs.Size.{volume_sectors}
use Rattle.rescue_map.specs.declared.damaged.Damage.{Damage}
use Rattle.reraid_nbd_cli.specs.Runs.{costing}
use Rattle.reraid_nbd_cli.proofs.Counted.{serves_counted}
use Rattle.reraid_nbd_cli.proofs.Served.{shown_served}
use Rattle.reraid_nbd_cli.proofs.mapping.show_damage.Goals as goal

pub returns : goal.returns
returns g c =
    let device = c.new-device.result in
    let served = c.serve.new.device in
    let damage = c.args.damage.now in
    let old = g.I.Images.seen c.args.images.now in
    let new = g.I.Images.seen served.images.now in
    let source = stream (g.S.Source.left c.args.source.now) (g.S.Source.faults c.args.source.now) in
    let taken = stream (g.S.Source.left c.serve.new.source) (g.S.Source.faults c.serve.new.source) in
    let out = stream (g.K.Sink.gained c.args.out.now) (g.K.Sink.faults c.args.out.now) in
    let put = stream (g.K.Sink.gained c.serve.new.out) (g.K.Sink.faults c.serve.new.out) in
    let within = c.new-device.ensures.within in
    let fixed = c.serve.ensures.fixed in
    let kept : served.images.ghost_name ≡ device.images.ghost_name = ap (λ f. f.reference) fixed in
    let counted = IfSome_then (salvaged_told (told_all (g.I.Images.seen device.images.now).attached) device.damage.now.rescue.now device.damage.now.set.now device.damage.now.end) c.serve.ensures.serves (λ bytes serves.
    serves_counted (dialogue bytes) (wire source.known out.known device) (wire taken.known put.known served) c.serve.result serves (λ d. counts_of (g.I.Images.seen d.images.now)) (λ d. d.damage.now ≡ device.damage.now) (damaged_cost device.damage.now.rescue.now device.damage.now.set.now)
    (λ before after asked failed stays read. (subst (λ (q : Damage). Answers (damaged_cost q.rescue.now q.set.now asked) failed (counts_of (g.I.Images.seen before.images.now)) (counts_of (g.I.Images.seen after.images.now))) stays read.0, read.1 ∙ stays)) refl) in
    let here = subst (λ v. IfSome (salvaged_told (told_all (g.I.Images.seen v).attached) damage.rescue.now damage.set.now damage.end) (λ bytes. Serves (costing (damaged_cost damage.rescue.now damage.set.now)) (dialogue bytes) (wire source.known out.known (counts_of (g.I.Images.seen v))) (wire taken.known put.known (counts_of new)) c.serve.result)) within
    (subst (λ (q : Damage). IfSome (salvaged_told (told_all (g.I.Images.seen device.images.now).attached) q.rescue.now q.set.now q.end) (λ bytes. Serves (costing (damaged_cost q.rescue.now q.set.now)) (dialogue bytes) (wire source.known out.known (counts_of (g.I.Images.seen device.images.now))) (wire taken.known put.known (counts_of new)) c.serve.result)) c.new-device.ensures.damage counted) in
    let later : old.faults ≤ new.faults = subst (λ v. (g.I.Images.seen v).faults ≤ new.faults) within c.serve.ensures.later in
    let done = shown_served (volume_sectors damage.set.now.geo.head damage.end) (salvaged_told (told_all old.attached) damage.rescue.now damage.set.now damage.end) (damaged_cost damage.rescue.now damage.set.now) old new source taken out put c.serve.result (omega (arith, c.volume_sectors-sectors.ensures)) here
    (ap (λ f. f.world) fixed ∙ ap (λ v. (g.I.Images.seen v).world) within) (ap (λ f. f.attached) fixed ∙ ap (λ v. (g.I.Images.seen v).attached) within) later c.serve.ensures.source c.serve.ensures.sink in
    rw c.ended.ensures (search rules)

pub volume_sectors-sectors-requires-clause-head : goal.volume_sectors-sectors-requires-clause-head
volume_sectors-sectors-requires-clause-head g c = served_head c.args.damage.now.set.now.geo c.args.damage.now.end (g.I.Images.seen c.args.images.now).attached c.requires
