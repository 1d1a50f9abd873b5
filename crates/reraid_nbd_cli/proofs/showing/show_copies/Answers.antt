use Rattle.std.proofs.Common.{◌≡◌, ◌∙◌, ℕ, ◌≤◌, IfSome, ap, subst, arith, rules}
use Rattle.std.proofs.lemmas.Option.{IfSome_then}
use Rattle.block_device.specs.Reading.{counts_of}
use Rattle.nbd_server.specs.Served.{Serves}
use Rattle.nbd_server.specs.Turns.{wire}
use Rattle.nbd_text.specs.Dialogue.{dialogue}
use Rattle.outside.specs.Attached.{told_all}
use Rattle.run_ends.specs.Jobs.{stream}
use Rattle.near_mirror.specs.Copies.{near_sectors}
use Rattle.volume_device.specs.Lengths.{mirror_told}
use Rattle.reraid_nbd_cli.specs.Runs.{costing, mirror_cost}
use Rattle.reraid_nbd_cli.proofs.Counted.{serves_counted}
use Rattle.reraid_nbd_cli.proofs.Served.{shown_served}
use Rattle.reraid_nbd_cli.proofs.showing.show_copies.Goals as goal

pub returns : goal.returns
returns g c =
    let device = c.new-device.result in
    let served = c.serve.new.device in
    let set = c.args.set.now in
    let old = g.I.Images.seen c.args.images.now in
    let new = g.I.Images.seen served.images.now in
    let source = stream (g.S.Source.left c.args.source.now) (g.S.Source.faults c.args.source.now) in
    let taken = stream (g.S.Source.left c.serve.new.source) (g.S.Source.faults c.serve.new.source) in
    let out = stream (g.K.Sink.gained c.args.out.now) (g.K.Sink.faults c.args.out.now) in
    let put = stream (g.K.Sink.gained c.serve.new.out) (g.K.Sink.faults c.serve.new.out) in
    let within = c.new-device.ensures.within in
    let volume = c.new-device.ensures.volume in
    let fixed = c.serve.ensures.fixed in
    let kept : served.images.ghost_name ≡ device.images.ghost_name = ap (λ f. f.reference) fixed in
    let counted = IfSome_then (mirror_told (told_all (g.I.Images.seen device.images.now).attached) device.set.now device.end) c.serve.ensures.serves (λ bytes serves.
    serves_counted (dialogue bytes) (wire source.known out.known device) (wire taken.known put.known served) c.serve.result serves (λ d. counts_of (g.I.Images.seen d.images.now)) (λ d. Unit {0}) mirror_cost
    (λ before after asked failed stays read. (read, tt)) tt) in
    let here = subst (λ v. IfSome (mirror_told (told_all (g.I.Images.seen v).attached) set c.args.end) (λ bytes. Serves (costing mirror_cost) (dialogue bytes) (wire source.known out.known (counts_of (g.I.Images.seen v))) (wire taken.known put.known (counts_of new)) c.serve.result)) within
    (subst (λ (e : ℕ). IfSome (mirror_told (told_all (g.I.Images.seen device.images.now).attached) set e) (λ bytes. Serves (costing mirror_cost) (dialogue bytes) (wire source.known out.known (counts_of (g.I.Images.seen device.images.now))) (wire taken.known put.known (counts_of new)) c.serve.result)) volume.1
    (subst (λ q. IfSome (mirror_told (told_all (g.I.Images.seen device.images.now).attached) q device.end) (λ bytes. Serves (costing mirror_cost) (dialogue bytes) (wire source.known out.known (counts_of (g.I.Images.seen device.images.now))) (wire taken.known put.known (counts_of new)) c.serve.result)) volume.0 counted)) in
    let later : old.faults ≤ new.faults = subst (λ v. (g.I.Images.seen v).faults ≤ new.faults) within c.serve.ensures.later in
    let done = shown_served (near_sectors set.head c.args.end) (mirror_told (told_all old.attached) set c.args.end) mirror_cost old new source taken out put c.serve.result (omega (arith, c.sectors-sectors.ensures, ap (λ s. near_sectors s.head c.args.end) volume.0, ap (λ (e : ℕ). near_sectors device.set.now.head e) volume.1)) here
    (ap (λ f. f.world) fixed ∙ ap (λ v. (g.I.Images.seen v).world) within) (ap (λ f. f.attached) fixed ∙ ap (λ v. (g.I.Images.seen v).attached) within) later c.serve.ensures.source c.serve.ensures.sink in
    rw c.ended.ensures (search rules)
