use Rattle.std.proofs.Common.{◌≡◌, ◌∙◌, ◌≤◌, IfSome, ap, arith, refl, subst, rules}
use Rattle.std.proofs.lemmas.Option.{IfSome_then}
use Rattle.block_device.specs.Reading.{Answers, counts_of}
use Rattle.damaged_mirror.specs.Damaged.{mended_cost}
use Rattle.damaged_mirror.specs.Lengths.{mended_told}
use Rattle.damaged_mirror.specs.declared.good.MirrorDamage.{MirrorDamage}
use Rattle.near_mirror.specs.Copies.{near_sectors}
use Rattle.nbd_server.specs.Served.{Serves}
use Rattle.nbd_server.specs.Turns.{wire}
use Rattle.nbd_text.specs.Dialogue.{dialogue}
use Rattle.outside.specs.Attached.{told_all}
use Rattle.run_ends.specs.Jobs.{stream}
use Rattle.reraid_nbd_cli.specs.Runs.{costing}
use Rattle.reraid_nbd_cli.proofs.Counted.{serves_counted}
use Rattle.reraid_nbd_cli.proofs.Served.{shown_served}
use Rattle.reraid_nbd_cli.proofs.mending.show_good_copies.Goals as goal

pub returns : goal.returns
returns g c =
    let device = c.new-device.result in
    let served = c.serve.new.device in
    let damage = c.args.damage.now in
    let old = g.I.Images.seen c.args.images.now in
    let new = g.I.Images.seen served.images.now in
    let source = stream (g.S.Source.left c.args.source.now) (g.S.Source.faults c.args.source.now) in
    let taken = stream (g.S.Source.left c.serve.new.source) (g.S.Source.faults c.serve.new.source) in
    let out = stream (g.K.Sink.gained c.args.out.now) (g.K.Sink.faults c.args.out.now) in
    let put = stream (g.K.Sink.gained c.serve.new.out) (g.K.Sink.faults c.serve.new.out) in
    let within = c.new-device.ensures.within in
    let fixed = c.serve.ensures.fixed in
    let kept : served.images.ghost_name ≡ device.images.ghost_name = ap (λ f. f.reference) fixed in
    let counted = IfSome_then (mended_told (told_all (g.I.Images.seen device.images.now).attached) device.damage.now.rescue.now device.damage.now.set.now device.damage.now.end) c.serve.ensures.serves (λ bytes serves.
    serves_counted (dialogue bytes) (wire source.known out.known device) (wire taken.known put.known served) c.serve.result serves (λ d. counts_of (g.I.Images.seen d.images.now)) (λ d. d.damage.now ≡ device.damage.now) (mended_cost device.damage.now.rescue.now device.damage.now.set.now device.damage.now.end)
    (λ before after asked failed stays read. (subst (λ (q : MirrorDamage). Answers (mended_cost q.rescue.now q.set.now q.end asked) failed (counts_of (g.I.Images.seen before.images.now)) (counts_of (g.I.Images.seen after.images.now))) stays read.0, read.1 ∙ stays)) refl) in
    let here = subst (λ v. IfSome (mended_told (told_all (g.I.Images.seen v).attached) damage.rescue.now damage.set.now damage.end) (λ bytes. Serves (costing (mended_cost damage.rescue.now damage.set.now damage.end)) (dialogue bytes) (wire source.known out.known (counts_of (g.I.Images.seen v))) (wire taken.known put.known (counts_of new)) c.serve.result)) within
    (subst (λ (q : MirrorDamage). IfSome (mended_told (told_all (g.I.Images.seen device.images.now).attached) q.rescue.now q.set.now q.end) (λ bytes. Serves (costing (mended_cost q.rescue.now q.set.now q.end)) (dialogue bytes) (wire source.known out.known (counts_of (g.I.Images.seen device.images.now))) (wire taken.known put.known (counts_of new)) c.serve.result)) c.new-device.ensures.damage counted) in
    let later : old.faults ≤ new.faults = subst (λ v. (g.I.Images.seen v).faults ≤ new.faults) within c.serve.ensures.later in
    let done = shown_served (near_sectors damage.set.now.head damage.end) (mended_told (told_all old.attached) damage.rescue.now damage.set.now damage.end) (mended_cost damage.rescue.now damage.set.now damage.end) old new source taken out put c.serve.result (omega (arith, c.sectors-sectors.ensures, ap (λ (q : MirrorDamage). near_sectors q.set.now.head q.end) c.new-device.ensures.damage)) here
    (ap (λ f. f.world) fixed ∙ ap (λ v. (g.I.Images.seen v).world) within) (ap (λ f. f.attached) fixed ∙ ap (λ v. (g.I.Images.seen v).attached) within) later c.serve.ensures.source c.serve.ensures.sink in
    rw c.ended.ensures (search rules)
