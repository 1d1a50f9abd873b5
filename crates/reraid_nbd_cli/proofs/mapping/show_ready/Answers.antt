use Rattle.std.proofs.Common.{◌≡◌, ◌∙◌, ◌==◌, ◌<◌, ◌^◌, List, ℕ, All, None, false, length, ap, sym, subst, rules, arith}
use Rattle.std.proofs.lemmas.Bool.Decides.{nat_tests}
use Rattle.damaged_device.specs.Cost.{damaged_cost}
use Rattle.damaged_device.specs.Lengths.{salvaged_told}
use Rattle.image_padding.specs.Padded.{padded_images}
use Rattle.outside.specs.Attached.{told_all}
use Rattle.raid_params.specs.Size.{volume_sectors}
use Rattle.rescue_map.proofs.Padding.{bases_each, bases_near, padded_served, salvaged_served}
use Rattle.run_ends.specs.Jobs.{stream}
use Rattle.set_jobs.specs.Writing.{told_for}
use Rattle.virtual_volume.specs.Served.{IsServed}
use Rattle.reraid_nbd_cli.specs.Runs.{Shows, place}
use Rattle.reraid_nbd_cli.proofs.Shown.{shows_within}
use Rattle.reraid_nbd_cli.proofs.mapping.show_ready.Goals as goal

pub show_damage-requires : goal.show_damage-requires
show_damage-requires g c = salvaged_served c.args.set.now c.args.ready.now.end (g.I.Images.seen c.args.images.now).attached c.requires

some_of : (n : ℕ) → (n == 0) ≡ false → 0 < n
some_of n some = grind (arith, nat_tests)

pub new-padded-requires-clause-each : goal.new-padded-requires-clause-each
new-padded-requires-clause-each g c =
    let some = some_of (length c.args.set.now.bases.items) (sym c.is_empty.ensures ∙ c.if-is_empty.false) in
    ap (λ (l : List ℕ). length l) c.deref.ensures.0 ∙ bases_each c.args.set.now c.args.ready.now.end (g.I.Images.seen c.args.images.now).attached c.requires some

pub new-padded-requires-clause-near : goal.new-padded-requires-clause-near
new-padded-requires-clause-near g c =
    let some = some_of (length c.args.set.now.bases.items) (sym c.is_empty.ensures ∙ c.if-is_empty.false) in
    subst (λ (l : List ℕ). All (λ base. base < 2 ^ 54) l) (sym c.deref.ensures.0) (bases_near c.args.set.now c.args.ready.now.end (g.I.Images.seen c.args.images.now).attached c.requires some)

pub show_damage-requires-else-is_empty : goal.show_damage-requires-else-is_empty
show_damage-requires-else-is_empty g c =
    let set = c.args.set.now in
    let end = c.args.ready.now.end in
    let bases : c.new-padded.result.bases.items ≡ set.bases.items = c.new-padded.ensures.bases ∙ c.deref.ensures.0 in
    subst (λ (l : List ℕ). IsServed set.geo end (padded_images l (g.I.Images.seen c.new-padded.result.images.now).attached)) (sym bases)
    (subst (λ v. IsServed set.geo end (padded_images set.bases.items (g.I.Images.seen v).attached)) (sym c.new-padded.ensures.within)
    (padded_served set end (g.I.Images.seen c.args.images.now).attached c.requires))

pub returns-else-is_empty : goal.returns-else-is_empty
returns-else-is_empty g c =
    let set = c.args.set.now in
    let ready = c.args.ready.now in
    let inner = c.new-padded.result.images.now in
    let old = g.I.Images.seen inner in
    let shown = c.show_damage-else-is_empty in
    let new = g.I.Images.seen shown.new.images.images.now in
    let source = stream (g.S.Source.left c.args.source.now) (g.S.Source.faults c.args.source.now) in
    let left = stream (g.S.Source.left shown.new.source) (g.S.Source.faults shown.new.source) in
    let out = stream (g.K.Sink.gained c.args.out.now) (g.K.Sink.faults c.args.out.now) in
    let put = stream (g.K.Sink.gained shown.new.out) (g.K.Sink.faults shown.new.out) in
    let reference = c.new-padded.result.images.ghost_name in
    let other = shown.new.images.images.ghost_name in
    let bases = c.new-padded.result.bases.items in
    let others = shown.new.images.bases.items in
    let size = volume_sectors set.geo.head ready.end in
    let cost = damaged_cost ready.rescue set in
    let within = shows_within reference other bases others size (salvaged_told (told_all (padded_images bases old.attached)) ready.rescue set ready.end) cost old new source left out put shown.result shown.ensures in
    let kept : other ≡ reference = within.0 in
    let same : bases ≡ set.bases.items = c.new-padded.ensures.bases ∙ c.deref.ensures.0 in
    let based : Shows None size (salvaged_told (told_for set old.attached) ready.rescue set ready.end) cost (place old source out) (place new left put) shown.result
    = subst (λ (bs : List ℕ). Shows None size (salvaged_told (told_all (padded_images bs old.attached)) ready.rescue set ready.end) cost (place old source out) (place new left put) shown.result) same within.1 in
    let done : Shows None size (salvaged_told (told_for set (g.I.Images.seen c.args.images.now).attached) ready.rescue set ready.end) cost (place (g.I.Images.seen c.args.images.now) source out) (place new left put) shown.result
    = subst (λ v. Shows None size (salvaged_told (told_for set (g.I.Images.seen v).attached) ready.rescue set ready.end) cost (place (g.I.Images.seen v) source out) (place new left put) shown.result) c.new-padded.ensures.within based in
    search rules
