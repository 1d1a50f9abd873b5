use Rattle.std.proofs.Common.{◌≡◌, ◌∙◌, List, ℕ, None, subst, rules}
use Rattle.std.proofs.lemmas.Result.{err_from_is_err_and}
use Rattle.outside.specs.Attached.{told_all}
use Rattle.image_padding.specs.Padded.{padded_images}
use Rattle.raid_params.specs.Size.{volume_sectors}
use Rattle.run_ends.specs.Jobs.{stream}
use Rattle.set_jobs.specs.Mapping.{set_refusal}
use Rattle.set_jobs.specs.Writing.{told_for, volume_reads, write_output}
use Rattle.volume_device.specs.Lengths.{volume_told}
use Rattle.reraid_nbd_cli.specs.Runs.{Shows, costs_of, place}
use Rattle.reraid_nbd_cli.proofs.Shown.{allowed_shown, shown_refused, shows_within}
use Rattle.reraid_nbd_cli.proofs.showing.show_set.Goals as goal

pub returns-then-is_empty : goal.returns-then-is_empty
returns-then-is_empty g c =
    let set = c.args.set.now in
    let seen = g.I.Images.seen c.args.images.now in
    let source = stream (g.S.Source.left c.args.source.now) (g.S.Source.faults c.args.source.now) in
    let left = stream (g.S.Source.left c.show_parity.new.source) (g.S.Source.faults c.show_parity.new.source) in
    let out = stream (g.K.Sink.gained c.args.out.now) (g.K.Sink.faults c.args.out.now) in
    let put = stream (g.K.Sink.gained c.show_parity.new.out) (g.K.Sink.faults c.show_parity.new.out) in
    let shown : Shows None (volume_sectors set.geo.head c.in_ok-end.end) (volume_told (told_for set seen.attached) set.geo c.in_ok-end.end) (costs_of set.geo) (place seen source out) (place (g.I.Images.seen c.show_parity.new.images) left put) c.show_parity.result = search rules in
    allowed_shown (set_refusal set c.args.end c.args.names seen.attached) (λ n. volume_sectors set.geo.head n) (λ n. volume_told (told_for set seen.attached) set.geo n) (costs_of set.geo) c.in_ok-end.end _ _ _ c.show_parity.result
    c.in_ok-end.ensures.allowed c.in_ok-end.ensures.end shown

pub returns-else-is_empty : goal.returns-else-is_empty
returns-else-is_empty g c =
    let set = c.args.set.now in
    let end = c.in_ok-end.end in
    let seen = g.I.Images.seen c.args.images.now in
    let old = g.I.Images.seen c.new-padded.result.images.now in
    let shown = c.show_parity-else-is_empty in
    let new = g.I.Images.seen shown.new.images.images.now in
    let source = stream (g.S.Source.left c.args.source.now) (g.S.Source.faults c.args.source.now) in
    let left = stream (g.S.Source.left shown.new.source) (g.S.Source.faults shown.new.source) in
    let out = stream (g.K.Sink.gained c.args.out.now) (g.K.Sink.faults c.args.out.now) in
    let put = stream (g.K.Sink.gained shown.new.out) (g.K.Sink.faults shown.new.out) in
    let reference = c.new-padded.result.images.ghost_name in
    let other = shown.new.images.images.ghost_name in
    let bases = c.new-padded.result.bases.items in
    let others = shown.new.images.bases.items in
    let size = volume_sectors set.geo.head end in
    let within = shows_within reference other bases others size (volume_told (told_all (padded_images bases old.attached)) set.geo end) (costs_of set.geo) old new source left out put shown.result shown.ensures in
    let kept : other ≡ reference = within.0 in
    let same : bases ≡ set.bases.items = c.new-padded.ensures.bases ∙ c.deref.ensures.0 in
    let based : Shows None size (volume_told (told_for set old.attached) set.geo end) (costs_of set.geo) (place old source out) (place new left put) shown.result
    = subst (λ (bs : List ℕ). Shows None size (volume_told (told_all (padded_images bs old.attached)) set.geo end) (costs_of set.geo) (place old source out) (place new left put) shown.result) same within.1 in
    let here : Shows None size (volume_told (told_for set seen.attached) set.geo end) (costs_of set.geo) (place seen source out) (place new left put) shown.result
    = subst (λ v. Shows None size (volume_told (told_for set (g.I.Images.seen v).attached) set.geo end) (costs_of set.geo) (place (g.I.Images.seen v) source out) (place new left put) shown.result) c.new-padded.ensures.within based in
    let done = allowed_shown (set_refusal set c.args.end c.args.names seen.attached) (λ n. volume_sectors set.geo.head n) (λ n. volume_told (told_for set seen.attached) set.geo n) (costs_of set.geo) end _ _ _ shown.result
    c.in_ok-end.ensures.allowed c.in_ok-end.ensures.end here in
    search rules

pub returns-in_err-end : goal.returns-in_err-end
returns-in_err-end g c =
    let p = err_from_is_err_and c.from_residual.result c.from_residual.ensures.1 in
    let set = c.args.set.now in
    let seen = g.I.Images.seen c.args.images.now in
    rw (p.1, p.2) (shown_refused (set_refusal set c.args.end c.args.names seen.attached) c.in_err-end.field-0.0 (volume_reads set c.args.end seen.attached) (write_output set c.args.end seen.attached (told_for set seen.attached)) (costs_of set.geo) _
    c.in_err-end.ensures.refused)
