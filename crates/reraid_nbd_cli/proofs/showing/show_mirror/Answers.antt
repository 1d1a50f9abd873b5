use Rattle.std.proofs.lemmas.Result.{err_from_is_err_and}
use Rattle.near_jobs.specs.MirrorWriting.{mirror_output, mirror_reads, mirror_refusal}
use Rattle.near_mirror.specs.Copies.{near_sectors}
use Rattle.outside.specs.Attached.{told_all}
use Rattle.volume_device.specs.Lengths.{mirror_told}
use Rattle.reraid_nbd_cli.specs.Runs.{mirror_cost}
use Rattle.reraid_nbd_cli.proofs.Shown.{allowed_shown, shown_refused}
use Rattle.reraid_nbd_cli.proofs.showing.show_mirror.Goals as goal

pub returns : goal.returns
returns g c =
    let set = c.args.set.now in
    let seen = g.I.Images.seen c.args.images.now in
    allowed_shown (mirror_refusal set c.args.end c.args.names seen.attached) (λ n. near_sectors set.head n) (λ n. mirror_told (told_all seen.attached) set n) mirror_cost c.in_ok-end.end _ _ _ c.show_copies.result
    c.in_ok-end.ensures.allowed c.in_ok-end.ensures.end c.show_copies.ensures

pub returns-in_err-end : goal.returns-in_err-end
returns-in_err-end g c =
    let p = err_from_is_err_and c.from_residual.result c.from_residual.ensures.1 in
    let set = c.args.set.now in
    let seen = g.I.Images.seen c.args.images.now in
    rw (p.1, p.2) (shown_refused (mirror_refusal set c.args.end c.args.names seen.attached) c.in_err-end.field-0.0 (mirror_reads set c.args.end seen.attached) (mirror_output set c.args.end seen.attached (told_all seen.attached)) mirror_cost _
    c.in_err-end.ensures.refused)
