use Rattle.std.proofs.Common.{◌≡◌, ℕ, length, ap, subst, Ok, arith}
use Rattle.command_words.specs.Commands.{names_after}
use Rattle.run_ends.specs.Jobs.{named, stream}
use Rattle.reraid_nbd_cli.specs.Mapped.{ShowsMapped, damaged_of}
use Rattle.reraid_nbd_cli.specs.Runs.{place}
use Rattle.reraid_nbd_cli.proofs.Mapped.{cut_mapped, ran_mapped}
use Rattle.reraid_nbd_cli.proofs.Ran.{are_images}
use Rattle.reraid_nbd_cli.proofs.running.run_damaged.Goals as goal

pub show_damaged-requires-clause-given : goal.show_damaged-requires-clause-given
show_damaged-requires-clause-given g c =
    are_images c.names_of-names.result.now (g.I.Images.seen c.args.images.now) (g.I.Images.seen c.attach_front.new.images) c.requires.fresh c.attach_front.ensures.some c.in-Ok-attach_front.ensures.all

pub show_mended-requires-clause-given : goal.show_mended-requires-clause-given
show_mended-requires-clause-given g c =
    are_images c.names_of-names.result.now (g.I.Images.seen c.args.images.now) (g.I.Images.seen c.attach_front.new.images) c.requires.fresh c.attach_front.ensures.some c.in-Ok-attach_front.ensures.all

pub returns-in-Write-clause-runs : goal.returns-in-Write-clause-runs
returns-in-Write-clause-runs g c =
    let words = c.args.others.now in
    let seen = g.I.Images.seen c.args.images.now in
    let shown = c.show_damaged in
    let mid = g.I.Images.seen c.attach_front.new.images in
    let new = g.I.Images.seen shown.new.images in
    let command = c.in-Ok.command in
    let source = stream (g.S.Source.left c.args.source.now) (g.S.Source.faults c.args.source.now) in
    let taken = stream (g.S.Source.left shown.new.source) (g.S.Source.faults shown.new.source) in
    let out = stream (g.K.Sink.gained c.args.out.now) (g.K.Sink.faults c.args.out.now) in
    let put = stream (g.K.Sink.gained shown.new.out) (g.K.Sink.faults shown.new.out) in
    let left = stream (g.M.Source.left c.args.maps.now) (g.M.Source.faults c.args.maps.now) in
    let gone = stream (g.M.Source.left shown.new.maps) (g.M.Source.faults shown.new.maps) in
    let count : length c.names_of-names.result.now ≡ length (names_after words) = ap length c.names_of-names.ensures in
    let Q : ℕ → Type 0 = λ names. ShowsMapped (damaged_of command (named names mid.attached)) (place mid source out) (place new taken put) left gone shown.result in
    let shows : Q (length c.names_of-names.result.now) = rw c.in-Write.is shown.ensures in (
      Ok command,
      c.in-Ok.ensures.asks,
      ran_mapped (damaged_of command) (length (names_after words)) seen mid new source taken out put left gone shown.result c.in-Ok-attach_front.ensures.cause.stays c.attach_front.ensures.some.unread c.attach_front.ensures.some.world
          (omega (arith, c.in-Ok-attach_front.ensures.all, count)) (subst Q count shows),
    )

pub returns-in-MirrorWrite-clause-runs : goal.returns-in-MirrorWrite-clause-runs
returns-in-MirrorWrite-clause-runs g c =
    let words = c.args.others.now in
    let seen = g.I.Images.seen c.args.images.now in
    let shown = c.show_mended in
    let mid = g.I.Images.seen c.attach_front.new.images in
    let new = g.I.Images.seen shown.new.images in
    let command = c.in-Ok.command in
    let source = stream (g.S.Source.left c.args.source.now) (g.S.Source.faults c.args.source.now) in
    let taken = stream (g.S.Source.left shown.new.source) (g.S.Source.faults shown.new.source) in
    let out = stream (g.K.Sink.gained c.args.out.now) (g.K.Sink.faults c.args.out.now) in
    let put = stream (g.K.Sink.gained shown.new.out) (g.K.Sink.faults shown.new.out) in
    let left = stream (g.M.Source.left c.args.maps.now) (g.M.Source.faults c.args.maps.now) in
    let gone = stream (g.M.Source.left shown.new.maps) (g.M.Source.faults shown.new.maps) in
    let count : length c.names_of-names.result.now ≡ length (names_after words) = ap length c.names_of-names.ensures in
    let Q : ℕ → Type 0 = λ names. ShowsMapped (damaged_of command (named names mid.attached)) (place mid source out) (place new taken put) left gone shown.result in
    let shows : Q (length c.names_of-names.result.now) = rw c.in-MirrorWrite.is shown.ensures in (
      Ok command,
      c.in-Ok.ensures.asks,
      ran_mapped (damaged_of command) (length (names_after words)) seen mid new source taken out put left gone shown.result c.in-Ok-attach_front.ensures.cause.stays c.attach_front.ensures.some.unread c.attach_front.ensures.some.world
          (omega (arith, c.in-Ok-attach_front.ensures.all, count)) (subst Q count shows),
    )

pub returns-in-Err-attach_front-clause-runs : goal.returns-in-Err-attach_front-clause-runs
returns-in-Err-attach_front-clause-runs g c =
    let words = c.args.others.now in
    let seen = g.I.Images.seen c.args.images.now in
    let new = g.I.Images.seen c.attach_front.new.images in
    let count : length c.names_of-names.result.now ≡ length (names_after words) = ap length c.names_of-names.ensures in (
      Ok c.in-Ok.command,
      c.in-Ok.ensures.asks,
      cut_mapped (damaged_of c.in-Ok.command) (length (names_after words)) seen new _ _ _ (omega (arith, c.in-Err-attach_front.ensures.fewer, count)) c.in-Err-attach_front.ensures.cause.failed c.attach_front.ensures.some.faults c.attach_front.ensures.some.unread c.attach_front.ensures.some.world,
    )
