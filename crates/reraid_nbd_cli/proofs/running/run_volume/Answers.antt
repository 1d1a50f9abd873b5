use Rattle.std.proofs.Common.{◌≡◌, ℕ, length, ap, subst, Err, Ok, arith}
use Rattle.command_words.specs.Commands.{names_after}
use Rattle.run_ends.specs.Jobs.{named, stream}
use Rattle.reraid_nbd_cli.specs.Runs.{Shows, cost, place, refusal, sectors, volume}
use Rattle.reraid_nbd_cli.proofs.Ran.{are_images, cut, ran, wordless}
use Rattle.reraid_nbd_cli.proofs.running.run_volume.Goals as goal

pub show_set-requires-clause-given : goal.show_set-requires-clause-given
show_set-requires-clause-given g c =
    are_images c.names_of-names.result.now (g.I.Images.seen c.args.images.now) (g.I.Images.seen c.attach_front.new.images) c.requires.fresh c.attach_front.ensures.some c.in-Ok-attach_front.ensures.all

pub show_mirror-requires-clause-given : goal.show_mirror-requires-clause-given
show_mirror-requires-clause-given g c =
    are_images c.names_of-names.result.now (g.I.Images.seen c.args.images.now) (g.I.Images.seen c.attach_front.new.images) c.requires.fresh c.attach_front.ensures.some c.in-Ok-attach_front.ensures.all

pub returns-in-Err-clause-runs : goal.returns-in-Err-clause-runs
returns-in-Err-clause-runs g c = (Err c.in-Err.number, c.in-Err.ensures.asks, wordless c.in-Err.number (length (names_after c.args.words.now)) (g.I.Images.seen c.args.images.now) _ _)

pub returns-in-Write-clause-runs : goal.returns-in-Write-clause-runs
returns-in-Write-clause-runs g c =
    let words = c.args.words.now in
    let seen = g.I.Images.seen c.args.images.now in
    let mid = g.I.Images.seen c.attach_front.new.images in
    let new = g.I.Images.seen c.show_set.new.images in
    let command = c.in-Ok.command in
    let source = stream (g.S.Source.left c.args.source.now) (g.S.Source.faults c.args.source.now) in
    let left = stream (g.S.Source.left c.show_set.new.source) (g.S.Source.faults c.show_set.new.source) in
    let out = stream (g.K.Sink.gained c.args.out.now) (g.K.Sink.faults c.args.out.now) in
    let put = stream (g.K.Sink.gained c.show_set.new.out) (g.K.Sink.faults c.show_set.new.out) in
    let count : length c.names_of-names.result.now ≡ length (names_after words) = ap length c.names_of-names.ensures in
    let Q : ℕ → Type 0 = λ names. Shows (refusal (Ok command) (named names mid.attached)) (sectors (Ok command) (named names mid.attached)) (volume (Ok command) (named names mid.attached)) (cost (Ok command)) (place mid source out) (place new left put) c.show_set.result in
    let shows : Q (length c.names_of-names.result.now) = rw c.in-Write.is c.show_set.ensures in (
      Ok command,
      c.in-Ok.ensures.asks,
      ran command (length (names_after words)) seen mid new source left out put c.show_set.result c.in-Ok-attach_front.ensures.cause.stays c.attach_front.ensures.some.unread c.attach_front.ensures.some.world
          (omega (arith, c.in-Ok-attach_front.ensures.all, count)) (subst Q count shows),
    )

pub returns-in-MirrorWrite-clause-runs : goal.returns-in-MirrorWrite-clause-runs
returns-in-MirrorWrite-clause-runs g c =
    let words = c.args.words.now in
    let seen = g.I.Images.seen c.args.images.now in
    let mid = g.I.Images.seen c.attach_front.new.images in
    let new = g.I.Images.seen c.show_mirror.new.images in
    let command = c.in-Ok.command in
    let source = stream (g.S.Source.left c.args.source.now) (g.S.Source.faults c.args.source.now) in
    let left = stream (g.S.Source.left c.show_mirror.new.source) (g.S.Source.faults c.show_mirror.new.source) in
    let out = stream (g.K.Sink.gained c.args.out.now) (g.K.Sink.faults c.args.out.now) in
    let put = stream (g.K.Sink.gained c.show_mirror.new.out) (g.K.Sink.faults c.show_mirror.new.out) in
    let count : length c.names_of-names.result.now ≡ length (names_after words) = ap length c.names_of-names.ensures in
    let Q : ℕ → Type 0 = λ names. Shows (refusal (Ok command) (named names mid.attached)) (sectors (Ok command) (named names mid.attached)) (volume (Ok command) (named names mid.attached)) (cost (Ok command)) (place mid source out) (place new left put) c.show_mirror.result in
    let shows : Q (length c.names_of-names.result.now) = rw c.in-MirrorWrite.is c.show_mirror.ensures in (
      Ok command,
      c.in-Ok.ensures.asks,
      ran command (length (names_after words)) seen mid new source left out put c.show_mirror.result c.in-Ok-attach_front.ensures.cause.stays c.attach_front.ensures.some.unread c.attach_front.ensures.some.world
          (omega (arith, c.in-Ok-attach_front.ensures.all, count)) (subst Q count shows),
    )

pub returns-in-Err-attach_front-clause-runs : goal.returns-in-Err-attach_front-clause-runs
returns-in-Err-attach_front-clause-runs g c =
    let words = c.args.words.now in
    let seen = g.I.Images.seen c.args.images.now in
    let new = g.I.Images.seen c.attach_front.new.images in
    let count : length c.names_of-names.result.now ≡ length (names_after words) = ap length c.names_of-names.ensures in (
      Ok c.in-Ok.command,
      c.in-Ok.ensures.asks,
      cut c.in-Ok.command (length (names_after words)) seen new _ _ (omega (arith, c.in-Err-attach_front.ensures.fewer, count)) c.in-Err-attach_front.ensures.cause.failed c.attach_front.ensures.some.faults c.attach_front.ensures.some.unread c.attach_front.ensures.some.world,
    )
