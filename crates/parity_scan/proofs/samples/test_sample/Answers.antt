use Rattle.std.proofs.Common.{◌+◌, length, sym, ap, ◌∙◌, arith}
use Rattle.outside.proofs.Reading.{reads_up}
use Rattle.outside.specs.Attached.{told_all}
use Rattle.member_regions.proofs.IfTold.{if_told}
use Rattle.parity_scan.specs.Pass.{HoldAsked, TalliesSome}
use Rattle.parity_scan.specs.Tallies.{AllTallies}
use Rattle.parity_scan.proofs.Asked.{reads_wanted, wanted_held}
use Rattle.parity_scan.proofs.Settled.{keep_added}
use Rattle.parity_scan.proofs.Tallying.{some_after}
use Rattle.parity_scan.proofs.samples.test_sample.Goals as goal

pub returns-clause-told : goal.returns-clause-told
returns-clause-told g c =
    if_told (told_all (g.I.Images.seen c.args.images.now).attached)
    (λ bytes. HoldAsked bytes c.args.scanned.now.scope.now c.args.scanned.now.sets.now c.args.tallies.now (record { first = c.args.point; count = 1 }) c.read.new.self)
    (λ bytes. AllTallies (TalliesSome bytes c.args.scanned.now.scope.now c.args.at) c.args.scanned.now.sets.now c.args.tallies.now → AllTallies (TalliesSome bytes c.args.scanned.now.scope.now (c.args.point + 1)) c.args.scanned.now.sets.now c.add_to_piece.new.piece)
    (λ bytes hold so_far. some_after bytes c.args.scanned.now.scope.now c.args.scanned.now.sets.now (record { first = c.args.point; count = 1 }) c.read.new.self c.args.at c.args.tallies.now c.add_to_piece.new.piece
    c.if-point-at.false c.requires.long c.add_to_piece.ensures.added hold so_far)
    (wanted_held (g.I.Images.seen c.args.images.now).attached (g.I.Images.seen c.args.images.now).attached c.args.scanned.now.scope.now c.args.scanned.now.sets.now c.args.tallies.now (record { first = c.args.point; count = 1 }) c.wanted_images-wanted.result.items c.deref.result.now c.args.regions.now c.read.new.self
    c.requires.can c.wanted_images-wanted.ensures.wanted c.wanted_images-wanted.ensures.slots c.deref.ensures.0 c.in_ok-read.ensures.told)

pub returns-clause-settled : goal.returns-clause-settled
returns-clause-settled g c =
    keep_added c.args.scanned.now.scope.now c.args.scanned.now.sets.now (record { first = c.args.point; count = 1 }) c.read.new.self c.args.tallies.now c.add_to_piece.new.piece c.requires.long c.add_to_piece.ensures.added

pub returns-clause-reads : goal.returns-clause-reads
returns-clause-reads g c =
    reads_up (g.I.Images.seen c.args.images.now) (g.I.Images.seen c.read.new.images)
    (reads_wanted (g.I.Images.seen c.args.images.now) (g.I.Images.seen c.read.new.images) c.deref.result.now (length (g.I.Images.seen c.args.images.now).attached) 1
    (ap length c.deref.ensures.0 ∙ c.wanted_images-wanted.ensures.slots ∙ sym c.requires.can.planned) c.read.ensures.reads) (omega arith)

pub returns-in_err-read-clause-reads : goal.returns-in_err-read-clause-reads
returns-in_err-read-clause-reads g c =
    reads_up (g.I.Images.seen c.args.images.now) (g.I.Images.seen c.read.new.images)
    (reads_wanted (g.I.Images.seen c.args.images.now) (g.I.Images.seen c.read.new.images) c.deref.result.now (length (g.I.Images.seen c.args.images.now).attached) 1
    (ap length c.deref.ensures.0 ∙ c.wanted_images-wanted.ensures.slots ∙ sym c.requires.can.planned) c.read.ensures.reads) (omega arith)
