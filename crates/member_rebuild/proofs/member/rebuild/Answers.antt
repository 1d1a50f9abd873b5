use Rattle.std.proofs.Common.{◌+◌, ℕ, IfSome, subst, arith}
use Rattle.outside.specs.Attached.{told_all}
use Rattle.outside.specs.Streams.{AppendsSectors, Puts}
use Rattle.raid_terms.specs.Volume.{member}
use Rattle.member_regions.proofs.Sets.{testable_chunk}
use Rattle.virtual_volume.proofs.Fronts.{puts_front, puts_written}
use Rattle.virtual_volume.proofs.Sets.{served_end, served_held, served_testable}
use Rattle.member_rebuild.specs.Sectors.{sectors_of}
use Rattle.member_rebuild.proofs.Parts.{reads_volume}
use Rattle.member_rebuild.proofs.member.rebuild.Goals as goal

pub write_sectors-requires-clause-held : goal.write_sectors-requires-clause-held
write_sectors-requires-clause-held g c =
    let some = testable_chunk c.args.geo.now (served_testable c.args.geo.now c.args.end (g.I.Images.seen c.args.images.now).attached c.requires.set) in
    let near = served_end c.args.geo.now c.args.end (g.I.Images.seen c.args.images.now).attached c.requires.set some in
    served_held c.args.geo.now c.args.end (c.args.geo.now.head.offset + c.area-sectors.result) (g.I.Images.seen c.args.images.now).attached c.requires.set (omega (arith, c.area-sectors.ensures))

pub returns-clause-written : goal.returns-clause-written
unfolding sectors_of
returns-clause-written g c =
    puts_written (told_all (g.I.Images.seen c.args.images.now).attached) (λ bytes. member bytes c.args.geo.now c.args.end c.args.slot) (g.K.Sink.gained c.args.sink.now) (g.K.Sink.gained c.write_sectors.new.sink) c.write_sectors.result
    (subst (λ (n : ℕ). IfSome (told_all (g.I.Images.seen c.args.images.now).attached) (λ bytes. Puts (g.K.Sink.gained c.args.sink.now) (g.K.Sink.gained c.write_sectors.new.sink) c.write_sectors.result (sectors_of bytes c.args.geo.now c.args.slot 0 n))) c.area-sectors.ensures c.write_sectors.ensures.put)

pub returns-clause-front : goal.returns-clause-front
unfolding sectors_of
returns-clause-front g c =
    puts_front (told_all (g.I.Images.seen c.args.images.now).attached) (λ bytes. member bytes c.args.geo.now c.args.end c.args.slot) (g.K.Sink.gained c.args.sink.now) (g.K.Sink.gained c.write_sectors.new.sink) c.write_sectors.result
    (subst (λ (n : ℕ). IfSome (told_all (g.I.Images.seen c.args.images.now).attached) (λ bytes. Puts (g.K.Sink.gained c.args.sink.now) (g.K.Sink.gained c.write_sectors.new.sink) c.write_sectors.result (sectors_of bytes c.args.geo.now c.args.slot 0 n))) c.area-sectors.ensures c.write_sectors.ensures.put)

pub returns-clause-whole : goal.returns-clause-whole
unfolding sectors_of
returns-clause-whole g c = λ is.
    subst (λ (n : ℕ). IfSome (told_all (g.I.Images.seen c.args.images.now).attached) (λ bytes. AppendsSectors (g.K.Sink.gained c.args.sink.now) (g.K.Sink.gained c.write_sectors.new.sink) (sectors_of bytes c.args.geo.now c.args.slot 0 n))) c.area-sectors.ensures (c.write_sectors.ensures.whole is)

pub returns-clause-reads : goal.returns-clause-reads
returns-clause-reads g c =
    reads_volume (g.I.Images.seen c.args.images.now) (g.I.Images.seen c.write_sectors.new.images) c.args.geo.now c.args.end c.area-sectors.result c.area-sectors.ensures c.write_sectors.ensures.reads
