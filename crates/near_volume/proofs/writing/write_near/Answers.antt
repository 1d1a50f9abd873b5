use Rattle.std.proofs.Common.{ℕ, IfSome, subst}
use Rattle.outside.specs.Attached.{told_all}
use Rattle.outside.specs.Streams.{AppendsSectors, Puts}
use Rattle.virtual_volume.proofs.Fronts.{puts_front, puts_written}
use Rattle.near_volume.specs.Sectors.{near_volume, sectors_of}
use Rattle.near_volume.proofs.writing.write_near.Goals as goal

pub returns-clause-written : goal.returns-clause-written
unfolding sectors_of
returns-clause-written g c =
    puts_written (told_all (g.I.Images.seen c.args.images.now).attached) (λ bytes. near_volume bytes c.args.set.now c.args.end) (g.K.Sink.gained c.args.sink.now) (g.K.Sink.gained c.write_sectors.new.sink) c.write_sectors.result
    (subst (λ (n : ℕ). IfSome (told_all (g.I.Images.seen c.args.images.now).attached) (λ bytes. Puts (g.K.Sink.gained c.args.sink.now) (g.K.Sink.gained c.write_sectors.new.sink) c.write_sectors.result (sectors_of bytes c.args.set.now c.args.end 0 n))) c.volume_sectors-sectors.ensures c.write_sectors.ensures.put)

pub returns-clause-front : goal.returns-clause-front
unfolding sectors_of
returns-clause-front g c =
    puts_front (told_all (g.I.Images.seen c.args.images.now).attached) (λ bytes. near_volume bytes c.args.set.now c.args.end) (g.K.Sink.gained c.args.sink.now) (g.K.Sink.gained c.write_sectors.new.sink) c.write_sectors.result
    (subst (λ (n : ℕ). IfSome (told_all (g.I.Images.seen c.args.images.now).attached) (λ bytes. Puts (g.K.Sink.gained c.args.sink.now) (g.K.Sink.gained c.write_sectors.new.sink) c.write_sectors.result (sectors_of bytes c.args.set.now c.args.end 0 n))) c.volume_sectors-sectors.ensures c.write_sectors.ensures.put)

pub returns-clause-whole : goal.returns-clause-whole
unfolding sectors_of
returns-clause-whole g c = λ is.
    subst (λ (n : ℕ). IfSome (told_all (g.I.Images.seen c.args.images.now).attached) (λ bytes. AppendsSectors (g.K.Sink.gained c.args.sink.now) (g.K.Sink.gained c.write_sectors.new.sink) (sectors_of bytes c.args.set.now c.args.end 0 n))) c.volume_sectors-sectors.ensures (c.write_sectors.ensures.whole is)
