use Rattle.std.proofs.Common.{◌≡◌, subst, rules}
use Rattle.outside.specs.Seen.{OnlyReads}
use Rattle.image_padding.proofs.Within.{reads_within}
use Rattle.image_rows.proofs.padding.padded_middle.Goals as goal

pub returns : goal.returns
returns g c =
    let reads = reads_within c.new-padded.result.images.ghost_name c.middle.new.images.images.ghost_name c.new-padded.result.bases.items c.middle.new.images.bases.items (g.I.Images.seen c.new-padded.result.images.now) (g.I.Images.seen c.middle.new.images.images.now) 2 c.middle.ensures in
    let kept : c.middle.new.images.images.ghost_name ≡ c.new-padded.result.images.ghost_name = reads.0 in
    let read : OnlyReads (g.I.Images.seen c.args.images.now) (g.I.Images.seen c.middle.new.images.images.now) 2 = subst (λ v. OnlyReads (g.I.Images.seen v) (g.I.Images.seen c.middle.new.images.images.now) 2) c.new-padded.ensures.within reads.1 in
    search rules
