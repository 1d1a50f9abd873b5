use Rattle.std.proofs.Common.{◌≡◌, rules}
use Rattle.image_padding.proofs.Images.{are_padded}
use Rattle.image_padding.proofs.padded.Padded.new.Goals as goal

pub invariant_of-result : goal.invariant_of-result
invariant_of-result g c =
    let items : c.try_extend_from_slice.new.self.items ≡ c.args.bases.now = search rules in
    record {
      is_greatest = rw items c.greatest_of-greatest.ensures;
      are_padded = rw items (are_padded c.args.bases.now (g.I.Images.seen c.args.images.now).attached c.requires.each c.requires.near c.requires.short);
    }
