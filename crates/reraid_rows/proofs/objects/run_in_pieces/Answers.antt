use Rattle.std.proofs.Common.{IsTrue}
use Rattle.image_source.specs.Memory.{seen_of}
use Rattle.reraid_rows.proofs.Ready.{names_too}
use Rattle.reraid_rows.proofs.objects.run_in_pieces.Goals as goal

pub reraid-requires-clause-named : goal.reraid-requires-clause-named
reraid-requires-clause-named g c κs within = names_too (λ name. IsTrue ((seen_of c.args.objects.now.images).world.may_attach name)) _ c.requires.named
