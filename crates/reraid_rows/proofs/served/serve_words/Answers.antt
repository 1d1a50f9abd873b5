use Rattle.std.proofs.Common.{IsTrue}
use Rattle.image_source.specs.Memory.{seen_of}
use Rattle.reraid_rows.proofs.Ready.{names_too}
use Rattle.reraid_rows.proofs.served.serve_words.Goals as goal

pub reraid_nbd-requires-clause-named : goal.reraid_nbd-requires-clause-named
reraid_nbd-requires-clause-named c = names_too (λ name. IsTrue ((seen_of c.args.objects.now.images).world.may_attach name)) _ c.requires.named
