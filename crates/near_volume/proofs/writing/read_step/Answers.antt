use Rattle.std.proofs.Common.{◌/◌, ℕ, length, Option, sym, ap, arith}
use Rattle.std.specs.Option.{is_none}
use Rattle.std.proofs.lemmas.Nat.{mod_below}
use Rattle.outside.specs.Attached.{told_all}
use Rattle.near_mirror.specs.Volume.{held_copy}
use Rattle.near_mirror.proofs.Chunks.{short_chunk, valid_chunk}
use Rattle.near_mirror.proofs.Finds.{clash}
use Rattle.near_mirror.proofs.Heads.{chunk_near, volume_fits}
use Rattle.near_mirror.proofs.Homes.{has_copy, held_among, held_there}
use Rattle.near_volume.proofs.Runs.{home_told}
use Rattle.near_volume.proofs.writing.read_step.Goals as goal

pub overflow_add-first : goal.overflow_add-first
overflow_add-first g c =
    let low = mod_below c.args.first c.args.set.now.head.chunk (valid_chunk c.args.set.now.head c.requires.set.head) in
    omega (arith, short_chunk c.args.set.now.head c.requires.set.head)

pub held_copy-requires-clause-chunk : goal.held_copy-requires-clause-chunk
held_copy-requires-clause-chunk g c =
    let fits = volume_fits c.args.set.now.head c.args.end c.requires.set.head c.requires.near in
    let within = c.requires.inside in
    chunk_near c.args.set.now.head c.args.first (omega arith)

pub read_copy-requires-clause-copy : goal.read_copy-requires-clause-copy
read_copy-requires-clause-copy g c = held_among c.args.set.now (c.args.first / c.args.set.now.head.chunk) c.in-Some.copy (sym c.in-Some.ensures)

pub read_copy-requires-clause-there : goal.read_copy-requires-clause-there
read_copy-requires-clause-there g c = held_there c.args.set.now (c.args.first / c.args.set.now.head.chunk) c.in-Some.copy (sym c.in-Some.ensures)

pub returns-in-Some-clause-told : goal.returns-in-Some-clause-told
returns-in-Some-clause-told g c =
    home_told (told_all (g.I.Images.seen c.args.images.now).attached) c.args.set.now c.args.end c.in-Some.copy c.args.first (length c.args.to.now / 512) c.read_copy.result c.read_copy.new.to
    (sym c.in-Some.ensures) (omega arith) c.read_copy.ensures.told

pub returns-in-None-clause-told : goal.returns-in-None-clause-told
returns-in-None-clause-told g c =
    absurd (clash (is_none (held_copy c.args.set.now (c.args.first / c.args.set.now.head.chunk))) (ap (λ (o : Option ℕ). is_none o) (sym c.in-None.ensures))
    (has_copy c.args.set.now c.args.end c.args.first c.requires.set (omega arith)))
