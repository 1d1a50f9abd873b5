use Rattle.std.proofs.Common.{ℕ, ◌+◌, ◌*◌, ◌/◌, Option, sym, ap, ◌∙◌, arith}
use Rattle.std.specs.Option.{is_none}
use Rattle.outside.specs.Attached.{told_all}
use Rattle.near_mirror.specs.Volume.{held_copy}
use Rattle.near_mirror.proofs.Chunks.{valid_chunk}
use Rattle.near_mirror.proofs.Finds.{clash}
use Rattle.near_mirror.proofs.Heads.{chunk_near, few_members, some_members, volume_fits}
use Rattle.near_mirror.proofs.Homes.{has_copy, held_among, held_there}
use Rattle.near_volume.proofs.FarRows.{column_chunk, column_inside, home_column}
use Rattle.near_volume.proofs.rows.read_home_column.Goals as goal

pub overflow_add-first : goal.overflow_add-first
overflow_add-first g c =
    let fits = volume_fits c.args.set.now.head c.args.end c.requires.set.head c.requires.near in
    let inside = c.requires.inside in
    let few = few_members c.args.set.now.head c.requires.set.head in
    omega (arith, chunk_near c.args.set.now.head c.args.first (omega arith))

pub held_copy-requires-clause-chunk : goal.held_copy-requires-clause-chunk
held_copy-requires-clause-chunk g c =
    let fits = volume_fits c.args.set.now.head c.args.end c.requires.set.head c.requires.near in
    let inside = column_inside c.args.set.now.head c.args.end c.args.first c.args.column c.args.rows c.requires.set.head c.requires.some c.requires.column c.requires.inside in
    let same = column_chunk c.args.set.now.head.chunk c.args.first c.args.column (valid_chunk c.args.set.now.head c.requires.set.head) c.requires.begins in
    omega (arith, chunk_near c.args.set.now.head (c.args.first + c.args.column * c.args.set.now.head.chunk) (omega arith))

pub read_column-requires-clause-copy : goal.read_column-requires-clause-copy
read_column-requires-clause-copy g c = held_among c.args.set.now (c.args.first / c.args.set.now.head.chunk + c.args.column) c.in-Some.copy (sym c.in-Some.ensures)

pub read_column-requires-clause-there : goal.read_column-requires-clause-there
read_column-requires-clause-there g c = held_there c.args.set.now (c.args.first / c.args.set.now.head.chunk + c.args.column) c.in-Some.copy (sym c.in-Some.ensures)

pub returns-in-Some-clause-told : goal.returns-in-Some-clause-told
returns-in-Some-clause-told g c =
    let two = some_members c.args.set.now.head c.requires.set.head in
    home_column (told_all (g.I.Images.seen c.args.images.now).attached) c.args.set.now c.args.end c.in-Some.copy c.args.first c.args.column c.args.rows c.read_column.result c.read_column.new.to
    (valid_chunk c.args.set.now.head c.requires.set.head) (omega arith) c.requires.far c.requires.begins (sym c.in-Some.ensures) c.read_column.ensures.told

pub returns-in-None-clause-told : goal.returns-in-None-clause-told
returns-in-None-clause-told g c =
    let inside = column_inside c.args.set.now.head c.args.end c.args.first c.args.column c.args.rows c.requires.set.head c.requires.some c.requires.column c.requires.inside in
    let same = column_chunk c.args.set.now.head.chunk c.args.first c.args.column (valid_chunk c.args.set.now.head c.requires.set.head) c.requires.begins in
    absurd (clash (is_none (held_copy c.args.set.now (c.args.first / c.args.set.now.head.chunk + c.args.column))) (ap (λ (o : Option ℕ). is_none o) (sym c.in-None.ensures))
    (sym (ap (λ (k : ℕ). is_none (held_copy c.args.set.now k)) same) ∙ has_copy c.args.set.now c.args.end (c.args.first + c.args.column * c.args.set.now.head.chunk) c.requires.set inside))
