use Rattle.std.proofs.Common.{ℕ, ◌+◌, ◌*◌, ◌≤◌, ap, ◌∙◌, arith}
use Rattle.std.proofs.lemmas.List.{length-take-le}
use Rattle.std.proofs.lemmas.Nat.{mul-le}
use Rattle.outside.specs.Attached.{told_all}
use Rattle.near_mirror.specs.Volume.{is_held}
use Rattle.near_mirror.proofs.Chunks.{valid_chunk}
use Rattle.near_mirror.proofs.Heads.{some_members, volume_fits}
use Rattle.near_volume.proofs.FarRows.{column_chunk, column_inside, column_others, column_reach, column_told}
use Rattle.near_volume.proofs.columns.read_column.Goals as goal

pub overflow_add-at : goal.overflow_add-at
overflow_add-at g c =
    let inside = column_inside c.args.set.now.head c.args.end c.args.first c.args.column c.args.rows c.requires.set.head c.requires.some c.requires.column c.requires.inside in
    omega (arith, volume_fits c.args.set.now.head c.args.end c.requires.set.head c.requires.near)

pub read_stretch-requires-clause-there : goal.read_stretch-requires-clause-there
read_stretch-requires-clause-there g c =
    ap (λ (k : ℕ). is_held c.args.set.now k c.args.copy) (column_chunk c.args.set.now.head.chunk c.args.first c.args.column (valid_chunk c.args.set.now.head c.requires.set.head) c.requires.begins) ∙ c.requires.there

pub read_stretch-requires-clause-some : goal.read_stretch-requires-clause-some
read_stretch-requires-clause-some g c =
    let times : 1 * 1 ≤ c.args.rows * c.args.set.now.head.chunk = mul-le 1 1 c.args.rows c.args.set.now.head.chunk c.requires.some (valid_chunk c.args.set.now.head c.requires.set.head) in
    omega (arith, length-take-le (512 * (c.args.rows * c.args.set.now.head.chunk)) c.args.room.now c.requires.room)

pub read_stretch-requires-clause-inside : goal.read_stretch-requires-clause-inside
read_stretch-requires-clause-inside g c = column_inside c.args.set.now.head c.args.end c.args.first c.args.column c.args.rows c.requires.set.head c.requires.some c.requires.column c.requires.inside

pub read_stretch-requires-clause-reach : goal.read_stretch-requires-clause-reach
read_stretch-requires-clause-reach g c =
    let reach = column_reach c.args.set.now c.args.end c.args.copy c.args.first c.args.column c.args.rows c.requires.set c.requires.copy c.requires.far c.requires.begins c.requires.some c.requires.column c.requires.inside in
    omega (arith, length-take-le (512 * (c.args.rows * c.args.set.now.head.chunk)) c.args.room.now c.requires.room)

pub spread-requires-clause-some : goal.spread-requires-clause-some
spread-requires-clause-some g c = let one = valid_chunk c.args.set.now.head c.requires.set.head in omega arith

pub returns-clause-told : goal.returns-clause-told
returns-clause-told g c =
    let two = some_members c.args.set.now.head c.requires.set.head in
    column_told (told_all (g.I.Images.seen c.args.images.now).attached) c.args.set.now c.args.end c.args.copy c.args.first c.args.column c.args.rows c.read_stretch.new.to c.spread.new.to
    (valid_chunk c.args.set.now.head c.requires.set.head) (omega arith) c.requires.far c.requires.begins (c.read_stretch.ensures.long ∙ length-take-le (512 * (c.args.rows * c.args.set.now.head.chunk)) c.args.room.now c.requires.room) c.spread.ensures.column c.in_ok-read_stretch.ensures.told

pub returns-clause-others : goal.returns-clause-others
returns-clause-others g c = λ f row other below among differ.
    column_others f c.args.set.now.head.chunk (row * c.args.set.now.head.members + other) c.args.to.now c.spread.new.to (λ x small. c.spread.ensures.others row other x below among differ small)
