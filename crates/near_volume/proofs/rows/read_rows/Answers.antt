use Rattle.std.proofs.Common.{ℕ, ◌≡◌, ◌+◌, ◌*◌, ◌<◌, ap, ◌∙◌, arith, rules}
use Rattle.outside.specs.Attached.{told_all}
use Rattle.outside.proofs.Reading.{reads_join, reads_up}
use Rattle.member_regions.proofs.IfTold.{if_told}
use Rattle.near_mirror.proofs.Chunks.{valid_chunk}
use Rattle.near_mirror.proofs.Heads.{some_members}
use Rattle.near_volume.specs.Columns.{HoldsChunk, stripe}
use Rattle.near_volume.specs.Sectors.{near_sector, sectors_of}
use Rattle.near_volume.proofs.FarRows.{columns_on, rows_are}
use Rattle.near_volume.proofs.rows.read_rows.Goals as goal

pub loop-column-preserved : goal.loop-column-preserved
loop-column-preserved g c =
    let one : ℕ = c.args.rows * c.args.set.now.head.chunk in
    let next : (c.loop-column.column + 1) * one ≡ c.loop-column.column * one + one = grind arith in
    record {
      long = c.read_home_column.ensures.long ∙ c.loop-column.invariant.long;
      room = c.read_home_column.ensures.room ∙ c.loop-column.invariant.room;
      told =
          columns_on (told_all (g.I.Images.seen c.args.images.now).attached) (λ bytes j. near_sector bytes c.args.set.now c.args.end (c.args.first + j)) c.args.set.now.head.chunk c.args.set.now.head.members c.args.rows
          c.loop-column.column c.loop-column.to c.read_home_column.new.to (omega arith) c.loop-column.invariant.told
          (rw (← c.loop-column.invariant.reads.attached) c.in_ok-read_home_column.ensures.told)
          c.in_ok-read_home_column.ensures.others;
      reads = reads_up (g.I.Images.seen c.args.images.now) (g.I.Images.seen c.read_home_column.new.images)
          (reads_join (g.I.Images.seen c.args.images.now) (g.I.Images.seen c.loop-column.images) (g.I.Images.seen c.read_home_column.new.images) c.loop-column.invariant.reads c.read_home_column.ensures.reads) (omega arith);
      stays = (let still : (g.I.Images.seen c.read_home_column.new.images).faults ≡ (g.I.Images.seen c.loop-column.images).faults = search rules in still ∙ c.loop-column.invariant.stays);
    }

pub returns-clause-told : goal.returns-clause-told
returns-clause-told g c =
    let two = some_members c.args.set.now.head c.requires.set.head in
    if_told (told_all (g.I.Images.seen c.args.images.now).attached)
    (λ bytes. (row column : ℕ) → row < c.args.rows → column < c.loop-column.column → HoldsChunk (λ j. near_sector bytes c.args.set.now c.args.end (c.args.first + j)) c.args.set.now.head.chunk c.loop-column.to (row * c.args.set.now.head.members + column))
    (λ bytes. c.loop-column.to ≡ sectors_of bytes c.args.set.now c.args.end c.args.first (c.args.rows * stripe c.args.set.now.head))
    (λ bytes p.
    rows_are bytes c.args.set.now c.args.end c.args.first c.args.rows c.loop-column.to (valid_chunk c.args.set.now.head c.requires.set.head) (omega arith) (c.loop-column.invariant.long ∙ c.requires.whole)
    (λ row column below among. p row column below (omega arith)))
    c.loop-column.invariant.told

pub returns-clause-reads : goal.returns-clause-reads
returns-clause-reads g c =
    let end : c.loop-column.column ≡ c.args.set.now.head.members = omega arith in
    let times : c.loop-column.column * (c.args.rows * c.args.set.now.head.chunk) ≡ c.args.set.now.head.members * (c.args.rows * c.args.set.now.head.chunk) = ap (λ (k : ℕ). k * (c.args.rows * c.args.set.now.head.chunk)) end in
    let all : c.args.set.now.head.members * (c.args.rows * c.args.set.now.head.chunk) ≡ c.args.rows * stripe c.args.set.now.head = grind arith in
    reads_up (g.I.Images.seen c.args.images.now) (g.I.Images.seen c.loop-column.images) c.loop-column.invariant.reads (omega arith)
