use Rattle.std.proofs.Common.{◌*◌, ◌≤◌, arith}
use Rattle.std.proofs.lemmas.Nat.{mul-le}
use Rattle.near_mirror.proofs.Chunks.{short_chunk}
use Rattle.near_tables.specs.Tables.{lane_row}
use Rattle.near_tables.proofs.Rows.{lane_low}
use Rattle.near_tables.proofs.lane_reading.Strips.depth_in.Goals as goal

pub overflow_mul-result : goal.overflow_mul-result
overflow_mul-result c =
    let low = lane_low c.args.self.now.head.layout.copying c.args.lane in
    let lane = c.requires.lane in
    let row = c.lane_row.ensures in
    let few : lane_row c.args.self.now.head.layout.copying c.args.lane * c.args.self.now.head.chunk ≤ 4 * 32768
    = mul-le (lane_row c.args.self.now.head.layout.copying c.args.lane) c.args.self.now.head.chunk 4 32768 (omega arith) (short_chunk c.args.self.now.head c.requires.head) in
    rw row (omega arith)

pub returns-clause-near : goal.returns-clause-near
returns-clause-near c =
    let low = lane_low c.args.self.now.head.layout.copying c.args.lane in
    let lane = c.requires.lane in
    let row = c.lane_row.ensures in
    let near = c.requires.near in
    let few : lane_row c.args.self.now.head.layout.copying c.args.lane * c.args.self.now.head.chunk ≤ 4 * 32768
    = mul-le (lane_row c.args.self.now.head.layout.copying c.args.lane) c.args.self.now.head.chunk 4 32768 (omega arith) (short_chunk c.args.self.now.head c.requires.head) in
    rw row (omega arith)
