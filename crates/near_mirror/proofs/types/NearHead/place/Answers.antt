use Rattle.std.proofs.Common.{◌≡◌, ◌+◌, ◌*◌, ◌/◌, ◌%◌, ℕ, ap, ◌∙◌, arith}
use Rattle.near_mirror.specs.Copies.{copy_row, copy_sector, copy_slot, row_of}
use Rattle.near_mirror.proofs.Heads.{chunk_near, copy_among, copy_inside, copy_short, volume_fits}
use Rattle.near_mirror.proofs.types.NearHead.place.Goals as goal

pub row-row-requires-clause-chunk : goal.row-row-requires-clause-chunk
row-row-requires-clause-chunk c =
    let fits = volume_fits c.args.self.now c.args.end c.requires.head c.requires.end in
    let within = c.requires.within in
    chunk_near c.args.self.now c.args.volume_sector (omega arith)

pub slot-requires-clause-chunk : goal.slot-requires-clause-chunk
slot-requires-clause-chunk c =
    let fits = volume_fits c.args.self.now c.args.end c.requires.head c.requires.end in
    let within = c.requires.within in
    chunk_near c.args.self.now c.args.volume_sector (omega arith)

pub overflow_mul-result : goal.overflow_mul-result
overflow_mul-result c =
    let row : c.row-row.result ≡ copy_row c.args.self.now c.args.end c.args.copy c.args.volume_sector
    = c.row-row.ensures ∙ ap (λ (rows : ℕ). row_of c.args.self.now.layout.copying c.args.self.now.members c.args.self.now.layout.copies rows c.args.copy (c.args.volume_sector / c.args.self.now.chunk)) c.rows.ensures in
    let first : c.row-row.result * c.args.self.now.chunk ≡ copy_row c.args.self.now c.args.end c.args.copy c.args.volume_sector * c.args.self.now.chunk = ap (λ (r : ℕ). r * c.args.self.now.chunk) row in
    let short = copy_short c.args.self.now c.args.end c.args.volume_sector c.args.copy c.requires.head c.requires.copy c.requires.within in
    let near = c.requires.end in
    omega arith

pub overflow_add-result : goal.overflow_add-result
overflow_add-result c =
    let row : c.row-row.result ≡ copy_row c.args.self.now c.args.end c.args.copy c.args.volume_sector
    = c.row-row.ensures ∙ ap (λ (rows : ℕ). row_of c.args.self.now.layout.copying c.args.self.now.members c.args.self.now.layout.copies rows c.args.copy (c.args.volume_sector / c.args.self.now.chunk)) c.rows.ensures in
    let first : c.row-row.result * c.args.self.now.chunk ≡ copy_row c.args.self.now c.args.end c.args.copy c.args.volume_sector * c.args.self.now.chunk = ap (λ (r : ℕ). r * c.args.self.now.chunk) row in
    let short = copy_short c.args.self.now c.args.end c.args.volume_sector c.args.copy c.requires.head c.requires.copy c.requires.within in
    let near = c.requires.end in
    omega arith

pub returns : goal.returns
returns c =
    let row : c.row-row.result ≡ copy_row c.args.self.now c.args.end c.args.copy c.args.volume_sector
    = c.row-row.ensures ∙ ap (λ (rows : ℕ). row_of c.args.self.now.layout.copying c.args.self.now.members c.args.self.now.layout.copies rows c.args.copy (c.args.volume_sector / c.args.self.now.chunk)) c.rows.ensures in
    let sector : c.row-row.result * c.args.self.now.chunk + c.args.volume_sector % c.args.self.now.chunk ≡ copy_sector c.args.self.now c.args.end c.args.copy c.args.volume_sector
    = ap (λ (r : ℕ). r * c.args.self.now.chunk + c.args.volume_sector % c.args.self.now.chunk) row in
    let inside = copy_inside c.args.self.now c.args.end c.args.volume_sector c.args.copy c.requires.head c.requires.copy c.requires.within in
    let among = copy_among c.args.self.now c.args.volume_sector c.args.copy c.requires.head in
    let slot : c.slot.result ≡ copy_slot c.args.self.now c.args.copy c.args.volume_sector = c.slot.ensures in
    record {
      within = c.requires.within;
      among = c.requires.copy;
      slot = slot;
      sector = sector;
      held = omega arith;
      inside = omega arith;
    }
