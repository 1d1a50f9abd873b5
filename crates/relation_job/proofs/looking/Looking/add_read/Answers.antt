use Rattle.std.proofs.Common.{◌≡◌, ◌+◌, ◌++◌, List, ℕ, drop, length, take, arith, ap, ◌∙◌}
use Rattle.row_relations.specs.Tables.{IsTable}
use Rattle.relation_lines.specs.Runs.{Row}
use Rattle.relation_job.specs.Blocks.{block_row}
use Rattle.relation_job.specs.Sampling.{row_number}
use Rattle.relation_job.proofs.Parts.{kept_whole, picked_is, takes_cut, takes_more}
use Rattle.relation_job.proofs.looking.Looking.add_read.Goals as goal

pub overflow_add-row : goal.overflow_add-row
overflow_add-row g c = omega arith

pub returns-in-Err-clause-put : goal.returns-in-Err-clause-put
returns-in-Err-clause-put g c =
    let start = c.args.self.now.report in
    let was = c.loop-place.invariant in
    let block = c.args.block.now in
    let part = c.args.part in
    let place = c.loop-place.place in
    let items = c.loop-place.self.sectors.items in
    let len = c.loop-place.self.sectors.len in
    let value = ap (λ (l : List ℕ). length l) c.as_mut_slice.ensures.value in
    let whole : len ≡ length items = omega (arith, c.as_mut_slice.ensures.len, value) in
    let same : length c.pick_row.new.to ≡ length items = c.pick_row.auto.to ∙ value in
    let images : c.images-count.result ≡ start.images = c.images-count.ensures.images ∙ c.requires.table in
    let picked = c.pick_row.ensures ∙ ap (λ (n : ℕ). block_row block n part.rows place) images in
    let made : IsTable (length c.loop-place.self.table.standings) c.deref.result.now c.fill.new.self = record { standings = c.fill.ensures.standings; weights = c.fill.ensures.weights; each = c.fill.ensures.each } in
    let row : Row = record { sector = row_number part.sampling (part.first + place); table = c.fill.new.self } in
    let is = picked_is block start.images part place len items c.pick_row.new.to c.deref.result.now c.loop-place.self.table c.fill.new.self c.requires.few (λ i. omega (arith, c.type_inv.block i)) picked whole same c.deref.ensures.value was.table made in
    takes_cut block part place (g.K.Sink.gained c.args.out.now) (g.K.Sink.gained c.loop-place.out) (g.K.Sink.gained c.add.new.sink) (g.K.Sink.faults c.args.out.now) (g.K.Sink.faults c.loop-place.out) start c.loop-place.self.report items
    c.loop-place.self.table row (length c.args.self.now.sectors.items) c.loop-place-test.true was is c.in-Err.ensures.put

pub loop-place-preserved : goal.loop-place-preserved
loop-place-preserved g c =
    let start = c.args.self.now.report in
    let was = c.loop-place.invariant in
    let block = c.args.block.now in
    let part = c.args.part in
    let place = c.loop-place.place in
    let items = c.loop-place.self.sectors.items in
    let len = c.loop-place.self.sectors.len in
    let value = ap (λ (l : List ℕ). length l) c.as_mut_slice.ensures.value in
    let whole : len ≡ length items = omega (arith, c.as_mut_slice.ensures.len, value) in
    let same : length c.pick_row.new.to ≡ length items = c.pick_row.auto.to ∙ value in
    let images : c.images-count.result ≡ start.images = c.images-count.ensures.images ∙ c.requires.table in
    let picked = c.pick_row.ensures ∙ ap (λ (n : ℕ). block_row block n part.rows place) images in
    let made : IsTable (length c.loop-place.self.table.standings) c.deref.result.now c.fill.new.self = record { standings = c.fill.ensures.standings; weights = c.fill.ensures.weights; each = c.fill.ensures.each } in
    let row : Row = record { sector = row_number part.sampling (part.first + place); table = c.fill.new.self } in
    let is = picked_is block start.images part place len items c.pick_row.new.to c.deref.result.now c.loop-place.self.table c.fill.new.self c.requires.few (λ i. omega (arith, c.type_inv.block i)) picked whole same c.deref.ensures.value was.table made in
    let newer = take len (c.pick_row.new.to ++ drop (length c.pick_row.new.to) items) in
    let long : length newer ≡ length c.args.self.now.sectors.items = ap (λ (l : List ℕ). length l) (kept_whole len c.pick_row.new.to items whole same) ∙ same ∙ was.sectors in
    takes_more block part place (g.K.Sink.gained c.args.out.now) (g.K.Sink.gained c.loop-place.out) (g.K.Sink.gained c.add.new.sink) (g.K.Sink.faults c.args.out.now) (g.K.Sink.faults c.loop-place.out) (g.K.Sink.faults c.add.new.sink) start
    c.loop-place.self.report c.add.new.self items newer c.loop-place.self.table c.add.new.table row (length c.args.self.now.sectors.items) was (omega (arith, was.room)) is c.in-Ok.ensures.state c.in-Ok.ensures.put c.in-Ok.ensures.cause.stays long c.in-Ok.ensures.images
