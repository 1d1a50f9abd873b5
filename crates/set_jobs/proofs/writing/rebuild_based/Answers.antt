use Rattle.std.proofs.Common.{◌≡◌, ◌∙◌, List, ℕ, subst, rules}
use Rattle.outside.specs.Attached.{told_all}
use Rattle.image_padding.specs.Padded.{padded_images, seen_padded}
use Rattle.raid_terms.specs.Volume.{member}
use Rattle.run_ends.specs.Jobs.{stream}
use Rattle.set_jobs.specs.Writing.{Writes, told_for, volume_reads_to}
use Rattle.set_jobs.proofs.Written.{writes_within}
use Rattle.set_jobs.proofs.writing.rebuild_based.Goals as goal

pub returns-else-is_empty-clause-does : goal.returns-else-is_empty-clause-does
returns-else-is_empty-clause-does g c =
    let set = c.args.set.now in
    let inner = c.new-padded.result.images.now in
    let old = g.I.Images.seen inner in
    let new = g.I.Images.seen c.rebuild-else-is_empty.new.images.images.now in
    let out = stream (g.K.Sink.gained c.args.sink.now) (g.K.Sink.faults c.args.sink.now) in
    let put = stream (g.K.Sink.gained c.rebuild-else-is_empty.new.sink) (g.K.Sink.faults c.rebuild-else-is_empty.new.sink) in
    let reference = c.new-padded.result.images.ghost_name in
    let other = c.rebuild-else-is_empty.new.images.images.ghost_name in
    let bases = c.new-padded.result.bases.items in
    let others = c.rebuild-else-is_empty.new.images.bases.items in
    let e = c.rebuild-else-is_empty.ensures in
    let padded : Writes (volume_reads_to set c.args.end) (λ bytes. member bytes c.args.set.now.geo c.args.end c.args.slot) (told_all (padded_images bases old.attached)) (seen_padded reference bases old) (seen_padded other others new) out put c.rebuild-else-is_empty.result
    = record { written = e.written; front = e.front; whole = e.whole; memory = e.memory; faults = e.faults; reads = e.reads; later = e.later } in
    let within = writes_within reference other bases others (volume_reads_to set c.args.end) (λ bytes. member bytes c.args.set.now.geo c.args.end c.args.slot) (told_all (padded_images bases old.attached)) old new out put c.rebuild-else-is_empty.result padded in
    let kept : other ≡ reference = within.0 in
    let same : bases ≡ set.bases.items = c.new-padded.ensures.bases ∙ c.deref.ensures.0 in
    let based : Writes (volume_reads_to set c.args.end) (λ bytes. member bytes c.args.set.now.geo c.args.end c.args.slot) (told_for set old.attached) old new out put c.rebuild-else-is_empty.result
    = subst (λ (bs : List ℕ). Writes (volume_reads_to set c.args.end) (λ bytes. member bytes c.args.set.now.geo c.args.end c.args.slot) (told_all (padded_images bs old.attached)) old new out put c.rebuild-else-is_empty.result) same within.1 in
    let done : Writes (volume_reads_to set c.args.end) (λ bytes. member bytes c.args.set.now.geo c.args.end c.args.slot) (told_for set (g.I.Images.seen c.args.images.now).attached) (g.I.Images.seen c.args.images.now) new out put c.rebuild-else-is_empty.result
    = subst (λ v. Writes (volume_reads_to set c.args.end) (λ bytes. member bytes c.args.set.now.geo c.args.end c.args.slot) (told_for set (g.I.Images.seen v).attached) (g.I.Images.seen v) new out put c.rebuild-else-is_empty.result) c.new-padded.ensures.within based in
    search rules
