use Rattle.std.proofs.Common.{◌≡◌, ℕ, ◌+◌, ◌*◌, List, [], ◌++◌, ap, subst, arith, rules}
use Rattle.outside.specs.Attached.{told_all}
use Rattle.outside.specs.Streams.{AppendsFront, AppendsSectors, Puts}
use Rattle.raid_params.specs.Size.{data_blocks, rows}
use Rattle.member_regions.specs.declared.regions.TheConstants.{BLOCK}
use Rattle.raid_terms.specs.Volume.{volume}
use Rattle.member_regions.proofs.Sets.{testable_chunk}
use Rattle.virtual_volume.specs.Parts.{rows_of}
use Rattle.virtual_volume.specs.Waiting.{Passes}
use Rattle.virtual_volume.proofs.Ahead.{ahead_passed}
use Rattle.virtual_volume.proofs.Fronts.{puts_err}
use Rattle.member_regions.proofs.IfTold.{if_told}
use Rattle.virtual_volume.proofs.Puts.{rows_flushed, rows_whole}
use Rattle.virtual_volume.proofs.Sets.{needed_volume, served_end, served_held, served_testable}
use Rattle.virtual_volume.proofs.volume.write_all.Goals as goal

pub write_rows-requires-clause-held : goal.write_rows-requires-clause-held
write_rows-requires-clause-held g c =
    let some = testable_chunk c.args.geo.now (served_testable c.args.geo.now c.args.end (g.I.Images.seen c.args.images.now).attached c.requires.set) in
    let same : c.rows-rows.result * c.args.geo.now.head.chunk ≡ rows c.args.geo.now.head c.args.end * c.args.geo.now.head.chunk = ap (λ (n : ℕ). n * c.args.geo.now.head.chunk) c.rows-rows.ensures in
    let near = served_end c.args.geo.now c.args.end (g.I.Images.seen c.args.images.now).attached c.requires.set some in
    served_held c.args.geo.now c.args.end (c.args.geo.now.head.offset + c.rows-rows.result * c.args.geo.now.head.chunk) (g.I.Images.seen c.args.images.now).attached c.requires.set (omega arith)

pub returns-in_err-write_rows-clause-put : goal.returns-in_err-write_rows-clause-put
returns-in_err-write_rows-clause-put g c =
    if_told (told_all (g.I.Images.seen c.args.images.now).attached)
    (λ bytes. AppendsFront (g.K.Sink.gained c.args.sink.now) (g.K.Sink.gained c.write_rows.new.sink) (c.args.pending.now ++ rows_of bytes c.args.geo.now 0 c.rows-rows.result))
    (λ bytes. Puts (g.K.Sink.gained c.args.sink.now) (g.K.Sink.gained c.write_rows.new.sink) c.from_residual.result (volume bytes c.args.geo.now c.args.end))
    (λ bytes q.
    puts_err (g.K.Sink.gained c.args.sink.now) (g.K.Sink.gained c.write_rows.new.sink) (volume bytes c.args.geo.now c.args.end) c.from_residual.result c.from_residual.ensures.0
    (subst (λ (l : List ℕ). AppendsFront (g.K.Sink.gained c.args.sink.now) (g.K.Sink.gained c.write_rows.new.sink) l)
    (rows_whole bytes c.args.geo.now c.args.end c.rows-rows.result c.args.pending.now c.requires.empty c.rows-rows.ensures) q))
    c.in_err-write_rows.ensures.passed

pub returns-in_err-write_rows-clause-whole : goal.returns-in_err-write_rows-clause-whole
returns-in_err-write_rows-clause-whole g c = λ is.
    if_told (told_all (g.I.Images.seen c.args.images.now).attached)
    (λ bytes. AppendsSectors (g.K.Sink.gained c.args.sink.now) (g.K.Sink.gained c.write_rows.new.sink) (c.args.pending.now ++ rows_of bytes c.args.geo.now 0 c.rows-rows.result))
    (λ bytes. AppendsSectors (g.K.Sink.gained c.args.sink.now) (g.K.Sink.gained c.write_rows.new.sink) (volume bytes c.args.geo.now c.args.end))
    (λ bytes q.
    subst (λ (l : List ℕ). AppendsSectors (g.K.Sink.gained c.args.sink.now) (g.K.Sink.gained c.write_rows.new.sink) l)
    (rows_whole bytes c.args.geo.now c.args.end c.rows-rows.result c.args.pending.now c.requires.empty c.rows-rows.ensures) q)
    (c.in_err-write_rows.ensures.whole (search rules))

pub returns-clause-put : goal.returns-clause-put
returns-clause-put g c =
    if_told (told_all (g.I.Images.seen c.args.images.now).attached)
    (λ bytes. Passes (g.K.Sink.gained c.args.sink.now) (g.K.Sink.gained c.write_rows.new.sink) c.args.pending.now c.write_rows.new.pending (rows_of bytes c.args.geo.now 0 c.rows-rows.result))
    (λ bytes. Puts (g.K.Sink.gained c.args.sink.now) (g.K.Sink.gained c.flush.new.sink) c.map_err.result (volume bytes c.args.geo.now c.args.end))
    (λ bytes p.
    rows_flushed _ bytes c.args.geo.now c.args.end c.rows-rows.result (g.K.Sink.gained c.args.sink.now) (g.K.Sink.gained c.write_rows.new.sink) (g.K.Sink.gained c.flush.new.sink) c.args.pending.now c.write_rows.new.pending c.flush.new.self
    c.flush.result c.map_err.result c.requires.empty c.rows-rows.ensures c.flush.ensures.none c.map_err.ensures.cases p c.flush.ensures.passed)
    c.in_ok-write_rows.ensures.passed

pub returns-in_err-write_rows-clause-reads : goal.returns-in_err-write_rows-clause-reads
returns-in_err-write_rows-clause-reads g c =
    needed_volume (g.I.Images.seen c.args.images.now) (g.I.Images.seen c.write_rows.new.images) c.args.geo.now c.args.end c.rows-rows.result (g.I.Images.seen c.args.images.now).attached c.requires.set c.rows-rows.ensures c.write_rows.ensures.reads

pub returns-clause-reads : goal.returns-clause-reads
returns-clause-reads g c =
    needed_volume (g.I.Images.seen c.args.images.now) (g.I.Images.seen c.write_rows.new.images) c.args.geo.now c.args.end c.rows-rows.result (g.I.Images.seen c.args.images.now).attached c.requires.set c.rows-rows.ensures c.write_rows.ensures.reads

pub returns-clause-ahead : goal.returns-clause-ahead
returns-clause-ahead g c =
    ahead_passed (told_all (g.I.Images.seen c.args.images.now).attached) (data_blocks c.args.geo.now.head * (c.args.batch * c.args.geo.now.head.chunk) + BLOCK) (g.I.Images.seen c.args.images.now).sectors_read (g.I.Images.seen c.write_rows.new.images).sectors_read
    (g.K.Sink.gained c.args.sink.now) (g.K.Sink.gained c.write_rows.new.sink) (g.K.Sink.gained c.flush.new.sink) c.write_rows.new.pending c.flush.new.self [] c.flush.result
    c.write_rows.ensures.ahead c.flush.ensures.passed
