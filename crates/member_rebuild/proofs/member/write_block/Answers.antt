use Rattle.std.proofs.Common.{ℕ, List, IfSome, rules, subst}
use Rattle.outside.specs.Attached.{told_all}
use Rattle.outside.specs.Streams.{Puts}
use Rattle.member_regions.specs.Members.{HoldBytes}
use Rattle.lost_members.specs.Needs.{HoldNeeded}
use Rattle.member_regions.proofs.ColumnBytes.{told_bytes}
use Rattle.virtual_volume.proofs.Fronts.{front_none, puts_err}
use Rattle.member_regions.proofs.IfTold.{if_any, if_both}
use Rattle.lost_members.proofs.NeededRows.{reads_data}
use Rattle.member_rebuild.specs.Sectors.{sectors_of}
use Rattle.member_rebuild.proofs.Parts.{part_is}
use Rattle.virtual_volume.proofs.Fronts.{puts_as}
use Rattle.member_rebuild.proofs.member.write_block.Goals as goal

pub returns-in_err-map_err-clause-put : goal.returns-in_err-map_err-clause-put
returns-in_err-map_err-clause-put g c =
    if_any (told_all (g.I.Images.seen c.args.images.now).attached)
    (λ bytes. Puts (g.K.Sink.gained c.args.sink.now) (g.K.Sink.gained c.args.sink.now) c.from_residual.result (sectors_of bytes c.args.geo.now c.args.slot c.args.first c.args.count))
    (λ bytes. puts_err (g.K.Sink.gained c.args.sink.now) (g.K.Sink.gained c.args.sink.now) (sectors_of bytes c.args.geo.now c.args.slot c.args.first c.args.count) c.from_residual.result c.from_residual.ensures.0
    (front_none (g.K.Sink.gained c.args.sink.now) (sectors_of bytes c.args.geo.now c.args.slot c.args.first c.args.count)))

pub returns-clause-put : goal.returns-clause-put
returns-clause-put g c =
    let held : IfSome (told_all (g.I.Images.seen c.args.images.now).attached)
    (λ bytes. HoldNeeded bytes c.args.geo.now c.read_needed.new.self.stride c.args.first c.args.count c.read_needed.new.self.bytes) = search rules in
    if_both (told_all (g.I.Images.seen c.args.images.now).attached)
    (λ bytes. HoldBytes bytes)
    (λ bytes. HoldNeeded bytes c.args.geo.now c.read_needed.new.self.stride c.args.first c.args.count c.read_needed.new.self.bytes)
    (λ bytes. Puts (g.K.Sink.gained c.args.sink.now) (g.K.Sink.gained c.put.new.self) c.map_err-2.result (sectors_of bytes c.args.geo.now c.args.slot c.args.first c.args.count))
    (λ bytes are hold.
    subst (λ (l : List ℕ). Puts (g.K.Sink.gained c.args.sink.now) (g.K.Sink.gained c.put.new.self) c.map_err-2.result l)
    (part_is bytes c.args.geo.now c.solve_parity.new.self.stride c.args.first c.args.count c.args.slot c.solve_parity.new.self.bytes c.region.result.now
    (c.solve_parity.ensures.found bytes are (c.solve_data.ensures.found bytes hold)) c.region.ensures.long c.region.ensures.sectors)
    (puts_as _ (g.K.Sink.gained c.args.sink.now) (g.K.Sink.gained c.put.new.self) c.region.result.now c.put.result c.map_err-2.result c.map_err-2.ensures.cases c.put.ensures.bytes))
    (told_bytes (g.I.Images.seen c.args.images.now).attached (g.met.I.Images.tells_bytes c.args.images.now))
    held

pub returns-in_err-map_err-clause-reads : goal.returns-in_err-map_err-clause-reads
returns-in_err-map_err-clause-reads g c =
    reads_data (g.I.Images.seen c.args.images.now) (g.I.Images.seen c.read_needed.new.images) c.args.geo.now c.args.first c.args.count c.requires.set c.read_needed.ensures.reads

pub returns-clause-reads : goal.returns-clause-reads
returns-clause-reads g c =
    reads_data (g.I.Images.seen c.args.images.now) (g.I.Images.seen c.read_needed.new.images) c.args.geo.now c.args.first c.args.count c.requires.set c.read_needed.ensures.reads
