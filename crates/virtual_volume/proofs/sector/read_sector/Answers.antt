use Rattle.std.proofs.Common.{◌≡◌, ℕ, ◌/◌, List, length, get_or, None, false, ap, arith}
use Rattle.std.specs.Option.{is_none}
use Rattle.std.specs.declared.option.Option.{Option}
use Rattle.outside.specs.Attached.{told_all}
use Rattle.outside.proofs.Reading.{reads_up}
use Rattle.outside.specs.Seen.{OnlyReads}
use Rattle.address_map.proofs.Heads.{some_data}
use Rattle.member_regions.proofs.Sets.{testable_head}
use Rattle.virtual_volume.proofs.Blocks.{read_told}
use Rattle.virtual_volume.proofs.sector.read_sector.Goals as goal

pub returns-in-Some-clause-told : goal.returns-in-Some-clause-told
returns-in-Some-clause-told g c =
    let same : get_or c.deref.result.now c.args.slot None ≡ get_or c.args.geo.now.slots.items c.args.slot None = ap (λ (l : List (Option ℕ)). get_or l c.args.slot None) c.deref.ensures.0 in
    let long : length c.read_member.new.to ≡ 512 = omega arith in
    read_told (told_all (g.I.Images.seen c.args.images.now).attached) c.args.geo.now c.args.slot c.args.sector (get_or c.deref.result.now c.args.slot None) c.read_member.result c.read_member.new.to same
    (ap (λ (o : Option ℕ). is_none o) c.in-Some.is) long c.read_member.ensures.told

pub returns-in-Some-clause-reads : goal.returns-in-Some-clause-reads
returns-in-Some-clause-reads g c =
    let some : is_none (get_or c.deref.result.now c.args.slot None) ≡ false = ap (λ (o : Option ℕ). is_none o) c.in-Some.is in
    let read : OnlyReads (g.I.Images.seen c.args.images.now) (g.I.Images.seen c.read_member.new.images) (length c.args.to.now / 512) = rw some at c.read_member.ensures.reads in
    reads_up (g.I.Images.seen c.args.images.now) (g.I.Images.seen c.read_member.new.images) read (omega (arith, some_data c.args.geo.now.head (testable_head c.args.geo.now c.requires.set)))
