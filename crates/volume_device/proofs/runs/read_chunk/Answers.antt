use Rattle.std.proofs.Common.{◌≡◌, ◌+◌, ◌*◌, ◌/◌, List, Option, None, ℕ, true, false, length, get_or, sym, subst, ap, ◌∙◌, arith, rules}
use Rattle.std.specs.Option.{is_none}
use Rattle.outside.specs.Attached.{told_all}
use Rattle.lost_members.specs.Needs.{HoldData}
use Rattle.member_regions.proofs.IfTold.{if_told}
use Rattle.member_regions.specs.Members.{Reaches}
use Rattle.virtual_volume.proofs.Sets.{home_slot_in, served_head, served_testable}
use Rattle.volume_device.specs.Sectors.{sectors_of}
use Rattle.volume_device.proofs.Chunks.{chunk_run, run_among, run_data}
use Rattle.volume_device.proofs.Copies.{read_told}
use Rattle.volume_device.proofs.Memory.{chunk_kept}
use Rattle.volume_device.proofs.runs.read_chunk.Goals as goal

pub locate-requires-clause-head : goal.locate-requires-clause-head
locate-requires-clause-head g c = served_head c.args.geo.now c.args.end (g.I.Images.seen c.args.images.now).attached c.requires.can.set

pub has-requires-clause-near : goal.has-requires-clause-near
has-requires-clause-near g c =
    let keep = chunk_kept c.in-Some.home.slot c.in-Some.home.sector c.args.first (length c.args.to.now / 512) c.requires.can c.in-Some.ensures.lies c.requires.inside c.requires.chunk in
    omega (arith, keep.near)

pub read_member-requires-clause-held : goal.read_member-requires-clause-held
read_member-requires-clause-held g c =
    let attached = (g.I.Images.seen c.args.images.now).attached in
    let home = c.in-Some.home in
    let keep = chunk_kept home.slot home.sector c.args.first (length c.args.to.now / 512) c.requires.can c.in-Some.ensures.lies c.requires.inside c.requires.chunk in
    subst (λ (l : List (Option ℕ)). Reaches attached (c.args.geo.now.head.offset + (home.sector + length c.args.to.now / 512)) (get_or l home.slot None)) (sym c.deref.ensures.0)
    (keep.held home.slot None (home_slot_in c.args.geo.now c.args.end c.args.first attached home.slot home.sector c.requires.can.set c.in-Some.ensures.lies))

pub read_member-requires-clause-near : goal.read_member-requires-clause-near
read_member-requires-clause-near g c =
    let keep = chunk_kept c.in-Some.home.slot c.in-Some.home.sector c.args.first (length c.args.to.now / 512) c.requires.can c.in-Some.ensures.lies c.requires.inside c.requires.chunk in
    omega (arith, keep.near)

pub returns-then-not-has-clause-told : goal.returns-then-not-has-clause-told
returns-then-not-has-clause-told g c =
    let slot : ℕ = c.in-Some.home.slot in
    let same : get_or c.deref.result.now slot None ≡ get_or c.args.geo.now.slots.items slot None = ap (λ (l : List (Option ℕ)). get_or l slot None) c.deref.ensures.0 in
    let there : is_none (get_or c.deref.result.now slot None) ≡ false = search rules in
    let long : length c.read_member.new.to ≡ 512 * (length c.args.to.now / 512) = omega arith in
    read_told (told_all (g.I.Images.seen c.args.images.now).attached) c.args.geo.now slot c.in-Some.home.sector c.args.first (length c.args.to.now / 512) (get_or c.deref.result.now slot None)
    c.read_member.result c.read_member.new.to c.in-Some.ensures.lies c.requires.chunk same there long c.read_member.ensures.told

pub returns-then-not-has-clause-still : goal.returns-then-not-has-clause-still
returns-then-not-has-clause-still g c = λ among.
    let has : c.has.result ≡ true = c.has.ensures ∙ run_among c.args.geo.now.head c.args.kept.now.first c.args.kept.now.count c.args.first (length c.args.to.now / 512) c.in-Some.home.sector (omega arith) c.requires.chunk c.in-Some.ensures.lies.place among in
    absurd (cc)

pub fill-requires-clause-can : goal.fill-requires-clause-can
fill-requires-clause-can g c =
    chunk_kept c.in-Some.home.slot c.in-Some.home.sector c.args.first (length c.args.to.now / 512) c.requires.can c.in-Some.ensures.lies c.requires.inside c.requires.chunk

pub returns-in_err-fill-clause-still : goal.returns-in_err-fill-clause-still
returns-in_err-fill-clause-still g c = λ among.
    c.fill.ensures.still (run_among c.args.geo.now.head c.args.kept.now.first c.args.kept.now.count c.args.first (length c.args.to.now / 512) c.in-Some.home.sector (omega arith) c.requires.chunk c.in-Some.ensures.lies.place among)

pub returns-clause-told : goal.returns-clause-told
returns-clause-told g c =
    let geo = c.args.geo.now in
    let home = c.in-Some.home in
    let attached = (g.I.Images.seen c.args.images.now).attached in
    let kept = c.fill.new.self in
    let n : ℕ = length c.args.to.now / 512 in
    let lies = c.in-Some.ensures.lies in
    if_told (told_all attached) (λ bytes. HoldData bytes geo kept.regions.stride kept.first kept.count kept.regions.bytes) (λ bytes. c.copy.new.to ≡ sectors_of bytes geo c.args.first n)
    (λ bytes hold.
    c.copy.ensures bytes geo (home_slot_in geo c.args.end c.args.first attached home.slot home.sector c.requires.can.set lies) hold
    (run_data geo home.slot home.sector c.args.first n (served_testable geo c.args.end attached c.requires.can.set) lies c.requires.chunk)
    ∙ chunk_run bytes geo home.slot home.sector c.args.first n lies c.requires.chunk) c.fill.ensures.read.kept.holds

pub returns-clause-still : goal.returns-clause-still
returns-clause-still g c = λ among.
    c.fill.ensures.still (run_among c.args.geo.now.head c.args.kept.now.first c.args.kept.now.count c.args.first (length c.args.to.now / 512) c.in-Some.home.sector (omega arith) c.requires.chunk c.in-Some.ensures.lies.place among)
