use Rattle.std.proofs.Common.{arith}
use Rattle.outside.specs.Attached.{told_all}
use Rattle.member_regions.proofs.IfTold.{if_told}
use Rattle.near_mirror.proofs.Heads.{few_members, some_members}
use Rattle.near_search.specs.Hopeful.{AdmitsHopeful, IsHeadTable}
use Rattle.near_search.proofs.Parted.{admits_hopeful}
use Rattle.near_search.proofs.hopeful.NearHopeful.of_head.Goals as goal

pub invariant_of-result : goal.invariant_of-result
invariant_of-result g c =
    let some = some_members c.args.head.now c.requires.valid in
    let few = c.requires.images.few in
    let many = c.requires.many in
    let images = c.requires.over in
    let members = c.requires.members in
    let first = c.first_chunks.ensures in
    let most = few_members c.args.head.now c.requires.valid in
    (omega arith, omega arith, c.requires.valid, omega arith)

pub returns-clause-hopeful : goal.returns-clause-hopeful
returns-clause-hopeful g c =
    if_told (told_all (g.I.Images.seen c.args.images.now).attached)
    (λ bytes. IsHeadTable bytes c.args.many c.args.ask.now c.args.head.now c.in_ok-table.table)
    (λ bytes. AdmitsHopeful bytes c.args.many c.args.ask.now c.args.head.now (record { space = c.args.space; head = c.args.head.now; chunks = c.first_chunks.result; table = c.in_ok-table.table; most = c.args.ask.now.badrows }))
    (λ bytes is. admits_hopeful bytes c.args.many c.args.ask.now c.args.head.now c.args.space c.first_chunks.result c.in_ok-table.table c.requires.valid c.first_chunks.ensures is)
    c.in_ok-table.ensures.table
