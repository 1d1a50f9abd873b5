use Rattle.std.proofs.Common.{rules, List, ◌≡◌, All, None, length, sym, ap, subst, arith, Ok, true, refl}
use Rattle.std.specs.Option.{is_some}
use Rattle.outside.specs.Attached.{told_all}
use Rattle.raid_params.specs.declared.types.Geometry.{Geometry}
use Rattle.parity_scan.specs.Scan.{IsScannable}
use Rattle.parity_scan.specs.Tallies.{AllTallies, BeginsAs}
use Rattle.head_walk.specs.Walk.{ranked_sets}
use Rattle.head_walk.proofs.Candidates.{all_begin, waiting_closed, written_known, written_told}
use Rattle.head_walk.proofs.Judging.{all_few, all_scannable, waiting_read}
use Rattle.head_walk.proofs.Known.{known_most}
use Rattle.head_walk.proofs.Passed.{at_ok, gathers_none, gathers_some, waiting_added, waiting_past}
use Rattle.head_walk.proofs.Waits.{each_waits, waiting_ranks}
use Rattle.head_walk.proofs.scanning.scan_waiting.Goals as goal
use Rattle.search_plan.specs.Plans.{scope_of}

pub scan_tallied-requires-clause-sets : goal.scan_tallied-requires-clause-sets
scan_tallied-requires-clause-sets g c κs within =
    subst (λ (l : List Geometry). All (λ geo. IsScannable geo c.args.paging.now.plan.now.end (g.I.Images.seen c.args.images.now).attached) l) (sym c.as_slice.ensures)
    (all_scannable (told_all (g.I.Images.seen c.args.images.now).attached) c.args.paging.now.plan.now (g.I.Images.seen c.args.images.now).attached c.args.page.now.waiting.ranks c.args.page.now.waiting.sets c.requires.can.is_plan c.requires.can.agrees c.requires.are.ranks (each_waits (told_all (g.I.Images.seen c.args.images.now).attached) c.args.paging.now.plan.now c.args.page.now.tested c.args.at (ranked_sets c.args.page.now.waiting.ranks c.args.page.now.waiting.sets) c.requires.wait))

pub scan_tallied-requires-clause-begin : goal.scan_tallied-requires-clause-begin
scan_tallied-requires-clause-begin g c κs within =
    subst (λ (l : List Geometry). AllTallies (BeginsAs (told_all (g.I.Images.seen c.args.images.now).attached) (scope_of c.args.paging.now.plan.now)) l c.deref_mut.result.now) (sym c.as_slice.ensures)
    (all_begin (g.I.Images.seen c.args.images.now).attached c.args.paging.now.plan.now c.args.page.now.waiting c.deref_mut.result.now c.requires.can.is_plan c.requires.can.agrees (g.met.I.Images.tells_bytes c.args.images.now) c.requires.are c.deref_mut.ensures.value (each_waits (told_all (g.I.Images.seen c.args.images.now).attached) c.args.paging.now.plan.now c.args.page.now.tested c.args.at (ranked_sets c.args.page.now.waiting.ranks c.args.page.now.waiting.sets) c.requires.wait))

pub returns-in_err-scan_tallied-clause-reads : goal.returns-in_err-scan_tallied-clause-reads
returns-in_err-scan_tallied-clause-reads g c = waiting_read (g.I.Images.seen c.args.images.now) (g.I.Images.seen c.scan_tallied.new.images) c.args.paging.now.plan.now c.args.page.now.tested c.args.at c.args.page.now.waiting c.as_slice.result.now c.requires.can.agrees c.requires.are c.requires.wait c.as_slice.ensures c.scan_tallied.ensures.reads

pub returns-in_err-scan_tallied-clause-unread : goal.returns-in_err-scan_tallied-clause-unread
returns-in_err-scan_tallied-clause-unread g c = λ all. c.scan_tallied.ensures.unread (waiting_closed c.args.paging.now.plan.now c.args.page.now.waiting c.deref_mut.result.now c.requires.are c.deref_mut.ensures.value all)

pub add_passed-requires-clause-last : goal.add_passed-requires-clause-last
add_passed-requires-clause-last g c = waiting_ranks (told_all (g.I.Images.seen c.args.images.now).attached) c.args.paging.now.plan.now c.args.page.now.tested c.args.at c.args.page.now.waiting.ranks c.args.page.now.waiting.sets c.requires.are.ranks c.ranges.at.fits c.requires.wait

pub add_passed-requires-clause-slots : goal.add_passed-requires-clause-slots
add_passed-requires-clause-slots g c = all_few (told_all (g.I.Images.seen c.args.images.now).attached) c.args.paging.now.plan.now c.args.page.now.waiting.ranks c.args.page.now.waiting.sets c.requires.can.is_plan c.requires.are.ranks (each_waits (told_all (g.I.Images.seen c.args.images.now).attached) c.args.paging.now.plan.now c.args.page.now.tested c.args.at (ranked_sets c.args.page.now.waiting.ranks c.args.page.now.waiting.sets) c.requires.wait)

pub returns-in_err-full-clause-reads : goal.returns-in_err-full-clause-reads
returns-in_err-full-clause-reads g c = waiting_read (g.I.Images.seen c.args.images.now) (g.I.Images.seen c.scan_tallied.new.images) c.args.paging.now.plan.now c.args.page.now.tested c.args.at c.args.page.now.waiting c.as_slice.result.now c.requires.can.agrees c.requires.are c.requires.wait c.as_slice.ensures c.scan_tallied.ensures.reads

pub returns-in_err-full-clause-unread : goal.returns-in_err-full-clause-unread
returns-in_err-full-clause-unread g c = λ all. c.scan_tallied.ensures.unread (waiting_closed c.args.paging.now.plan.now c.args.page.now.waiting c.deref_mut.result.now c.requires.are c.deref_mut.ensures.value all)

pub returns-then-is_none-clause-gathers : goal.returns-then-is_none-clause-gathers
returns-then-is_none-clause-gathers g c =
    let ok : c.add_passed.result ≡ Ok c.in_ok-full.full = search rules in
    let adds = at_ok _ c.add_passed.result c.in_ok-full.full ok c.add_passed.ensures in
    let empty : c.in_ok-full.full ≡ None = search rules in
    gathers_none (told_all (g.I.Images.seen c.args.images.now).attached) c.args.paging.now.plan.now c.args.paging.now.size c.args.at c.args.page.now (record { lines = c.add_passed.new.lines; tested = c.args.at; waiting = c.none.result }) c.add_passed.new.lines (ranked_sets c.args.page.now.waiting.ranks c.args.page.now.waiting.sets) c.in_ok-full.full
    empty refl refl (record { ranks = c.none.ensures.ranks; sets = c.none.ensures.sets; tallies = c.none.ensures.tallies; known = c.none.ensures.known }) c.requires.wait
    (waiting_added (told_all (g.I.Images.seen c.args.images.now).attached) c.args.paging.now.plan.now c.args.page.now.tested c.args.at c.args.paging.now.size c.args.page.now.waiting _ c.args.page.now.lines c.add_passed.new.lines c.in_ok-full.full refl refl c.requires.wait (written_told (told_all (g.I.Images.seen c.args.images.now).attached) c.args.paging.now.plan.now c.args.page.now.waiting.tallies.items c.scan_tallied.new.tallies c.as_slice.result.now c.args.page.now.waiting.sets c.args.page.now.waiting.tallies.len (let long = c.scan_tallied.ensures.long in let same = ap length c.as_slice.ensures in let room = c.deref_mut.ensures.len in let items = ap length c.deref_mut.ensures.value in omega arith) c.as_slice.ensures c.in_ok-scan_tallied.ensures.told) adds)

pub returns-then-is_none-clause-fills : goal.returns-then-is_none-clause-fills
returns-then-is_none-clause-fills g c =
    let ok : c.add_passed.result ≡ Ok c.in_ok-full.full = search rules in
    let adds = at_ok _ c.add_passed.result c.in_ok-full.full ok c.add_passed.ensures in
    let most = known_most c.args.paging.now.plan.now c.args.page.now.waiting.sets in
    let known = c.requires.are.known in
    adds.fills c.args.page.now.waiting.known (omega arith) (written_known c.args.paging.now.plan.now c.args.page.now.waiting c.deref_mut.result.now c.scan_tallied.new.tallies c.args.page.now.waiting.tallies.len c.requires.are c.deref_mut.ensures.value (let long = c.scan_tallied.ensures.long in let same = ap length c.as_slice.ensures in let room = c.deref_mut.ensures.len in let items = ap length c.deref_mut.ensures.value in omega arith) c.scan_tallied.ensures.settled)

pub returns-then-is_none-clause-reads : goal.returns-then-is_none-clause-reads
returns-then-is_none-clause-reads g c = waiting_read (g.I.Images.seen c.args.images.now) (g.I.Images.seen c.scan_tallied.new.images) c.args.paging.now.plan.now c.args.page.now.tested c.args.at c.args.page.now.waiting c.as_slice.result.now c.requires.can.agrees c.requires.are c.requires.wait c.as_slice.ensures c.scan_tallied.ensures.reads

pub returns-then-is_none-clause-unread : goal.returns-then-is_none-clause-unread
returns-then-is_none-clause-unread g c = λ all. c.scan_tallied.ensures.unread (waiting_closed c.args.paging.now.plan.now c.args.page.now.waiting c.deref_mut.result.now c.requires.are c.deref_mut.ensures.value all)

pub returns-else-is_none-clause-gathers : goal.returns-else-is_none-clause-gathers
returns-else-is_none-clause-gathers g c =
    let ok : c.add_passed.result ≡ Ok c.in_ok-full.full = search rules in
    let adds = at_ok _ c.add_passed.result c.in_ok-full.full ok c.add_passed.ensures in
    let some : is_some c.in_ok-full.full ≡ true = search rules in
    gathers_some (told_all (g.I.Images.seen c.args.images.now).attached) c.args.paging.now.plan.now c.args.paging.now.size c.args.at c.args.page.now (record { lines = c.add_passed.new.lines; tested = c.args.page.now.tested; waiting = _ }) c.add_passed.new.lines c.in_ok-full.full some refl
    (waiting_added (told_all (g.I.Images.seen c.args.images.now).attached) c.args.paging.now.plan.now c.args.page.now.tested c.args.at c.args.paging.now.size c.args.page.now.waiting _ c.args.page.now.lines c.add_passed.new.lines c.in_ok-full.full refl refl c.requires.wait (written_told (told_all (g.I.Images.seen c.args.images.now).attached) c.args.paging.now.plan.now c.args.page.now.waiting.tallies.items c.scan_tallied.new.tallies c.as_slice.result.now c.args.page.now.waiting.sets c.args.page.now.waiting.tallies.len (let long = c.scan_tallied.ensures.long in let same = ap length c.as_slice.ensures in let room = c.deref_mut.ensures.len in let items = ap length c.deref_mut.ensures.value in omega arith) c.as_slice.ensures c.in_ok-scan_tallied.ensures.told) adds)

pub returns-else-is_none-clause-past : goal.returns-else-is_none-clause-past
returns-else-is_none-clause-past g c =
    let ok : c.add_passed.result ≡ Ok c.in_ok-full.full = search rules in
    let adds = at_ok _ c.add_passed.result c.in_ok-full.full ok c.add_passed.ensures in
    waiting_past c.args.page.now.waiting c.args.page.now.waiting (length c.args.page.now.lines) c.args.paging.now.size c.in_ok-full.full refl adds.past

pub returns-else-is_none-clause-reads : goal.returns-else-is_none-clause-reads
returns-else-is_none-clause-reads g c = waiting_read (g.I.Images.seen c.args.images.now) (g.I.Images.seen c.scan_tallied.new.images) c.args.paging.now.plan.now c.args.page.now.tested c.args.at c.args.page.now.waiting c.as_slice.result.now c.requires.can.agrees c.requires.are c.requires.wait c.as_slice.ensures c.scan_tallied.ensures.reads

pub returns-else-is_none-clause-unread : goal.returns-else-is_none-clause-unread
returns-else-is_none-clause-unread g c = λ all. c.scan_tallied.ensures.unread (waiting_closed c.args.paging.now.plan.now c.args.page.now.waiting c.deref_mut.result.now c.requires.are c.deref_mut.ensures.value all)
