-- What is read for a page.
use Rattle.std.proofs.Common.{ℕ, ◌+◌, ◌*◌, ◌/◌, ◌<◌, ◌≤◌, List, [], arith, Option}
use Rattle.std.proofs.Math.Nat.{le-div_iff_mul-le, mul-le-mul_right}
use Rattle.outside.proofs.Reading.{reads_up}
use Rattle.outside.specs.Seen.{OnlyReads, Seen}
use Rattle.search_plan.specs.declared.plan.Plan.{Plan}
use Rattle.head_walk.proofs.Counting.{hopeful_parts, open_parts}
use Rattle.head_walk.specs.Counts.{hopeful_ranks, most_scanned}
use Rattle.head_walk.specs.Walk.{AreScans, left_reads, ReadsRange}
use Rattle.common_pages.specs.Pages.{page_reads, scans, table_reads}

-- they are no more than a page takes
pub within_scans : (told : Option (List (List ℕ))) (plan : Plan) (from to count : ℕ) → AreScans told plan from to 4095 count → count ≤ scans told plan from to
unfolding scans
within_scans told plan from to count few =
    let needed = few.needed in
    let many : count * 4096 ≤ hopeful_ranks told plan from to + 4095 = few.many in
    let fits : count ≤ (hopeful_ranks told plan from to + 4095) / 4096 = (le-div_iff_mul-le (let some : 0 < 4096 = omega arith in some)).1 many in
    omega arith

-- that is within the readings of a page
pub page_scans : (told : Option (List (List ℕ))) (plan : Plan) (from to b a : ℕ) (old new : Seen) → b ≤ table_reads plan → ReadsRange told plan from to 4095 b a old new → OnlyReads old new (page_reads told plan from to)
unfolding page_reads
page_scans told plan from to b a old new most scanned =
    let few : scanned.count * most_scanned plan ≤ scans told plan from to * most_scanned plan = mul-le-mul_right (most_scanned plan) (within_scans told plan from to scanned.count scanned.few) in
    reads_up old new scanned.spends.reads (omega arith)

-- before any table is made, those of all offsets are left to read
pub left_all : (plan : Plan) → left_reads plan [] ≤ table_reads plan
unfolding left_reads table_reads
left_all plan = omega arith

-- for more ranks no less is read
scans_up : (told : Option (List (List ℕ))) (plan : Plan) (from mid to : ℕ) → from ≤ mid → mid ≤ to → scans told plan from mid ≤ scans told plan from to
unfolding scans
scans_up told plan from mid to low high =
    let hopeful = hopeful_parts told plan from mid to low high in
    let open_ones = open_parts told plan from mid to low high in
    omega arith

pub page_reads_up : (told : Option (List (List ℕ))) (plan : Plan) (from mid to : ℕ) → from ≤ mid → mid ≤ to → page_reads told plan from mid ≤ page_reads told plan from to
unfolding page_reads
page_reads_up told plan from mid to low high =
    let few = mul-le-mul_right (most_scanned plan) (scans_up told plan from mid to low high) in
    omega arith
