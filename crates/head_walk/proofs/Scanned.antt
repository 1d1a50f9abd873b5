-- What is read for tables and for scans.
use Rattle.std.proofs.Common.{ℕ, ◌+◌, ◌*◌, ◌≤◌, List, sym, subst, arith, Option}
use Rattle.std.proofs.Math.Nat.{add-mul}
use Rattle.outside.proofs.Reading.{reads_join, reads_none, reads_up}
use Rattle.outside.specs.Seen.{OnlyReads, Seen}
use Rattle.search_plan.specs.declared.plan.Plan.{Plan}
use Rattle.head_walk.specs.Counts.{most_scanned}
use Rattle.head_walk.specs.Walk.{AreScans, ReadsRange, Spends}
use Rattle.head_walk.proofs.Counting.{no_scans, scans_join, scans_later, scans_spare}

-- what is read for tables besides
pub spends_none : (b n : ℕ) (s : Seen) → Spends b b s s n
spends_none b n s = record { fewer = omega arith; reads = reads_up s s (reads_none s) (omega arith) }

-- more may be spent
pub spends_up : (b a m n : ℕ) (old new : Seen) → Spends b a old new m → m ≤ n → Spends b a old new n
spends_up b a m n old new spends le = record { fewer = spends.fewer; reads = reads_up old new spends.reads (omega arith) }

-- one after another
pub spends_join : (b c a m n : ℕ) (old mid new : Seen) → Spends b c old mid m → Spends c a mid new n → Spends b a old new (m + n)
spends_join b c a m n old mid new first second =
    let high = first.fewer in
    let low = second.fewer in
    record { fewer = omega arith; reads = reads_up old new (reads_join old mid new first.reads second.reads) (omega arith) }

-- no tables
pub spends_only : (b n : ℕ) (old new : Seen) → OnlyReads old new n → Spends b b old new n
spends_only b n old new reads = record { fewer = omega arith; reads = reads_up old new reads (omega arith) }

-- the rest may be spent where a call fails
pub spends_all : (b a n : ℕ) (old new : Seen) → Spends b a old new n → Spends b 0 old new n
spends_all b a n old new spends = record { fewer = omega arith; reads = reads_up old new spends.reads (omega arith) }

-- nothing is read
pub scans_none : (told : Option (List (List ℕ))) (plan : Plan) (from to spare b : ℕ) (s : Seen) → ReadsRange told plan from to spare b b s s
scans_none told plan from to spare b s = record { count = 0; few = no_scans told plan from to spare; spends = spends_none b (0 * most_scanned plan) s }

-- one scan
pub scans_one : (told : Option (List (List ℕ))) (plan : Plan) (from to spare b : ℕ) (old new : Seen) → AreScans told plan from to spare 1 → OnlyReads old new (most_scanned plan) → ReadsRange told plan from to spare b b old new
scans_one told plan from to spare b old new few reads = record {
  count = 1;
  few = few;
  spends = spends_only b (1 * most_scanned plan) old new (reads_up old new reads (let e : most_scanned plan ≤ 1 * most_scanned plan = omega arith in e));
}

-- scans of one range after another
pub scans_on : (told : Option (List (List ℕ))) (plan : Plan) (from mid to spare b c a : ℕ) (old now new : Seen) → from ≤ mid → mid ≤ to →
    ReadsRange told plan from mid 0 b c old now → ReadsRange told plan mid to spare c a now new → ReadsRange told plan from to spare b a old new
scans_on told plan from mid to spare b c a old now new low high first second = record {
  count = first.count + second.count;
  few = scans_join told plan from mid to spare first.count second.count low high first.few second.few;
  spends = (let P : ℕ → Type 0 = λ n. Spends b a old new n in
      subst P (sym (add-mul first.count second.count (most_scanned plan)))
      (spends_join b c a (first.count * most_scanned plan) (second.count * most_scanned plan) old now new first.spends second.spends));
}

-- of a longer range
pub scans_to_later : (told : Option (List (List ℕ))) (plan : Plan) (from to end spare b a : ℕ) (old new : Seen) → from ≤ to → to ≤ end → ReadsRange told plan from to spare b a old new → ReadsRange told plan from end spare b a old new
scans_to_later told plan from to end spare b a old new low high scanned = record {
  count = scanned.count;
  few = scans_later told plan from to end spare scanned.count low high scanned.few;
  spends = scanned.spends;
}

-- more may be spared
pub scans_to_spare : (told : Option (List (List ℕ))) (plan : Plan) (from to b a : ℕ) (old new : Seen) → ReadsRange told plan from to 0 b a old new → ReadsRange told plan from to 4095 b a old new
scans_to_spare told plan from to b a old new scanned = record {
  count = scanned.count;
  few = scans_spare told plan from to 0 4095 scanned.count (omega arith) scanned.few;
  spends = scanned.spends;
}

-- with tables before
pub scans_after : (told : Option (List (List ℕ))) (plan : Plan) (from to spare b c a : ℕ) (old now new : Seen) → Spends b c old now 0 → ReadsRange told plan from to spare c a now new → ReadsRange told plan from to spare b a old new
scans_after told plan from to spare b c a old now new tables scanned = record {
  count = scanned.count;
  few = scanned.few;
  spends = spends_up b a (0 + scanned.count * most_scanned plan) (scanned.count * most_scanned plan) old new (spends_join b c a 0 (scanned.count * most_scanned plan) old now new tables scanned.spends) (omega arith);
}

-- tables alone
pub scans_tables : (told : Option (List (List ℕ))) (plan : Plan) (from to spare b a : ℕ) (old new : Seen) → Spends b a old new 0 → ReadsRange told plan from to spare b a old new
scans_tables told plan from to spare b a old new tables = record {
  count = 0;
  few = no_scans told plan from to spare;
  spends = spends_up b a 0 (0 * most_scanned plan) old new tables (omega arith);
}

-- the same with tables that stay as they are
pub scans_beside : (told : Option (List (List ℕ))) (plan : Plan) (from to spare b : ℕ) (old new : Seen) → ReadsRange told plan from to spare 0 0 old new → ReadsRange told plan from to spare b b old new
scans_beside told plan from to spare b old new scanned = record {
  count = scanned.count;
  few = scanned.few;
  spends = spends_only b (scanned.count * most_scanned plan) old new (reads_up old new scanned.spends.reads (omega arith));
}

-- the rest of the tables may be read where a call fails
pub scans_fail : (told : Option (List (List ℕ))) (plan : Plan) (from to spare b a : ℕ) (old new : Seen) → ReadsRange told plan from to spare b a old new → ReadsRange told plan from to spare b 0 old new
scans_fail told plan from to spare b a old new scanned = record {
  count = scanned.count;
  few = scanned.few;
  spends = spends_all b a (scanned.count * most_scanned plan) old new scanned.spends;
}
