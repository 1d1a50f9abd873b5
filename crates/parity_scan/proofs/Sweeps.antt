-- What a pass reads.
use Rattle.std.proofs.Common.{◌≡◌, ℕ, zero, suc, ◌+◌, ◌*◌, ◌<◌, ◌≤◌, Bool, true, cond, List, length, ap, arith, Option, IfSome}
use Rattle.std.proofs.Math.Nat.{mul-add, mul-le-mul_left}
use Rattle.std.specs.List.{list_any}
use Rattle.outside.specs.Attached.{told_all}
use Rattle.outside.specs.Seen.{Image, Seen, OnlyReads}
use Rattle.member_regions.proofs.IfTold.{if_both}
use Rattle.outside.proofs.Reading.{reads_join, reads_none, reads_up}
use Rattle.raid_params.specs.declared.types.Geometry.{Geometry}
use Rattle.search_scope.specs.declared.scope.Scope.{Scope}
use Rattle.member_regions.proofs.Counting.{count_grows, count_suc}
use Rattle.parity_scan.specs.Pass.{IsNextRun, ReadsWindows, SweptTo, TalliesTo}
use Rattle.parity_scan.specs.Tallies.{AllTallies}
use Rattle.parity_scan.specs.Verdicts.{offsets_of}
use Rattle.parity_scan.specs.Windows.{is_in_window, scan_reads, sectors_below, window_sectors}
use Rattle.parity_scan.specs.declared.runs.Run.{Run}
use Rattle.parity_scan.specs.declared.tally.Tally.{Tally}

-- more sectors, no fewer in windows
pub windows_rise : (end window : ℕ) (offsets : List ℕ) (n m : ℕ) → n ≤ m → sectors_below end window offsets n ≤ sectors_below end window offsets m
unfolding sectors_below
windows_rise end window offsets n m le = count_grows (λ s. list_any (is_in_window end window s) offsets) 0 n m le

one_in_window : (end window : ℕ) (offsets : List ℕ) (n : ℕ) → list_any (is_in_window end window n) offsets ≡ true → sectors_below end window offsets (suc n) ≡ sectors_below end window offsets n + 1
unfolding sectors_below
one_in_window end window offsets n inside =
    let more = count_suc (λ s. list_any (is_in_window end window s) offsets) 0 n n (omega arith) in
    let one : ◌≡◌ {A = ℕ} (cond (list_any (is_in_window end window n) offsets) 1 0) 1 = ap (λ (b : Bool). cond b 1 0) inside in
    omega (arith, more, one)

-- sectors in windows count
pub run_in_window : (end window : ℕ) (offsets : List ℕ) (first count : ℕ) → ((s : ℕ) → first ≤ s → s < first + count → list_any (is_in_window end window s) offsets ≡ true) →
    sectors_below end window offsets first + count ≤ sectors_below end window offsets (first + count)
run_in_window end window offsets first zero inside = let same : first + 0 ≡ first = omega arith in rw same (omega arith)
run_in_window end window offsets first (suc count) inside =
    let on : first + suc count ≡ suc (first + count) = omega arith in
    let before = run_in_window end window offsets first count (λ s low high. inside s low (omega arith)) in
    let one = one_in_window end window offsets (first + count) (inside (first + count) (omega arith) (omega arith)) in
    rw on (omega (arith, before, one))

-- nothing was read
pub windows_none : (s : Seen) (scope : Scope) (sets : List Geometry) (from to : ℕ) → from ≤ to → ReadsWindows s s scope sets from to
windows_none s scope sets from to le = record {
  each = 0;
  reads = reads_up s s (reads_none s) (omega arith);
  within = omega (arith, windows_rise scope.end scope.limits.window (offsets_of sets) from to le);
}

-- a run was read
pub windows_run : (old new : Seen) (scope : Scope) (sets : List Geometry) (tallies : List Tally) (n at : ℕ) (run : Run) → IsNextRun scope sets tallies n at run →
    OnlyReads old new (length old.attached * run.count) → ReadsWindows old new scope sets at (run.first + run.count)
windows_run old new scope sets tallies n at run next reads = record {
  each = run.count;
  reads = reads;
  within =
      omega (
        arith,
        windows_rise scope.end scope.limits.window (offsets_of sets) at run.first next.later,
        run_in_window scope.end scope.limits.window (offsets_of sets) run.first run.count next.in_window,
      );
}

-- up to a later sector
pub windows_more : (old new : Seen) (scope : Scope) (sets : List Geometry) (from to later : ℕ) → to ≤ later → ReadsWindows old new scope sets from to → ReadsWindows old new scope sets from later
windows_more old new scope sets from to later le is = record {
  each = is.each;
  reads = is.reads;
  within = omega (arith, is.within, windows_rise scope.end scope.limits.window (offsets_of sets) to later le);
}

-- one part after the other
pub windows_join : (old mid new : Seen) (scope : Scope) (sets : List Geometry) (from between to : ℕ) → ReadsWindows old mid scope sets from between → ReadsWindows mid new scope sets between to →
    ReadsWindows old new scope sets from to
windows_join old mid new scope sets from between to first second =
    let same : length mid.attached ≡ length old.attached = ap length first.reads.attached in
    let more : OnlyReads mid new (length old.attached * second.each) = rw same at second.reads in
    record {
      each = first.each + second.each;
      reads = reads_up old new (reads_join old mid new first.reads more) (omega (arith, mul-add (length old.attached) first.each second.each));
      within = omega (arith, first.within, second.within);
    }

-- what a scan reads: samples, and the windows
pub scan_read : (old mid new : Seen) (scope : Scope) (sets : List Geometry) → OnlyReads old mid (length old.attached * 64) → ReadsWindows mid new scope sets 0 scope.end →
    OnlyReads old new (scan_reads (length old.attached) scope.end scope.limits.window (offsets_of sets))
scan_read old mid new scope sets first swept =
    let same : length mid.attached ≡ length old.attached = ap length first.attached in
    let more : OnlyReads mid new (length old.attached * swept.each) = rw same at swept.reads in
    let few : swept.each ≤ window_sectors scope.end scope.limits.window (offsets_of sets) = omega (arith, swept.within) in
    let most : length old.attached * swept.each ≤ length old.attached * window_sectors scope.end scope.limits.window (offsets_of sets) = mul-le-mul_left (length old.attached) few in
    reads_up old new (reads_join old mid new first more) (omega (arith, most, mul-add (length old.attached) 64 (window_sectors scope.end scope.limits.window (offsets_of sets))))

-- the tallies go on, where all bytes are known
pub swept_on : (old mid : List Image) (scope : Scope) (sets : List Geometry) (from at : ℕ) (next : Option ℕ) (first tallies new : List Tally) → mid ≡ old →
    IfSome (told_all old) (λ bytes. AllTallies (TalliesTo bytes scope from) sets first → AllTallies (TalliesTo bytes scope at) sets tallies) →
    IfSome (told_all mid) (λ bytes. AllTallies (TalliesTo bytes scope at) sets tallies → SweptTo bytes scope sets next new) →
    IfSome (told_all old) (λ bytes. AllTallies (TalliesTo bytes scope from) sets first → SweptTo bytes scope sets next new)
swept_on old mid scope sets from at next first tallies new same so_far more =
    if_both (told_all old) (λ bytes. AllTallies (TalliesTo bytes scope from) sets first → AllTallies (TalliesTo bytes scope at) sets tallies)
    (λ bytes. AllTallies (TalliesTo bytes scope at) sets tallies → SweptTo bytes scope sets next new)
    (λ bytes. AllTallies (TalliesTo bytes scope from) sets first → SweptTo bytes scope sets next new)
    (λ bytes before after begun. after (before begun)) so_far (rw same at more)
