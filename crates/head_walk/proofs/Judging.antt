-- A scan of sets of a plan.
use Rattle.std.proofs.Common.{ℕ, ◌≡◌, ◌≤◌, ◌+◌, Bool, true, false, ◌||◌, cond, List, [], ◌∷◌, length, get_or, Option, sym, ap, ◌∙◌, subst, arith, refl, All, Contains, inl, inr}
use Rattle.std.specs.List.{list_any, range_with_len}
use Rattle.std.proofs.lemmas.Bool.{cases_Bool}
use Rattle.std.proofs.lemmas.List.{length-map}
use Rattle.std.proofs.lemmas.List.Elements.{All-head, All-tail}
use Rattle.std.proofs.lemmas.List.Folds.{list_any_at}
use Rattle.std.proofs.lemmas.List.Sums.{sum_by-le-sum_by}
use Rattle.std.proofs.Math.Nat.{mul-le-mul_left}
use Rattle.outside.proofs.Reading.{reads_up}
use Rattle.outside.specs.Seen.{Image, OnlyReads, Seen}
use Rattle.raid_params.specs.declared.limits.TheConstants.{MOST}
use Rattle.raid_params.specs.declared.types.Geometry.{Geometry}
use Rattle.parity_scan.specs.Scan.{IsScannable}
use Rattle.parity_scan.specs.Verdicts.{offsets_of}
use Rattle.parity_scan.specs.Windows.{is_in_window, scan_reads, sectors_below, window_sectors}
use Rattle.parity_scan.specs.declared.samples.TheConstants.{SAMPLES}
use Rattle.search_plan.specs.Plans.{IsPlan, AgreeWith}
use Rattle.search_plan.specs.declared.plan.Plan.{Plan}
use Rattle.head_walk.specs.Counts.{most_scanned}
use Rattle.head_walk.specs.Walk.{AreWaiting, IsCandidate, ranked_sets, Wait, Ranked}
use Rattle.head_walk.specs.declared.waiting.Waiting.{Waiting}
use Rattle.outside.specs.Attached.{told_all}
use Rattle.head_walk.proofs.Waits.{each_waits, line_at, lines_long}
use Rattle.head_walk.proofs.SetTests.{few_slots, scannable}

-- what holds of each candidate holds of its set
pub each_set : (P : Geometry → Type 0) (told : Option (List (List ℕ))) (plan : Plan) (ranks : List ℕ) (sets : List Geometry) → length ranks ≡ length sets → All (IsCandidate told plan) (ranked_sets ranks sets) →
    ((line : Ranked) → IsCandidate told plan line → P line.geo) → All P sets
each_set P told plan ranks sets same all holds = λ k d below.
    let none : Ranked = record { rank = 0; geo = d } in
    let long = lines_long ranks sets same in
    let here : get_or (ranked_sets ranks sets) k none ≡ record { rank = get_or ranks k 0; geo = get_or sets k d } = line_at ranks sets k none 0 d same below in
    holds (record { rank = get_or ranks k 0; geo = get_or sets k d }) (subst (IsCandidate told plan) here (all k none (omega arith)))

-- each has few slots
pub all_few : (told : Option (List (List ℕ))) (plan : Plan) (ranks : List ℕ) (sets : List Geometry) → IsPlan plan → length ranks ≡ length sets → All (IsCandidate told plan) (ranked_sets ranks sets) → All (λ geo. length geo.slots.items ≤ MOST) sets
all_few told plan ranks sets is_plan same all = each_set (λ geo. length geo.slots.items ≤ MOST) told plan ranks sets same all (λ line is. few_slots plan line.rank line.geo is_plan is.set)

-- the parity of each can be tested
pub all_scannable : (told : Option (List (List ℕ))) (plan : Plan) (attached : List Image) (ranks : List ℕ) (sets : List Geometry) → IsPlan plan → AgreeWith plan attached → length ranks ≡ length sets → All (IsCandidate told plan) (ranked_sets ranks sets) →
    All (λ geo. IsScannable geo plan.end attached) sets
all_scannable told plan attached ranks sets is_plan agrees same all =
    each_set (λ geo. IsScannable geo plan.end attached) told plan ranks sets same all (λ line is. scannable plan line.rank line.geo attached is_plan is.set agrees)

-- each has an offset of the plan
pub all_offsets : (told : Option (List (List ℕ))) (plan : Plan) (ranks : List ℕ) (sets : List Geometry) → length ranks ≡ length sets → All (IsCandidate told plan) (ranked_sets ranks sets) → All (λ geo. Contains plan.bounds.offsets.items geo.head.offset) sets
all_offsets told plan ranks sets same all = each_set (λ geo. Contains plan.bounds.offsets.items geo.head.offset) told plan ranks sets same all (λ line is. is.among.offset)

-- what holds of one of the offsets of the sets holds of one of the plan's
or_either : (a b : Bool) → (a || b) ≡ true → (a ≡ true → ⊥) → b ≡ true
or_either true b e not_a = absurd (not_a refl)
or_either false b e not_a = e

-- a test that holds of an offset of the sets holds of one of the plan
any_within : (p : ℕ → Bool) (offsets : List ℕ) (sets : List Geometry) → All (λ geo. Contains offsets geo.head.offset) sets → list_any p (offsets_of sets) ≡ true → list_any p offsets ≡ true
any_within p offsets [] all e = absurd (cc)
any_within p offsets (geo ∷ sets) all e = elim (cases_Bool (p geo.head.offset)) [
  | inl holds ↦ (
      let (k, below, is) = All-head (λ (one : Geometry). Contains offsets one.head.offset) geo sets all in
      list_any_at p offsets k geo.head.offset below (ap p is ∙ holds))
  | inr fails ↦ any_within p offsets sets (All-tail (λ (one : Geometry). Contains offsets one.head.offset) geo sets all)
      (or_either (p geo.head.offset) (list_any p (offsets_of sets)) e (λ holds. let bad : true ≡ false = sym holds ∙ fails in cc))
]

-- a count of one is less where less holds
one_less : (a b : Bool) → (a ≡ true → b ≡ true) → cond a 1 0 ≤ cond b 1 0
one_less true true h = omega arith
one_less true false h = let bad = h refl in cc
one_less false true h = omega arith
one_less false false h = omega arith

-- so no more sectors lie in the windows of the sets
windows_within : (end window below : ℕ) (offsets : List ℕ) (sets : List Geometry) → All (λ geo. Contains offsets geo.head.offset) sets →
    sectors_below end window (offsets_of sets) below ≤ sectors_below end window offsets below
unfolding sectors_below
windows_within end window below offsets sets all =
    sum_by-le-sum_by (λ sector. cond (list_any (is_in_window end window sector) (offsets_of sets)) 1 0) (λ sector. cond (list_any (is_in_window end window sector) offsets) 1 0) (range_with_len 0 below)
    (λ sector. one_less (list_any (is_in_window end window sector) (offsets_of sets)) (list_any (is_in_window end window sector) offsets) (any_within (is_in_window end window sector) offsets sets all))

-- no more is read than a scan of sets of the plan reads
pub scanned : (old new : Seen) (plan : Plan) (sets : List Geometry) → AgreeWith plan old.attached → All (λ geo. Contains plan.bounds.offsets.items geo.head.offset) sets →
    OnlyReads old new (scan_reads (length old.attached) plan.end plan.limits.window (offsets_of sets)) → OnlyReads old new (most_scanned plan)
unfolding most_scanned
scanned old new plan sets agrees all reads =
    let count : length old.attached ≡ length plan.lengths.items = sym (length-map old.attached (λ (image : Image). image.sectors)) ∙ ap length agrees in
    let fewer = windows_within plan.end plan.limits.window plan.end plan.bounds.offsets.items sets all in
    let P : ℕ → Type 0 = λ n. OnlyReads old new (scan_reads n plan.end plan.limits.window (offsets_of sets)) in
    reads_up old new (subst P count reads)
    (mul-le-mul_left (length plan.lengths.items) (let more : SAMPLES + window_sectors plan.end plan.limits.window (offsets_of sets) ≤ SAMPLES + window_sectors plan.end plan.limits.window plan.bounds.offsets.items = omega arith in more))

-- what is read for those that wait
pub waiting_read : (old new : Seen) (plan : Plan) (from at : ℕ) (waiting : Waiting) (sets : List Geometry) → AgreeWith plan old.attached → AreWaiting plan waiting → Wait (told_all old.attached) plan from at (ranked_sets waiting.ranks waiting.sets) → sets ≡ waiting.sets →
    OnlyReads old new (scan_reads (length old.attached) plan.end plan.limits.window (offsets_of sets)) → OnlyReads old new (most_scanned plan)
waiting_read old new plan from at waiting sets agrees are wait same reads =
    scanned old new plan sets agrees
    (subst (λ (l : List Geometry). All (λ geo. Contains plan.bounds.offsets.items geo.head.offset) l) (sym same)
    (all_offsets (told_all old.attached) plan waiting.ranks waiting.sets are.ranks (each_waits (told_all old.attached) plan from at (ranked_sets waiting.ranks waiting.sets) wait)))
    reads
