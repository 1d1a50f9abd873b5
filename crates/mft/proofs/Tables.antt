-- Places of records in tables.
use Rattle.std.proofs.Common.{◌≡◌, ℕ, ◌+◌, ◌-◌, ◌*◌, ◌<◌, ◌≤◌, ◌^◌, List, [], ◌∷◌, Bool, true, false, cond, refl, arith, Option, None, Some, IsTrue, IfSome, All, length, slice_get, subst, sym, ap, ◌∙◌}
use Rattle.std.specs.Prelude.{nat_le, nat_lt, ◌/◌, ◌==◌, ◌&&◌}
use Rattle.std.specs.Option.{option_map}
use Rattle.std.proofs.lemmas.Nat.{mul-le}
use Rattle.std.proofs.lemmas.Bool.Decides.{nat_tests}
use Rattle.mft.specs.Boot.{is_near, is_record_size}
use Rattle.std.proofs.lemmas.List.Elements.{All-head, All-tail}
use Rattle.mft.specs.Places.{begins_at, mirror_sector, mirrored, place_in, place_of, place_within, record_sectors, run_sectors, second_place, IsTable}
use Rattle.mft.specs.declared.places.MftPlace.{MftPlace}
use Rattle.mft.specs.declared.places.MftTable.{MftTable}
use Rattle.mft.specs.Runs.{is_near_run}
use Rattle.mft.specs.declared.boot.MftBoot.{MftBoot}
use Rattle.mft.specs.declared.runs.Run.{Run}

-- what holds of a boot sector
pub record BootParts (boot : MftBoot) : Type 0 where
  pub some : 1 ≤ boot.cluster
  pub few : boot.cluster ≤ 4096
  pub least : 1024 ≤ boot.bytes
  pub most : boot.bytes ≤ 4096
  pub mft : boot.mft * boot.cluster < 2 ^ 55
  pub mirror : boot.mirror * boot.cluster < 2 ^ 55

pub boot_parts : (boot : MftBoot) → is_near boot ≡ true → BootParts boot
unfolding is_near is_record_size
boot_parts boot is = record {
  some = grind (arith, nat_tests);
  few = grind (arith, nat_tests);
  least = grind (arith, nat_tests);
  most = grind (arith, nat_tests);
  mft = grind (arith, nat_tests);
  mirror = grind (arith, nat_tests);
}

-- ---- runs

run_ends : (cluster : ℕ) (run : Run) → is_near_run cluster run ≡ true → (run.first + run.count) * cluster < 2 ^ 55
unfolding is_near_run
run_ends cluster run is = grind (arith, nat_tests)

pub count_ends : (cluster : ℕ) (run : Run) → is_near_run cluster run ≡ true → run.count * cluster < 2 ^ 55
count_ends cluster run is = omega (arith, run_ends cluster run is)

pub first_ends : (cluster : ℕ) (run : Run) → is_near_run cluster run ≡ true → run.first * cluster + run.count * cluster < 2 ^ 55
first_ends cluster run is = omega (arith, run_ends cluster run is)

abbrev IsNear : ℕ → Run → Type 0
IsNear cluster run = IsTrue (is_near_run cluster run)

pub head_near : (cluster : ℕ) (run : Run) (rest runs : List Run) → runs ≡ run ∷ rest → All (λ run. IsTrue (is_near_run cluster run)) runs → is_near_run cluster run ≡ true
head_near cluster run rest runs is all = let both : All (IsNear cluster) (run ∷ rest) = subst (All (IsNear cluster)) is all in All-head (IsNear cluster) run rest both

pub rest_near : (cluster : ℕ) (run : Run) (rest runs : List Run) → runs ≡ run ∷ rest → All (λ run. IsTrue (is_near_run cluster run)) runs → All (λ run. IsTrue (is_near_run cluster run)) rest
rest_near cluster run rest runs is all = let both : All (IsNear cluster) (run ∷ rest) = subst (All (IsNear cluster)) is all in All-tail (IsNear cluster) run rest both

pub begins_none : (cluster : ℕ) (runs : List Run) → slice_get runs 0 ≡ None → false ≡ begins_at cluster runs
unfolding begins_at
begins_none cluster [] none = refl
begins_none cluster (run ∷ runs) none = absurd (cc)

pub begins : (cluster : ℕ) (runs : List Run) (run : Run) → slice_get runs 0 ≡ Some run → begins_at cluster runs ≡ (run.first == cluster)
unfolding begins_at
begins cluster [] run some = absurd (cc)
begins cluster (first ∷ runs) run some = cc

pub no_place : (cluster before sectors : ℕ) (runs : List Run) → length runs ≡ 0 → None ≡ place_in cluster runs before sectors
unfolding place_in
no_place cluster before sectors [] none = refl
no_place cluster before sectors (run ∷ runs) none = absurd (omega (arith, none))

pub place_here : (cluster before sectors many : ℕ) (run : Run) (rest runs : List Run) (place : Option ℕ) → runs ≡ run ∷ rest → many ≡ run_sectors cluster run → before < many →
    place ≡ place_within cluster run before sectors → place ≡ place_in cluster runs before sectors
unfolding place_in
place_here cluster before sectors many run rest runs place are is below so =
    let inside : nat_lt before (run.count * cluster) ≡ true = grind (arith, nat_tests) in
    so ∙ rw are (rw inside refl)

pub place_later : (cluster before sectors many : ℕ) (run : Run) (rest runs : List Run) (place : Option ℕ) → runs ≡ run ∷ rest → many ≡ run_sectors cluster run → nat_lt before many ≡ false →
    place ≡ place_in cluster rest (before - many) sectors → place ≡ place_in cluster runs before sectors
unfolding place_in
place_later cluster before sectors many run rest runs place are is past so =
    let outside : nat_lt before (run.count * cluster) ≡ false = sym (ap (nat_lt before) is) ∙ past in
    so ∙ ap (λ (n : ℕ). place_in cluster rest (before - n) sectors) is ∙ rw are (rw outside refl)

-- ---- parts of a boot sector

pub cluster_few : (boot : MftBoot) → is_near boot ≡ true → boot.cluster ≤ 4096
cluster_few boot is = (boot_parts boot is).few

pub bytes_some : (boot : MftBoot) → is_near boot ≡ true → 1024 ≤ boot.bytes
bytes_some boot is = (boot_parts boot is).least

pub mirror_near : (boot : MftBoot) → is_near boot ≡ true → boot.mirror * boot.cluster < 2 ^ 55
mirror_near boot is = (boot_parts boot is).mirror

pub bytes_few : (boot : MftBoot) → is_near boot ≡ true → boot.bytes ≤ 4096
bytes_few boot is = (boot_parts boot is).most

pub cluster_some : (boot : MftBoot) → is_near boot ≡ true → 1 ≤ boot.cluster
cluster_some boot is = (boot_parts boot is).some

-- ---- parts of a table

pub table_cluster : (table : MftTable) → IsTable table → table.boot.cluster ≤ 4096
table_cluster table is = cluster_few table.boot is.boot

pub table_sectors : (table : MftTable) → IsTable table → table.boot.bytes / 512 ≤ 8
table_sectors table is = omega (arith, bytes_few table.boot is.boot)

pub table_before : (table : MftTable) (number : ℕ) → IsTable table → number < 2 ^ 32 → number * (table.boot.bytes / 512) < 2 ^ 35
table_before table number is below = omega (arith, mul-le number (table.boot.bytes / 512) (2 ^ 32 - 1) 8 (omega (arith, below)) (table_sectors table is))

-- ---- where a table has a record

abbrev none_at : Option ℕ
none_at = None

near_within : (cluster before sectors : ℕ) (run : Run) → is_near_run cluster run ≡ true → 1 ≤ sectors → IfSome (place_within cluster run before sectors) (λ n. n < 2 ^ 55)
unfolding place_within
near_within cluster before sectors run is some = near_test (nat_le (before + sectors) (run.count * cluster)) refl
  where
    near_test : (b : Bool) → nat_le (before + sectors) (run.count * cluster) ≡ b → IfSome (cond b (Some (run.first * cluster + before)) none_at) (λ n. n < 2 ^ 55)
    near_test false e = tt
    near_test true e = let fits : before + sectors ≤ run.count * cluster = grind (arith, nat_tests) in omega (arith, fits, first_ends cluster run is)

either_near : (b : Bool) (one other : Option ℕ) → IfSome one (λ n. n < 2 ^ 55) → IfSome other (λ n. n < 2 ^ 55) → IfSome (cond b one other) (λ n. n < 2 ^ 55)
either_near true one other here there = here
either_near false one other here there = there

near_in : (cluster before sectors : ℕ) (runs : List Run) → All (λ run. IsTrue (is_near_run cluster run)) runs → 1 ≤ sectors → IfSome (place_in cluster runs before sectors) (λ n. n < 2 ^ 55)
unfolding place_in
near_in cluster before sectors [] all some = tt
near_in cluster before sectors (run ∷ runs) all some =
    either_near (nat_lt before (run.count * cluster)) (place_within cluster run before sectors) (place_in cluster runs (before - run.count * cluster) sectors)
    (near_within cluster before sectors run (All-head (IsNear cluster) run runs all) some) (near_in cluster (before - run.count * cluster) sectors runs (All-tail (IsNear cluster) run runs all) some)

near_second : (boot : MftBoot) (number : ℕ) → IfSome (second_place boot number) (λ n. n < 2 ^ 55)
unfolding second_place
near_second boot number = below_test (nat_lt number (mirrored boot) && nat_lt (mirror_sector boot number) (2 ^ 55)) refl
  where
    below_test : (b : Bool) → (nat_lt number (mirrored boot) && nat_lt (mirror_sector boot number) (2 ^ 55)) ≡ b → IfSome (cond b (Some (mirror_sector boot number)) none_at) (λ n. n < 2 ^ 55)
    below_test false e = tt
    below_test true e = grind (arith, nat_tests)

both_near : (first second : Option ℕ) → IfSome first (λ n. n < 2 ^ 55) → IfSome second (λ n. n < 2 ^ 55) → IfSome (option_map (λ n. record { first = n; second = second }) first) (λ (p : MftPlace). (p.first < 2 ^ 55) × IfSome p.second (λ n. n < 2 ^ 55))
both_near None second here there = tt
both_near (Some n) second here there = (here, there)

pub place_near : (table : MftTable) (number : ℕ) → IsTable table → IfSome (place_of table number) (λ (p : MftPlace). (p.first < 2 ^ 55) × IfSome p.second (λ n. n < 2 ^ 55))
unfolding place_of
place_near table number is =
    let some : 1 ≤ table.boot.bytes / 512 = omega (arith, bytes_some table.boot is.boot) in
    both_near (place_in table.boot.cluster table.runs.items (number * record_sectors table.boot) (record_sectors table.boot)) (second_place table.boot number)
    (near_in table.boot.cluster (number * record_sectors table.boot) (record_sectors table.boot) table.runs.items is.runs some) (near_second table.boot number)
