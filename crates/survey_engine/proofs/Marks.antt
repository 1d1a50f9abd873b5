-- The marks of a group are those of a plan, and the numbers of their rules are below 2^55.
use Rattle.std.proofs.Common.{◌≡◌, ℕ, ◌+◌, ◌*◌, ◌/◌, ◌^◌, ◌<◌, ◌≤◌, Bool, true, false, cond, IfSome, Some, None, inl, inr, refl, ap, arith, List, [], ◌∷◌, map, All, Option}
use Rattle.std.proofs.lemmas.Bool.Decides.{nat_tests}
use Rattle.gpt_marks.specs.Header.{IsUnit}
use Rattle.std.proofs.Math.Nat.{mod-lt, mul-le-mul_right}
use Rattle.ntfs_marks.specs.Boot.{is_within_limit, record_sector}
use Rattle.ntfs_marks.specs.declared.boot.NtfsBoot.{NtfsBoot}
use Rattle.ntfs_marks.proofs.Limits.{record_below}
use Rattle.xfs_marks.specs.Superblock.{is_sound, ag_sectors, end_sector}
use Rattle.xfs_marks.specs.declared.superblock.XfsSuper.{XfsSuper}
use Rattle.xfs_marks.proofs.Limits.{ag_below}
use Rattle.xfs5.specs.Places.{block_of, group_of as inode_group, index_of, inode_sector, is_sound as is_sound_place, sector_of}
use Rattle.xfs5.specs.declared.places.XfsInodes.{XfsInodes}
use Rattle.xfs5.proofs.Limits.{before_most, inode_power, sector_below}
use Rattle.std.specs.Prelude.{◌&&◌, ◌==◌, nat_lt}
use Rattle.std.specs.Str.{bytes_eq}
use Rattle.std.specs.List.{cons_option, filter_map}
use Rattle.std.specs.Option.{option_map}
use Rattle.std.specs.List.Sorted.{IsStrictlyIncreasing}
use Rattle.std.proofs.lemmas.Nat.{mul-le}
use Rattle.std.proofs.lemmas.Bool.{and_parts, ltb-true}
use Rattle.std.proofs.lemmas.List.Elements.{All-cons, All-head, All-nil, All-tail}
use Rattle.ntfs_marks.specs.declared.file_record.NtfsRecord.{NtfsRecord}
use Rattle.more_marks.proofs.Limits.{address_below}
use Rattle.landmark_rules.specs.Groups.{group_of, kind_place, mark_place, IsMark}
use Rattle.landmark_rules.specs.Rules.{IsRule}
use Rattle.landmark_rules.specs.declared.marks.Mark.{Mark}
use Rattle.landmark_rules.specs.declared.marks.Rule.{Rule}
use Rattle.landmark_rules.specs.declared.marks.Rule.TheVariants.{At, Either, Every}
use Rattle.survey_engine.specs.Landmarks.{kind_of, IsSound}
use Rattle.survey_engine.specs.Origins.{entries_follow, has_entries, hints_by}
use Rattle.survey_engine.specs.declared.landmark.GptTable.{GptTable}
use Rattle.survey_engine.specs.Owners.{group_kind, ag_rule, is_same_boot, is_same_super, inodes_rule, is_mark_of, is_same_volume, mark_in, begins_sector, placed_rule, record_rule, rule_in, tree_rule, volume_of, IsSoundOwner}
use Rattle.survey_engine.specs.Sightings.{sighted_at, sighting_place, AreRising, IsInImages, Place}
use Rattle.survey_engine.specs.declared.landmark.InodePlace.{InodePlace}
use Rattle.survey_engine.specs.declared.landmark.Landmark.{Landmark}
use Rattle.survey_engine.specs.declared.landmark.Landmark.TheVariants.{Gpt, Boot, FileRecord, Super, Super5, Agf, Agi, Btrfs as BtrfsSector, Lvm, Ext as ExtSector, Inode, Tree, Inodes, Placed, Record, Volume}
use Rattle.survey_engine.specs.declared.owner.Owner.{Owner}
use Rattle.survey_engine.specs.declared.owner.Owner.TheVariants.{Table, Ntfs, Xfs, Btrfs, Label, Ext, Xfs5, Trees, Extinode}
use Rattle.survey_engine.specs.declared.sighting.Sighting.{Sighting}
use Rattle.survey_engine.proofs.Numbers.{rising_from, Rises}
use Rattle.survey_engine.proofs.Kept.{mapped_each}

-- ---- The numbers of rules are below 2^55.

-- file records
pub in_table : (boot : NtfsBoot) (r : ℕ) → is_within_limit boot ≡ true → r < 16 → record_sector boot boot.mft r < 2 ^ 55
in_table boot r sound below = (record_below boot r sound below).0

pub in_mirror : (boot : NtfsBoot) (r : ℕ) → is_within_limit boot ≡ true → r < 16 → record_sector boot boot.mirror r < 2 ^ 55
in_mirror boot r sound below = (record_below boot r sound below).1

-- allocation groups and their heads
pub ag_near : (x : XfsSuper) (g : ℕ) → is_sound x ≡ true → g < x.ag_count → g * ag_sectors x < 2 ^ 55
ag_near x g sound below = omega (arith, ag_below x g sound below)

pub head_near : (x : XfsSuper) (g s : ℕ) → is_sound x ≡ true → g < x.ag_count → s ≤ 2 → g * ag_sectors x + s * (x.sector / 512) < 2 ^ 55
head_near x g s sound below few =
    let most : s * (x.sector / 512) ≤ 2 * (x.sector / 512) = mul-le-mul_right (x.sector / 512) few in
    omega (arith, ag_below x g sound below)

-- blocks of 1 sector and of 8
pub unit_small : (unit : ℕ) → IsUnit unit → (1 ≤ unit) × (unit ≤ 8)
unit_small unit (inl one) = (omega (arith, one), omega (arith, one))
unit_small unit (inr eight) = (omega (arith, eight), omega (arith, eight))

pub block_small : (unit block : ℕ) → IsUnit unit → block < 2 ^ 55 → unit * block < 2 ^ 64
block_small unit block (inl one) below = omega (arith, ap (λ (u : ℕ). u * block) one)
block_small unit block (inr eight) below = omega (arith, ap (λ (u : ℕ). u * block) eight)

pub lba_small : (unit lba : ℕ) → IsUnit unit → unit * lba < 2 ^ 55 → lba < 2 ^ 55
lba_small unit lba (inl one) below = omega (arith, ap (λ (u : ℕ). u * lba) one)
lba_small unit lba (inr eight) below = omega (arith, ap (λ (u : ℕ). u * lba) eight)

-- an inode lies where its file system has its group and block
index_below : (x : XfsInodes) (n : ℕ) → is_sound_place x ≡ true → index_of x n < 2 ^ x.inode_bits
unfolding index_of
index_below x n sound = let some : 1 ≤ 2 ^ x.inode_bits = (inode_power x sound).0 in mod-lt n (omega arith)

if_within : (b : Bool) (sector : ℕ) → (b ≡ true → sector < 2 ^ 55) → IfSome (cond b (Some sector) None) (λ s. s < 2 ^ 55)
if_within true sector below = below refl
if_within false sector below = tt

pub inode_near : (x : XfsInodes) (n : ℕ) → is_sound_place x ≡ true → IfSome (inode_sector x n) (λ s. s < 2 ^ 55)
unfolding inode_sector sector_of
inode_near x n sound =
    if_within _ _ (λ has.
    let group : inode_group x n < x.ag_count = grind (arith, nat_tests) in
    let block : block_of x n < x.ag_blocks = grind (arith, nat_tests) in
    let before = before_most (inode_group x n) (block_of x n) x.ag_blocks x.ag_count group block in
    sector_below x (inode_group x n * x.ag_blocks + block_of x n) (index_of x n) sound before (index_below x n sound))

-- ---- The marks of a group are those of a plan.

-- ---- rules

-- what a plan asks of a rule, where the test that lets it in is passed
abbrev no_rule : Option Rule
no_rule = None

if_passed : (b : Bool) (rule : Rule) → (b ≡ true → IsRule rule) → IfSome (cond b (Some rule) no_rule) IsRule
if_passed true rule is = is refl
if_passed false rule is = tt

total_near : (b : NtfsBoot) → is_within_limit b ≡ true → b.total < 2 ^ 55
unfolding is_within_limit
total_near b sound = grind (arith, nat_tests)

some_sectors : (x : XfsSuper) → 512 ≤ x.block → 1 ≤ x.ag_blocks → 1 ≤ ag_sectors x
unfolding ag_sectors
some_sectors x block blocks =
    let most : 1 * 512 ≤ x.ag_blocks * x.block = mul-le 1 512 x.ag_blocks x.block blocks block in
    omega arith

steps_near : (x : XfsSuper) → is_sound x ≡ true → (ag_sectors x < 2 ^ 55) × (x.ag_count < 2 ^ 55) × (0 < 2 ^ 55) × (ag_sectors x * x.ag_count + 0 < 2 ^ 55)
unfolding is_sound end_sector
steps_near x sound =
    let block : 512 ≤ x.block = grind (arith, nat_tests) in
    let blocks : 1 ≤ x.ag_blocks = grind (arith, nat_tests) in
    let groups : 1 ≤ x.ag_count = grind (arith, nat_tests) in
    let last : ag_sectors x * x.ag_count + 2 * (x.sector / 512) < 2 ^ 55 = grind (arith, nat_tests) in
    let step = some_sectors x block blocks in
    let by_count : ag_sectors x * 1 ≤ ag_sectors x * x.ag_count = mul-le (ag_sectors x) 1 (ag_sectors x) x.ag_count (omega arith) groups in
    let by_step : 1 * x.ag_count ≤ ag_sectors x * x.ag_count = mul-le 1 x.ag_count (ag_sectors x) x.ag_count step (omega arith) in
    (omega arith, omega arith, omega arith, omega arith)

record_rule_is : (b : NtfsBoot) (r : NtfsRecord) → is_within_limit b ≡ true → r.number < 16 → IfSome (record_rule b r) IsRule
unfolding record_rule
record_rule_is b r sound below = if_passed _ _ (λ same. (in_table b r.number sound below, in_mirror b r.number sound below))

group_rule_is : (x : XfsSuper) (g s : ℕ) → is_sound x ≡ true → s ≤ 2 → IfSome (ag_rule x g s) IsRule
unfolding ag_rule
group_rule_is x g s sound few = if_passed _ _ (λ less. head_near x g s sound (grind (arith, nat_tests)) few)

if_alone : (alone : Bool) (rule : Option Rule) → IfSome rule IsRule → IfSome (cond alone rule None) IsRule
if_alone true rule is = is
if_alone false rule is = tt

if_placed : (b : Bool) (place : Option ℕ) → IfSome place (λ s. s < 2 ^ 55) → IfSome (cond b (option_map At place) no_rule) IsRule
if_placed true None near = tt
if_placed true (Some s) near = near
if_placed false place near = tt

if_ruled : (b : Bool) (rule : Option Rule) → IfSome rule IsRule → IfSome (cond b rule no_rule) IsRule
if_ruled true rule is = is
if_ruled false rule is = tt

near_sector : (a : ℕ) → begins_sector a ≡ true → a / 512 < 2 ^ 55
unfolding begins_sector
near_sector a begins = grind (arith, nat_tests)

placed_is : (first second : Option ℕ) → IfSome (placed_rule first second) IsRule
unfolding placed_rule
placed_is None second = tt
placed_is (Some a) None = if_passed (begins_sector a) (At (a / 512)) (near_sector a)
placed_is (Some a) (Some b) =
    if_passed (begins_sector a && begins_sector b) (Either (a / 512) (b / 512)) (λ both. (near_sector a (and_parts (begins_sector a) (begins_sector b) both).0, near_sector b (and_parts (begins_sector a) (begins_sector b) both).1))

inodes_near : (place : InodePlace) → IfSome (inodes_rule place) IsRule
unfolding inodes_rule
inodes_near place = if_passed (nat_lt place.sector (2 ^ 55)) (At place.sector) (λ below. ltb-true place.sector (2 ^ 55) below)

rule_is : (o : Owner) (alone : Bool) (at : Place) (l : Landmark) → IsSoundOwner o → IsSound l → IfSome (rule_in o alone at l) IsRule
unfolding rule_in
rule_is Table alone at (Gpt t) so sl = sl.1
rule_is (Ntfs b) alone at (Boot c) so sl = if_passed (is_same_boot b c) (Either 0 b.total) (λ same. (omega arith, total_near b so))
rule_is (Ntfs b) alone at (FileRecord r) so sl = if_alone alone (record_rule b r) (record_rule_is b r so sl)
rule_is (Xfs x) alone at (Super y) so sl = if_passed (is_same_super x y) (Every (ag_sectors x) x.ag_count 0) (λ same. steps_near x so)
rule_is (Xfs x) alone at (Super5 y places) so sl = if_passed (is_same_super x y) (Every (ag_sectors x) x.ag_count 0) (λ same. steps_near x so)
rule_is (Xfs x) alone at (Agf g) so sl = if_alone alone (ag_rule x g 1) (group_rule_is x g 1 so (omega arith))
rule_is (Xfs x) alone at (Agi g) so sl = if_alone alone (ag_rule x g 2) (group_rule_is x g 2 so (omega arith))
rule_is (Btrfs f) alone at (BtrfsSector b) so sl = if_passed (bytes_eq f b.fsid) (At (b.address / 512)) (λ same. address_below b.address sl)
rule_is (Label i s) alone at (Lvm n) so sl = if_passed (i == at.image && s == at.sector) (At n) (λ same. sl)
rule_is (Ext v) alone at (ExtSector x) so sl = if_passed (is_same_volume v (volume_of x)) (At x.copy_sector) (λ same. sl)
rule_is (Xfs5 x) alone at (Inode i) so sl = if_placed (is_mark_of x i) (inode_sector x i.inode.number) (inode_near x i.inode.number so)
rule_is (Trees u) alone at (Tree t) so sl = if_ruled (bytes_eq u t.block.identifier) (tree_rule t) (placed_is t.first t.second)
rule_is (Extinode u) alone at (Placed pair place) so sl = if_ruled (bytes_eq u place.identifier) (inodes_rule place) (inodes_near place)
rule_is o alone at l so sl = tt

any_rule : (P : Type 0) (rule : Option Rule) → P → IfSome rule (λ r. P)
any_rule P None is = tt
any_rule P (Some r) is = is

kind_is : (o : Owner) (alone : Bool) (at : Place) (l : Landmark) → IfSome (rule_in o alone at l) (λ rule. group_of (kind_of l) ≡ group_kind o)
unfolding rule_in
kind_is Table alone at (Gpt t) = refl
kind_is (Ntfs b) alone at (Boot c) = any_rule _ (cond (is_same_boot b c) (Some (Either 0 b.total)) None) refl
kind_is (Ntfs b) alone at (FileRecord r) = any_rule _ (cond alone (record_rule b r) None) refl
kind_is (Xfs x) alone at (Super y) = any_rule _ (cond (is_same_super x y) (Some (Every (ag_sectors x) x.ag_count 0)) None) refl
kind_is (Xfs x) alone at (Super5 y places) = any_rule _ (cond (is_same_super x y) (Some (Every (ag_sectors x) x.ag_count 0)) None) refl
kind_is (Xfs x) alone at (Agf g) = any_rule _ (cond alone (ag_rule x g 1) None) refl
kind_is (Xfs x) alone at (Agi g) = any_rule _ (cond alone (ag_rule x g 2) None) refl
kind_is (Btrfs f) alone at (BtrfsSector b) = any_rule _ (cond (bytes_eq f b.fsid) (Some (At (b.address / 512))) None) refl
kind_is (Label i s) alone at (Lvm n) = any_rule _ (cond (i == at.image && s == at.sector) (Some (At n)) None) refl
kind_is (Ext v) alone at (ExtSector x) = any_rule _ (cond (is_same_volume v (volume_of x)) (Some (At x.copy_sector)) None) refl
kind_is (Xfs5 x) alone at (Inode i) = any_rule _ (cond (is_mark_of x i) (option_map At (inode_sector x i.inode.number)) None) refl
kind_is (Trees u) alone at (Tree t) = any_rule _ (cond (bytes_eq u t.block.identifier) (tree_rule t) None) refl
kind_is (Extinode u) alone at (Placed pair place) = any_rule _ (cond (bytes_eq u place.identifier) (inodes_rule place) None) refl
kind_is o alone at l = tt

-- ---- marks

of_rule : (lengths : List ℕ) (o : Owner) (s : Sighting) (rule : Option Rule) → IsInImages lengths s → IfSome rule IsRule → IfSome rule (λ r. group_of (kind_of s.landmark) ≡ group_kind o) →
    IfSome (option_map (λ r. record { kind = kind_of s.landmark; image = s.image; sector = s.sector; rule = r }) rule) (IsMark lengths (group_kind o))
of_rule lengths o s None is rule kind = tt
of_rule lengths o s (Some r) is rule kind = record { kind_of = kind; image = is.image; sector = is.sector; rule = rule }

pub are_marks : (lengths : List ℕ) (o : Owner) (alone : Bool) (found : List Sighting) → IsSoundOwner o → All (IsInImages lengths) found → All (IsMark lengths (group_kind o)) (filter_map (mark_in o alone) found)
are_marks lengths o alone found so each =
    mapped_each (IsInImages lengths) (IsMark lengths (group_kind o)) (mark_in o alone) (λ s is. of_rule lengths o s (rule_in o alone (sighted_at s) s.landmark) is (rule_is o alone (sighted_at s) s.landmark so is.sound) (kind_is o alone (sighted_at s) s.landmark)) found each

-- ---- they rise

placed : (s : Sighting) (rule : Option Rule) → IfSome (option_map (λ r. record { kind = kind_of s.landmark; image = s.image; sector = s.sector; rule = r }) rule) (λ m. mark_place m ≡ sighting_place s)
placed s None = tt
placed s (Some r) = refl

above_one : (n : ℕ) (s : Sighting) (one : Option Mark) (rest : List Mark) → IfSome one (λ m. mark_place m ≡ sighting_place s) → n < sighting_place s → All (λ k. n < k) (map mark_place rest) → All (λ k. n < k) (map mark_place (cons_option one rest))
above_one n s None rest at less all = all
above_one n s (Some m) rest at less all = All-cons (λ k. n < k) (mark_place m) (map mark_place rest) (omega arith) all

above : (n : ℕ) (o : Owner) (alone : Bool) (found : List Sighting) → All (λ t. n < sighting_place t) found → All (λ k. n < k) (map mark_place (filter_map (mark_in o alone) found))
above n o alone [] all = All-nil (λ k. n < k)
above n o alone (s ∷ found) all =
    above_one n s (mark_in o alone s) (filter_map (mark_in o alone) found) (placed s (rule_in o alone (sighted_at s) s.landmark)) (All-head (λ t. n < sighting_place t) s found all) (above n o alone found (All-tail (λ t. n < sighting_place t) s found all))

rise_one : (s : Sighting) (one : Option Mark) (rest : List Mark) → IfSome one (λ m. mark_place m ≡ sighting_place s) → All (λ k. sighting_place s < k) (map mark_place rest) → Rises (map mark_place rest) → Rises (map mark_place (cons_option one rest))
unfolding Rises
rise_one s None rest at all rises = rises
rise_one s (Some m) rest at all rises = (rw at all, rises)

marks_rise : (o : Owner) (alone : Bool) (found : List Sighting) → AreRising found → Rises (map mark_place (filter_map (mark_in o alone) found))
unfolding Rises
marks_rise o alone [] rising = tt
marks_rise o alone (s ∷ found) rising =
    rise_one s (mark_in o alone s) (filter_map (mark_in o alone) found) (placed s (rule_in o alone (sighted_at s) s.landmark)) (above (sighting_place s) o alone found rising.0) (marks_rise o alone found rising.1)

pub are_rising : (o : Owner) (alone : Bool) (found : List Sighting) → AreRising found → IsStrictlyIncreasing (map mark_place (filter_map (mark_in o alone) found))
are_rising o alone found rising = rising_from (map mark_place (filter_map (mark_in o alone) found)) (marks_rise o alone found rising)

-- ---- No landmark but a header of a partition table has entries after it.

pub not_gpt : (l : Landmark) (sector long : ℕ) (bytes : List ℕ) → ((h : GptTable) → l ≡ Gpt h → ⊥) → hints_by l sector long bytes ≡ []
not_gpt (Gpt h) sector long bytes never = absurd (never h refl)
not_gpt o sector long bytes never = refl

one_at_most : (b : Bool) → cond b 1 0 ≤ 1
one_at_most true = omega arith
one_at_most false = omega arith

pub followed_few : (l : Landmark) (sector long : ℕ) → cond (entries_follow l sector long) 1 0 ≤ cond (kind_place (kind_of l) == 0) 1 0
followed_few (Gpt h) sector long = one_at_most (has_entries h sector long)
followed_few o sector long = omega arith
