-- How large the numbers of a superblock are.
use Rattle.std.proofs.Common.{◌≡◌, ℕ, suc, ◌+◌, ◌-◌, ◌*◌, ◌<◌, ◌≤◌, List, Some, Bool, true, false, not, refl, sym, ap, ◌∙◌, arith, ◌^◌, pow_mono, ◌==◌, ◌&&◌, ◌||◌}
use Rattle.std.specs.List.{list_all, range_with_len}
use Rattle.std.proofs.lemmas.Bool.{false≢true}
use Rattle.std.proofs.lemmas.Bool.Decides.{nat_tests}
use Rattle.std.proofs.lemmas.Nat.{pow_pos}
use Rattle.sector_fields.specs.Fields.{u32_le}
use Rattle.inode_marks.specs.Tables.{are_descriptors, descriptor_bytes, has_group, has_inode_form, has_one_table, has_tables, inode_tables, is_descriptor, is_sound, sector_groups, table_block, tables_of}
use Rattle.inode_marks.specs.declared.tables.InodeTables.{InodeTables}

-- the code of the block size is at most 6
pub code_most : (first second : List ℕ) → has_tables first second ≡ true → u32_le first 24 ≤ 6
unfolding has_tables has_inode_form
code_most first second t = grind (arith, nat_tests)

-- so the power that it stands for is at most 64, and at least 1
pub power_most : (first second : List ℕ) → has_tables first second ≡ true → 2 ^ u32_le first 24 ≤ 64
power_most first second t = pow_mono (code_most first second t)

pub inodes_least : (first second : List ℕ) → has_tables first second ≡ true → 8 ≤ u32_le first 40
unfolding has_tables has_inode_form
inodes_least first second t = grind (arith, nat_tests)

power_least : (first : List ℕ) → 1 ≤ 2 ^ u32_le first 24
power_least first = pow_pos (u32_le first 24)

descriptor_form : (first second : List ℕ) → has_tables first second ≡ true → ((descriptor_bytes first == 32) || (descriptor_bytes first == 64)) ≡ true
unfolding has_tables has_one_table
descriptor_form first second t = grind (arith, nat_tests)

-- what a superblock says is within its limits
pub sound_of : (first second : List ℕ) → has_tables first second ≡ true → is_sound (tables_of first second) ≡ true
unfolding tables_of is_sound
sound_of first second t =
    let inodes : 8 ≤ u32_le first 40 = inodes_least first second t in
    let least : 1 ≤ 2 ^ u32_le first 24 = power_least first in
    let most : 2 ^ u32_le first 24 ≤ 64 = power_most first second t in
    let size : ((descriptor_bytes first == 32) || (descriptor_bytes first == 64)) ≡ true = descriptor_form first second t in
    let small : 1024 ≤ 1024 * 2 ^ u32_le first 24 = omega arith in
    let large : 1024 * 2 ^ u32_le first 24 ≤ 65536 = omega arith in
    grind (arith, nat_tests)

pub tables_sound : (first second : List ℕ) (x : InodeTables) → inode_tables first second ≡ Some x → is_sound x ≡ true
unfolding inode_tables
tables_sound first second x e = grind (arith, sound_of)

-- a descriptor has 32 to 64 bytes
pub descriptor_least : (x : InodeTables) → is_sound x ≡ true → 32 ≤ x.descriptor
unfolding is_sound
descriptor_least x t = grind (arith, nat_tests)

pub descriptor_most : (x : InodeTables) → is_sound x ≡ true → x.descriptor ≤ 64
unfolding is_sound
descriptor_most x t = grind (arith, nat_tests)

-- a block has 128 sectors at most
pub block_most : (x : InodeTables) → is_sound x ≡ true → x.block ≤ 65536
unfolding is_sound
block_most x t = grind (arith, nat_tests)

-- the block that a whole descriptor names
pub block_near : (x : InodeTables) (group : ℕ) (s : List ℕ) (at : ℕ) → is_descriptor x group s at ≡ true → table_block x s at < 2 ^ 47
unfolding is_descriptor
block_near x group s at t = grind (arith, nat_tests)

-- ---- the descriptors of a sector, from one on

pub descriptors_from : InodeTables → ℕ → List ℕ → ℕ → Bool
descriptors_from x first s i =
    list_all (λ j. not (has_group x (first + j)) || is_descriptor x (first + j) s (j * x.descriptor)) (range_with_len i (sector_groups x - i))

pub descriptors_start : (x : InodeTables) (first : ℕ) (s : List ℕ) → are_descriptors x first s ≡ descriptors_from x first s 0
unfolding are_descriptors descriptors_from
descriptors_start x first s =
    let all : sector_groups x ≡ sector_groups x - 0 = omega arith in
    ap (λ (n : ℕ). list_all (λ j. not (has_group x (first + j)) || is_descriptor x (first + j) s (j * x.descriptor)) (range_with_len 0 n)) all

one_more : (x : InodeTables) (first : ℕ) (s : List ℕ) (i : ℕ) → i < sector_groups x →
    descriptors_from x first s i ≡ ((not (has_group x (first + i)) || is_descriptor x (first + i) s (i * x.descriptor)) && descriptors_from x first s (i + 1))
unfolding descriptors_from
one_more x first s i below =
    let next : sector_groups x - i ≡ suc (sector_groups x - (i + 1)) = omega arith in
    ap (λ (n : ℕ). list_all (λ j. not (has_group x (first + j)) || is_descriptor x (first + j) s (j * x.descriptor)) (range_with_len i n)) next

pub descriptor_passed : (x : InodeTables) (first : ℕ) (s : List ℕ) (i : ℕ) → i < sector_groups x → are_descriptors x first s ≡ descriptors_from x first s i →
    (has_group x (first + i) && not (is_descriptor x (first + i) s (i * x.descriptor))) ≡ false → are_descriptors x first s ≡ descriptors_from x first s (i + 1)
descriptor_passed x first s i below so passes =
    so ∙ one_more x first s i below ∙ through (has_group x (first + i)) (is_descriptor x (first + i) s (i * x.descriptor)) (descriptors_from x first s (i + 1)) passes
  where
    through : (a b c : Bool) → (a && not b) ≡ false → ((not a || b) && c) ≡ c
    through false b c is = refl
    through true true c is = refl
    through true false c is = absurd (false≢true (sym is))

pub descriptor_fails : (x : InodeTables) (first : ℕ) (s : List ℕ) (i : ℕ) → i < sector_groups x → are_descriptors x first s ≡ descriptors_from x first s i →
    (has_group x (first + i) && not (is_descriptor x (first + i) s (i * x.descriptor))) ≡ true → are_descriptors x first s ≡ false
descriptor_fails x first s i below so fails =
    so ∙ one_more x first s i below ∙ stopped (has_group x (first + i)) (is_descriptor x (first + i) s (i * x.descriptor)) (descriptors_from x first s (i + 1)) fails
  where
    stopped : (a b c : Bool) → (a && not b) ≡ true → ((not a || b) && c) ≡ false
    stopped false b c is = absurd (false≢true is)
    stopped true true c is = absurd (false≢true is)
    stopped true false c is = refl

pub descriptors_end : (x : InodeTables) (first : ℕ) (s : List ℕ) (i : ℕ) → sector_groups x ≤ i → are_descriptors x first s ≡ descriptors_from x first s i → are_descriptors x first s ≡ true
unfolding descriptors_from
descriptors_end x first s i all so =
    let none : sector_groups x - i ≡ 0 = omega arith in
    so ∙ ap (λ (n : ℕ). list_all (λ j. not (has_group x (first + j)) || is_descriptor x (first + j) s (j * x.descriptor)) (range_with_len i n)) none
