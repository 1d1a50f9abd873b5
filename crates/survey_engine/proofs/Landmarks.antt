-- Byte 3 says which kind of landmark a sector may be by its front.
use Rattle.std.proofs.Common.{◌≡◌, ◌≢◌, ◌≤◌, ℕ, zero, suc, List, Bool, true, false, cond, Some, None, refl, sym, ◌∙◌, arith, slice_index}
use Rattle.std.specs.Option.{option_map}
use Rattle.gpt_marks.specs.Header.{is_gpt_header}
use Rattle.ntfs_marks.specs.Boot.{is_ntfs_boot, ntfs_boot, ntfs_boot_of}
use Rattle.ntfs_marks.specs.FileRecord.{is_ntfs_record}
use Rattle.xfs_marks.specs.Superblock.{is_xfs_super}
use Rattle.xfs_marks.specs.Group.{is_xfs_agf, is_xfs_agi}
use Rattle.more_marks.specs.Btrfs.{is_btrfs_super}
use Rattle.more_marks.specs.Lvm.{is_lvm_label}
use Rattle.std.proofs.lemmas.Bool.Decides.{nat_tests}
use Rattle.btrfstree.specs.Header.{is_block, is_counted, tree_block}
use Rattle.survey_engine.proofs.FourthByte.{gpt_byte, boot_byte, record_byte, super_byte, agf_byte, agi_byte, label_byte, btrfs_byte}
use Rattle.survey_engine.specs.Landmarks.{front_in, head_in, record_or_label_in, super_in}
use Rattle.survey_engine.specs.declared.landmark.Landmark.{Landmark}
use Rattle.survey_engine.specs.declared.landmark.Landmark.TheVariants.{Boot}

pub refuted : (b : Bool) → (b ≡ true → ⊥) → b ≡ false
refuted true never = absurd (never refl)
refuted false never = refl

-- a sector with another byte 3 is no header, and one with another byte 64 no superblock of btrfs
pub not_gpt : (s : List ℕ) → slice_index s 3 ≢ 32 → is_gpt_header s ≡ false
not_gpt s other = refuted (is_gpt_header s) (λ yes. other (gpt_byte s yes))

pub not_btrfs : (s : List ℕ) → slice_index s 64 ≢ 95 → is_btrfs_super s ≡ false
not_btrfs s other = refuted (is_btrfs_super s) (λ yes. other (btrfs_byte s yes))

revision : (s : List ℕ) → is_counted s ≡ true → slice_index s 63 ≤ 1
unfolding is_counted is_block
revision s passes = grind (arith, nat_tests)

-- a sector with a later revision of back references is no tree block
not_counted : (s : List ℕ) → is_counted s ≡ false → tree_block s ≡ None
unfolding tree_block
not_counted s fails = rw fails refl

pub other_revision : (s : List ℕ) (byte : ℕ) → slice_index s 63 ≡ byte → byte ≢ 0 → byte ≢ 1 → tree_block s ≡ None
other_revision s byte is neither nor = not_counted s (refuted (is_counted s) (λ passes. let few : slice_index s 63 ≤ 1 = revision s passes in absurd (one_of byte (omega (arith, is, few)) neither nor)))
  where
    one_of : (n : ℕ) → n ≤ 1 → n ≢ 0 → n ≢ 1 → ⊥
    one_of zero few neither nor = neither refl
    one_of (suc zero) few neither nor = nor refl
    one_of (suc (suc n)) few neither nor = absurd (omega arith)

not_boot : (s : List ℕ) (c : ℕ) → slice_index s 3 ≡ c → c ≢ 78 → is_ntfs_boot s ≡ false
not_boot s c is other = refuted (is_ntfs_boot s) (λ yes. other (sym is ∙ boot_byte s yes))

not_record : (s : List ℕ) (c : ℕ) → slice_index s 3 ≡ c → c ≢ 69 → is_ntfs_record s ≡ false
not_record s c is other = refuted (is_ntfs_record s) (λ yes. other (sym is ∙ record_byte s yes))

not_super : (s : List ℕ) (c : ℕ) → slice_index s 3 ≡ c → c ≢ 66 → is_xfs_super s ≡ false
not_super s c is other = refuted (is_xfs_super s) (λ yes. other (sym is ∙ super_byte s yes))

not_agf : (s : List ℕ) (c : ℕ) → slice_index s 3 ≡ c → c ≢ 70 → is_xfs_agf s ≡ false
not_agf s c is other = refuted (is_xfs_agf s) (λ yes. other (sym is ∙ agf_byte s yes))

not_agi : (s : List ℕ) (c : ℕ) → slice_index s 3 ≡ c → c ≢ 73 → is_xfs_agi s ≡ false
not_agi s c is other = refuted (is_xfs_agi s) (λ yes. other (sym is ∙ agi_byte s yes))

not_label : (s : List ℕ) (c : ℕ) → slice_index s 3 ≡ c → c ≢ 69 → is_lvm_label s ≡ false
not_label s c is other = refuted (is_lvm_label s) (λ yes. other (sym is ∙ label_byte s yes))

map_if : {A : Type 0} (f : A → Landmark) (b : Bool) (x : A) → cond b (Some (f x)) None ≡ option_map f (cond b (Some x) None)
map_if f true x = refl
map_if f false x = refl

pub boot_is : (s : List ℕ) → slice_index s 3 ≡ 78 → front_in s ≡ option_map Boot (ntfs_boot s)
unfolding front_in ntfs_boot
boot_is s is =
    let b : is_ntfs_record s ≡ false = not_record s 78 is (omega arith) in
    let c : is_xfs_super s ≡ false = not_super s 78 is (omega arith) in
    let d : is_xfs_agf s ≡ false = not_agf s 78 is (omega arith) in
    let e : is_xfs_agi s ≡ false = not_agi s 78 is (omega arith) in
    let f : is_lvm_label s ≡ false = not_label s 78 is (omega arith) in
    rw (b, c, d, e, f) (map_if Boot (is_ntfs_boot s) (ntfs_boot_of s))

pub record_or_label_is : (s : List ℕ) → slice_index s 3 ≡ 69 → front_in s ≡ record_or_label_in s
unfolding front_in record_or_label_in
record_or_label_is s is =
    let b : is_ntfs_boot s ≡ false = not_boot s 69 is (omega arith) in
    let c : is_xfs_super s ≡ false = not_super s 69 is (omega arith) in
    let d : is_xfs_agf s ≡ false = not_agf s 69 is (omega arith) in
    let e : is_xfs_agi s ≡ false = not_agi s 69 is (omega arith) in
    rw (b, c, d, e) refl

pub super_is : (s : List ℕ) → slice_index s 3 ≡ 66 → front_in s ≡ super_in s
unfolding front_in super_in
super_is s is =
    let b : is_ntfs_boot s ≡ false = not_boot s 66 is (omega arith) in
    let c : is_ntfs_record s ≡ false = not_record s 66 is (omega arith) in
    let d : is_xfs_agf s ≡ false = not_agf s 66 is (omega arith) in
    let e : is_xfs_agi s ≡ false = not_agi s 66 is (omega arith) in
    let f : is_lvm_label s ≡ false = not_label s 66 is (omega arith) in
    rw (b, c, d, e, f) refl

head_at : (s : List ℕ) (c : ℕ) → slice_index s 3 ≡ c → c ≢ 78 → c ≢ 69 → c ≢ 66 → front_in s ≡ head_in s
unfolding front_in head_in
head_at s byte is other_boot other_record other_super =
    let b : is_ntfs_boot s ≡ false = not_boot s byte is other_boot in
    let c : is_ntfs_record s ≡ false = not_record s byte is other_record in
    let d : is_xfs_super s ≡ false = not_super s byte is other_super in
    let e : is_lvm_label s ≡ false = not_label s byte is other_record in
    rw (b, c, d, e) refl

pub agf_is : (s : List ℕ) → slice_index s 3 ≡ 70 → front_in s ≡ head_in s
agf_is s is = head_at s 70 is (omega arith) (omega arith) (omega arith)

pub agi_is : (s : List ℕ) → slice_index s 3 ≡ 73 → front_in s ≡ head_in s
agi_is s is = head_at s 73 is (omega arith) (omega arith) (omega arith)

pub none_is : (s : List ℕ) (c : ℕ) → slice_index s 3 ≡ c → c ≢ 78 → c ≢ 69 → c ≢ 66 → c ≢ 70 → c ≢ 73 → front_in s ≡ None
unfolding head_in
none_is s byte is other_boot other_record other_super other_agf other_agi =
    let a : is_xfs_agf s ≡ false = not_agf s byte is other_agf in
    let b : is_xfs_agi s ≡ false = not_agi s byte is other_agi in
    head_at s byte is other_boot other_record other_super ∙ rw (a, b) refl
