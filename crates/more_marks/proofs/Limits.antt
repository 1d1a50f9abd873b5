-- What a caller may rely on in what was read.
use Rattle.std.proofs.Common.{◌≡◌, ℕ, ◌/◌, ◌<◌, List, Some, true, arith, ◌^◌}
use Rattle.std.proofs.lemmas.Bool.Decides.{nat_tests}
use Rattle.more_marks.specs.Btrfs.{btrfs_super, btrfs_super_of, is_btrfs_super, is_super_address}
use Rattle.more_marks.specs.Lvm.{is_lvm_label, lvm_label}
use Rattle.more_marks.specs.declared.btrfs.BtrfsSuper.{BtrfsSuper}

-- a superblock lies at the address
pub super_placed : (s : List ℕ) (x : BtrfsSuper) → btrfs_super s ≡ Some x → is_super_address x.address ≡ true
unfolding btrfs_super btrfs_super_of is_btrfs_super
super_placed s x e = grind arith

-- so its sector is below the limit
pub address_below : (address : ℕ) → is_super_address address ≡ true → address / 512 < 2 ^ 55
unfolding is_super_address
address_below address t = grind (arith, nat_tests)

-- the label's sector is below the limit
pub label_below : (s : List ℕ) (n : ℕ) → lvm_label s ≡ Some n → n < 2 ^ 55
unfolding lvm_label is_lvm_label
label_below s n e = grind (arith, nat_tests)
