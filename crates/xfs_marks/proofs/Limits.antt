-- What a caller may rely on in what was read.
use Rattle.std.proofs.Common.{◌≡◌, ℕ, ◌+◌, ◌*◌, ◌/◌, ◌<◌, ◌≤◌, List, Some, true, arith, ◌^◌}
use Rattle.std.proofs.lemmas.Bool.Decides.{nat_tests}
use Rattle.std.proofs.Math.Nat.{mul-le-mul_right, mul_comm}
use Rattle.xfs_marks.specs.Superblock.{end_sector, ag_sectors, is_sound, is_xfs_super, xfs_super}
use Rattle.xfs_marks.specs.declared.superblock.XfsSuper.{XfsSuper}

-- the numbers are those of a file system
pub super_sound : (s : List ℕ) (x : XfsSuper) → xfs_super s ≡ Some x → is_sound x ≡ true
unfolding xfs_super is_xfs_super
super_sound s x e = grind arith

-- a group begins, and its heads lie, below the limit
pub ag_below : (x : XfsSuper) (g : ℕ) → is_sound x ≡ true → g < x.ag_count → g * ag_sectors x + 2 * (x.sector / 512) < 2 ^ 55
unfolding is_sound end_sector
ag_below x g t below =
    let most : g * ag_sectors x ≤ x.ag_count * ag_sectors x = mul-le-mul_right (ag_sectors x) (omega arith) in
    let same : x.ag_count * ag_sectors x ≡ ag_sectors x * x.ag_count = mul_comm x.ag_count (ag_sectors x) in
    grind (arith, nat_tests)
