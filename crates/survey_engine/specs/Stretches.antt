-- No inode of XFS that is a mark is passed over where sectors are looked at one by one, whichever file system it is of.
use Rattle.std.specs.Prelude.{◌≡◌, ℕ, true, List, [], Some, None}
use Rattle.xfs5.specs.Inode.{xfs_inode}
use Rattle.xfs5.specs.Places.{is_mark, is_sound}
use Rattle.xfs5.specs.declared.inode.XfsInode.{XfsInode}
use Rattle.xfs5.specs.declared.places.XfsInodes.{XfsInodes}
use Rattle.survey_engine.specs.Landmarks.{inode_in, start_in}

-- one of 512 bytes is seen, where inodes have so many
abbrev pub SmallMarksAreSeen : Type 0
SmallMarksAreSeen = (places : XfsInodes) (sector : List ℕ) (inode : XfsInode) → places.inode ≡ 512 → xfs_inode sector [] ≡ Some inode → is_mark places inode.number ≡ true →
    inode_in sector ≡ Some (record { inode = inode; bytes = Some 512 })

-- the first sector of one that goes on with the rest is seen, of whatever size inodes are, but where it is itself an inode of 512 bytes
abbrev pub LargerMarksAreSeen : Type 0
LargerMarksAreSeen = (places : XfsInodes) (sector rest : List ℕ) (inode : XfsInode) → is_sound places ≡ true → xfs_inode sector rest ≡ Some inode → is_mark places inode.number ≡ true →
    xfs_inode sector [] ≡ None → start_in sector ≡ Some (record { inode = inode; bytes = None })
