-- What holds of all mirrors.
use Rattle.std.specs.Prelude.{ℕ, ◌≡◌, ◌<◌, IsTrue}
use Rattle.near_mirror.specs.Copies.{copy_sector, copy_slot, near_sectors}
use Rattle.near_mirror.specs.Heads.{is_valid_near}
use Rattle.near_mirror.specs.Words.{HasNearWord, near_word}
use Rattle.near_mirror.specs.declared.types.NearHead.{NearHead}
use Rattle.near_mirror.specs.declared.types.NearSet.{NearSet}

-- the copies of a sector are on different slots
abbrev pub CopiesAreApart : Type 0
CopiesAreApart = (head : NearHead) (v one other : ℕ) → IsTrue (is_valid_near head) → one < head.layout.copies → other < head.layout.copies →
    copy_slot head one v ≡ copy_slot head other v → one ≡ other

-- a member sector is one copy of one sector
abbrev pub CopiesShareNoSector : Type 0
CopiesShareNoSector = (head : NearHead) (end v w one other : ℕ) → IsTrue (is_valid_near head) → v < near_sectors head end → w < near_sectors head end →
    one < head.layout.copies → other < head.layout.copies →
    copy_slot head one v ≡ copy_slot head other w → copy_sector head end one v ≡ copy_sector head end other w → (v ≡ w) × (one ≡ other)

-- parameter sets with the same word are the same set
abbrev pub NearWordsHaveOneSpelling : Type 0
NearWordsHaveOneSpelling = (g h : NearSet) → HasNearWord g → HasNearWord h → near_word g ≡ near_word h → g ≡ h
