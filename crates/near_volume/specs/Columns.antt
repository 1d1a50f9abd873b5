-- Far copies, read in runs: chunks that are as many apart as there are members lie one after the other on a slot.
use Rattle.std.specs.Prelude.{ℕ, ◌+◌, ◌*◌, ◌/◌, ◌%◌, ◌<◌, ◌≤◌, ◌≡◌, ◌⊎◌, List, slice_index}
use Rattle.near_mirror.specs.declared.types.Copying.TheVariants.{Far}
use Rattle.near_mirror.specs.declared.types.NearHead.{NearHead}

-- the sectors of a row of as many chunks as there are members
abbrev pub stripe : NearHead → ℕ
stripe head = head.members * head.chunk

-- far chunks that may be read as rows: they begin with a chunk, and are whole rows, of which a slot holds `most` sectors at most
pub record AreRows (head : NearHead) (most first count : ℕ) : Type 0 where
  pub far : head.layout.copying ≡ Far
  pub begins : first % head.chunk ≡ 0
  pub whole : count / stripe head * stripe head ≡ count
  pub fits : count / stripe head * head.chunk ≤ most

-- sectors that are read by one step: part of a chunk, or such rows
abbrev pub IsStep : NearHead → ℕ → ℕ → ℕ → Type 0
IsStep head most first count = (first % head.chunk + count ≤ head.chunk) ⊎ AreRows head most first count

-- chunk q of a list holds its sectors: f tells what each is
abbrev pub HoldsChunk : (ℕ → List ℕ) → ℕ → List ℕ → ℕ → Type 0
HoldsChunk f chunk to q = (i x : ℕ) → i < chunk → x < 512 → slice_index to (512 * (q * chunk + i) + x) ≡ slice_index (f (q * chunk + i)) x
