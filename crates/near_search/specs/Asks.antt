-- What may be asked of a search for mirrors.
use Rattle.std.specs.Prelude.{◌≤◌, ◌<◌, ◌^◌, IsTrue, List, length, All}
use Rattle.outside.specs.Seen.{Image}
use Rattle.raid_params.specs.declared.limits.TheConstants.{MOST}
use Rattle.raid_params.specs.Validity.{is_chunk}
use Rattle.near_mirror.specs.Heads.{are_copies, has_members}
use Rattle.near_search.specs.declared.ask.NearAsk.{NearAsk}

-- numbers of copies and of members, chunks and offsets that mirrors have, and limits within those of the words
pub record IsNearAsk (ask : NearAsk) : Type 0 where
  pub layouts : All (λ layout. IsTrue (are_copies layout.copies)) ask.layouts.items
  pub members : All (λ members. IsTrue (has_members members)) ask.members.items
  pub chunks : All (λ chunk. IsTrue (is_chunk chunk)) ask.chunks.items
  pub offsets : All (λ offset. offset < 2 ^ 55) ask.offsets.items
  pub missing : ask.missing ≤ MOST
  pub foreign : ask.foreign ≤ MOST
  pub end : ask.end < 2 ^ 55

-- from 1 to 24 images are attached, which all reach to the end
pub record HasImages (ask : NearAsk) (attached : List Image) : Type 0 where
  pub some : 1 ≤ length attached
  pub few : length attached ≤ MOST
  pub long : All (λ image. ask.end ≤ image.sectors) attached
