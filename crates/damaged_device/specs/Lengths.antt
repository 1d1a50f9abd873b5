-- The bytes of a damaged volume, where the images are known: 512 for each sector.
use Rattle.std.proofs.Common.{ℕ, List, Option, None, Some}
use Rattle.std.specs.Option.{option_map}
use Rattle.block_device.specs.Content.{IsContent}
use Rattle.raid_params.specs.Size.{volume_sectors}
use Rattle.raid_params.specs.declared.wide.Wide.{Wide}
use Rattle.rescue_map.specs.Salvaged.{salvaged}
use Rattle.rescue_map.proofs.Blocks.{sectors_long}
use Rattle.rescue_text.specs.declared.section.Section.{Section}

-- the salvaged volume
abbrev pub salvaged_told : Option (List (List ℕ)) → List Section → Wide → ℕ → Option (List ℕ)
salvaged_told told sections set end = option_map (λ images. salvaged images sections set end) told

pub salvaged_whole : (told : Option (List (List ℕ))) (sections : List Section) (set : Wide) (end : ℕ) → IsContent (salvaged_told told sections set end) (volume_sectors set.geo.head end)
salvaged_whole None sections set end = tt
salvaged_whole (Some images) sections set end = sectors_long images sections set 0 (volume_sectors set.geo.head end)
