-- What holds of all salvaged volumes.
use Rattle.std.specs.Prelude.{ℕ, ◌≡◌, ◌<◌, true, List, []}
use Rattle.std.specs.declared.option.Option.TheVariants.{None}
use Rattle.raid_params.specs.Size.{area}
use Rattle.raid_params.specs.Wide.{wide_fault}
use Rattle.raid_params.specs.declared.wide.Wide.{Wide}
use Rattle.raid_terms.specs.Parity.{member_byte}
use Rattle.raid_terms.specs.Volume.{volume}
use Rattle.rescue_map.specs.Damaged.{is_good, image_sector}
use Rattle.rescue_map.specs.Salvaged.{salvaged}
use Rattle.rescue_text.specs.declared.section.Section.{Section}
use Rattle.std.specs.declared.option.Option.TheVariants.{Some}

-- where no image has a section, it is the volume
abbrev pub UndamagedIsTheVolume : Type 0
UndamagedIsTheVolume = (images : List (List ℕ)) (set : Wide) (count end : ℕ) → wide_fault set count end ≡ None → salvaged images [] set end ≡ volume images set.geo end

-- two lists of images' bytes are the same on all good sectors of the members
abbrev pub AgreeOnGood : List Section → Wide → ℕ → List (List ℕ) → List (List ℕ) → Type 0
AgreeOnGood sections set end one other = (image t x : ℕ) → t < area set.geo.head end → x < 512 → is_good sections image (image_sector set image t) ≡ true →
    member_byte one set.geo.head.offset t x (Some image) ≡ member_byte other set.geo.head.offset t x (Some image)

-- the salvaged volume depends on good sectors alone
abbrev pub GoodSectorsTell : Type 0
GoodSectorsTell = (sections : List Section) (set : Wide) (count end : ℕ) (one other : List (List ℕ)) → wide_fault set count end ≡ None →
    AgreeOnGood sections set end one other → salvaged one sections set end ≡ salvaged other sections set end
