-- The members of a set: which slots hold an image, and how far it reaches.
use Rattle.std.specs.Prelude.{ℕ, ◌≡◌, ◌≤◌, ◌<◌, true, List, [], count_by, slice_get, slice_index, slice_index_or, IfSome, IsSomeAnd}
use Rattle.std.specs.declared.option.Option.{Option}
use Rattle.std.specs.Option.{is_some}
use Rattle.outside.specs.Seen.{Image}
use Rattle.raid_params.specs.Validity.{is_shaped}
use Rattle.raid_params.specs.declared.types.Geometry.{Geometry}

-- how many slots hold an image
unfoldable pub held : List (Option ℕ) → ℕ
held slots = count_by is_some slots

-- a set of a sensible shape, over `images` images
pub record IsTestable (geo : Geometry) : Type 0 where
  pub images : ℕ
  pub shaped : is_shaped geo images ≡ true

-- a slot is empty, or holds an attached image that reaches to the end
abbrev pub Reaches : List Image → ℕ → Option ℕ → Type 0
Reaches attached end slot = IfSome slot (λ i. IsSomeAnd (slice_get attached i) (λ image. end ≤ image.sectors))

-- the images hold bytes
abbrev pub HoldBytes : List (List ℕ) → Type 0
HoldBytes images = (i k : ℕ) → slice_index (slice_index_or images i []) k < 256
