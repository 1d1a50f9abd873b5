-- The bytes of a device, where they are known, and what it stands on.
use Rattle.std.specs.Prelude.{ℕ, ◌≡◌, ◌*◌, List, length, IfSome}
use Rattle.std.specs.declared.option.Option.{Option}
use Rattle.std.specs.Borrow.{MutBor}
use Rattle.outside.specs.Seen.{Image, Seen, World}

-- the known bytes are 512 for each sector
abbrev pub IsContent : Option (List ℕ) → ℕ → Type 0
IsContent content sectors = IfSome content (λ bytes. length bytes ≡ 512 * sectors)

-- what stays of what a device stands on: the number by which proofs know its reference to images, their world, and those that are attached
pub record Fixed : Type 0 where
  pub reference : ℕ
  pub world : World
  pub attached : List Image

-- of a device over images behind a reference
abbrev pub fixed_behind : {I : Type 0} → (I → Seen) → MutBor I → Fixed
fixed_behind seen images = record { reference = images.ghost_name; world = (seen images.now).world; attached = (seen images.now).attached }
