-- When two parameter sets give the same volume.
use Rattle.std.specs.Prelude.{ℕ, ◌≡◌, ◌*◌, ◌<◌, ◌≤◌, List, length, All}
use Rattle.raid_params.specs.declared.types.Geometry.{Geometry}
use Rattle.raid_terms.specs.Volume.{volume}

-- the bytes of so many images, of at least `end` sectors each
pub record AreImages (images end : ℕ) (bytes : List (List ℕ)) : Type 0 where
  pub many : length bytes ≡ images
  pub long : All (λ image. 512 * end ≤ length image) bytes
  pub fit : All (λ image. All (λ byte. byte < 256) image) bytes

-- two sets are alike over so many images, whose members end before the image sector `end`: whatever the images hold, the
-- volumes are equal
abbrev pub AreAlike : Geometry → Geometry → ℕ → ℕ → Type 0
AreAlike one other images end = (bytes : List (List ℕ)) → AreImages images end bytes → volume bytes one end ≡ volume bytes other end
