-- Three images in memory, as the tests have them.
use Rattle.std.proofs.Common.{Option, Bool, not, ◌≡◌, ℕ, ◌≤◌, ◌<◌, ◌^◌, List, [], ◌∷◌, length, get_or, true, refl, ap, ◌∙◌, Some, None, All, IsSomeAnd, slice_get}
use Rattle.std.specs.Option.{is_some, option_map}
use Rattle.std.proofs.lemmas.List.Elements.{All-cons, All-nil}
use Rattle.outside.specs.Seen.{Image}
use Rattle.raid_params.specs.Validity.{is_shaped}
use Rattle.raid_params.specs.declared.types.Geometry.{Geometry}
use Rattle.parity_scan.specs.Scan.{IsScannable}

-- the image reaches to the end
abbrev IsLong : List Image → ℕ → ℕ → Type 0
IsLong attached end i = IsSomeAnd (slice_get attached i) (λ image. end ≤ image.sectors)

-- an image whose length is not known is not there
pub absent : (image : Option Image) (sectors : Option ℕ) (none : Bool) → sectors ≡ option_map (λ a. a.sectors) image → is_some sectors ≡ not none → none ≡ true → image ≡ None
absent None sectors none is some e = refl
absent (Some image) sectors none is some e = absurd (cc (ap (λ (b : Bool). not b) e))

-- three images are there, and each reaches to the end
pub three_long : (attached : List Image) (end : ℕ) → IsLong attached end 0 → IsLong attached end 1 → IsLong attached end 2 → slice_get attached 3 ≡ None →
    (length attached ≡ 3) × All (λ image. end ≤ image.sectors) attached
three_long [] end a b c d = absurd a
three_long (x ∷ []) end a b c d = absurd b
three_long (x ∷ y ∷ []) end a b c d = absurd c
three_long (x ∷ y ∷ z ∷ []) end a b c d =
    let P : Image → Type 0 = λ image. end ≤ image.sectors in
    (refl, All-cons P x (y ∷ z ∷ []) a (All-cons P y (z ∷ []) b (All-cons P z [] c (All-nil P))))
three_long (x ∷ y ∷ z ∷ w ∷ rest) end a b c d = absurd (cc)

-- over them a set of a sensible shape can be tested
pub three_scannable : (geo : Geometry) (end : ℕ) (attached : List Image) → is_shaped geo 3 ≡ true → geo.head.offset < 2 ^ 55 → end < 2 ^ 55 →
    (length attached ≡ 3) × All (λ image. end ≤ image.sectors) attached → IsScannable geo end attached
three_scannable geo end attached shaped offset near long = record {
  shaped = ap (is_shaped geo) long.0 ∙ shaped;
  offset = offset;
  near = near;
  long = long.1;
}

-- so can many
pub all_scannable : (sets : List Geometry) (end : ℕ) (attached : List Image) → All (λ geo. is_shaped geo 3 ≡ true) sets → All (λ geo. geo.head.offset < 2 ^ 55) sets → end < 2 ^ 55 →
    (length attached ≡ 3) × All (λ image. end ≤ image.sectors) attached → All (λ geo. IsScannable geo end attached) sets
all_scannable sets end attached shaped near below long = λ k d inside. three_scannable (get_or sets k d) end attached (shaped k d inside) (near k d inside) below long
