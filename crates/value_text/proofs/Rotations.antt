-- What a text before a colon says of the rotation that it spells.
use Rattle.std.proofs.Common.{◌≡◌, ◌≢◌, ℕ, List, ◌∷◌, ◌++◌, decimal, sym, subst, ◌∙◌, inl, inr}
use Rattle.std.proofs.lemmas.Bool.{cases_eq}
use Rattle.raid_params.specs.declared.types.Pattern.{Pattern}
use Rattle.value_text.specs.declared.rotation.Rotation.{Rotation}
use Rattle.value_text.specs.RotationLaws.{called, name_alone, name_delayed, no_star}
use Rattle.value_text.specs.Separators.{IsWithout, first_separator, has_separator}
use Rattle.value_text.specs.Spelling.{pattern_name}

-- a text without a star that is no pattern's name is no rotation's
pub none_alone : (text : List ℕ) → IsWithout 42 text → ((pattern : Pattern) → Unit {0} → text ≢ pattern_name pattern) → (x : Rotation) → text ≢ called x
none_alone text without none x e = elim (cases_eq x.delay 1) [
  | inl one ↦ none x.pattern tt (e ∙ name_alone x.pattern x.delay one)
  | inr more ↦ has_separator 42 (pattern_name x.pattern) (decimal x.delay) (subst (λ (bytes : List ℕ). IsWithout 42 bytes) (e ∙ name_delayed x.pattern x.delay more) without)
]

-- what stands before a star is a pattern's name, and behind it stands a delay other than one
pub parts_at_star : (text name number : List ℕ) → IsWithout 42 name × (text ≡ name ++ 42 ∷ number) → (x : Rotation) → text ≡ called x → (x.delay ≢ 1) × (name ≡ pattern_name x.pattern) × (number ≡ decimal x.delay)
parts_at_star text name number at x e = elim (cases_eq x.delay 1) [
  | inl one ↦ absurd (has_separator 42 name number (subst (λ (bytes : List ℕ). IsWithout 42 bytes) (sym (name_alone x.pattern x.delay one) ∙ sym e ∙ at.1) (no_star x.pattern)))
  | inr more ↦ (
      let parts = first_separator 42 name (pattern_name x.pattern) number (decimal x.delay) at.0 (no_star x.pattern) (sym at.1 ∙ e ∙ name_delayed x.pattern x.delay more) in
      (more, parts.0, parts.1)
      )
]
