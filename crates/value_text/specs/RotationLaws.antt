-- Proofs that each rotation has a name of its own, without a separator. The implementations of `Spelled` and `Field`
-- give them as their law, which may cite `specs` alone.
use Rattle.std.proofs.Common.{◌≡◌, ◌≢◌, ◌<◌, ◌≤◌, ◌^◌, ℕ, Bool, true, List, [], ◌∷◌, ◌++◌, decimal, refl, sym, ap, subst, ◌∙◌, arith, eqb, cond, not, ◌==◌, inl, inr}
use Rattle.std.specs.Cmp.Derive.{both_true}
use Rattle.std.specs.List.{list_all}
use Rattle.std.proofs.lemmas.Bool.{and_from, and_parts, cases_eq, ne_eqb, not-true, eqb-false}
use Rattle.std.proofs.lemmas.Fmt.{decimal_injective}
use Rattle.std.proofs.lemmas.List.Elements.{All-nil, All-cons}
use Rattle.std.proofs.lemmas.List.Folds.{list_all-append}
use Rattle.raid_params.specs.declared.types.Pattern.{Pattern}
use Rattle.raid_params.specs.declared.types.Pattern.TheVariants.{Plain, La, Ra, Ls, Rs, ParityFirst, ParityLast, NRestart, NContinue, La6, Ra6, Ls6, Rs6, ParityFirst6}
use Rattle.value_text.specs.declared.rotation.Rotation.{Rotation}
use Rattle.value_text.specs.NameLaws.{number_law, pattern_law}
use Rattle.value_text.specs.Separators.{IsWithout, first_separator, has_separator}
use Rattle.value_text.specs.SetText.{rotation_name}
use Rattle.value_text.specs.Spelling.{pattern_name, is_plain, IsFieldName}

abbrev pub called : Rotation → List ℕ
called rotation = rotation_name rotation.pattern rotation.delay

-- the delay is one that a word has
abbrev pub IsRotation : Rotation → Type 0
IsRotation rotation = (1 ≤ rotation.delay) × (rotation.delay < 2 ^ 32)

abbrev is_no_star : ℕ → Bool
is_no_star byte = not (byte == 42)

other_than_star : (bytes : List ℕ) → list_all is_no_star bytes ≡ true → IsWithout 42 bytes
other_than_star [] none = All-nil (λ byte. byte ≢ 42)
other_than_star (byte ∷ bytes) none =
    let parts = and_parts (is_no_star byte) (list_all is_no_star bytes) none in
    All-cons (λ byte. byte ≢ 42) byte bytes (eqb-false byte 42 (not-true (byte == 42) parts.0)) (other_than_star bytes parts.1)

bytes_without_star : (pattern : Pattern) → list_all is_no_star (pattern_name pattern) ≡ true
bytes_without_star Plain = refl
bytes_without_star La = refl
bytes_without_star Ra = refl
bytes_without_star Ls = refl
bytes_without_star Rs = refl
bytes_without_star ParityFirst = refl
bytes_without_star ParityLast = refl
bytes_without_star NRestart = refl
bytes_without_star NContinue = refl
bytes_without_star La6 = refl
bytes_without_star Ra6 = refl
bytes_without_star Ls6 = refl
bytes_without_star Rs6 = refl
bytes_without_star ParityFirst6 = refl

-- no pattern's name has a star
pub no_star : (pattern : Pattern) → IsWithout 42 (pattern_name pattern)
no_star pattern = other_than_star (pattern_name pattern) (bytes_without_star pattern)

-- the name for a delay of 1, and for another
pub name_alone : (pattern : Pattern) (delay : ℕ) → delay ≡ 1 → rotation_name pattern delay ≡ pattern_name pattern
name_alone pattern delay one = ap (λ (d : ℕ). rotation_name pattern d) one

pub name_delayed : (pattern : Pattern) (delay : ℕ) → delay ≢ 1 → rotation_name pattern delay ≡ pattern_name pattern ++ 42 ∷ decimal delay
name_delayed pattern delay more = ap (λ (is : Bool). cond is (pattern_name pattern) (pattern_name pattern ++ 42 ∷ decimal delay)) (ne_eqb delay 1 more)

-- a name with a star is no pattern's
pub no_pattern : (pattern other : Pattern) (number : List ℕ) → pattern_name pattern ≡ pattern_name other ++ 42 ∷ number → ⊥
no_pattern pattern other number e = has_separator 42 (pattern_name other) number (subst (λ (bytes : List ℕ). IsWithout 42 bytes) e (no_star pattern))

same_parts : (p q : Pattern) (d e : ℕ) → d < 2 ^ 32 → e < 2 ^ 32 → rotation_name p d ≡ rotation_name q e → (p ≡ q) × (d ≡ e)
same_parts p q d e small less same = elim (cases_eq d 1) [
  | inl one ↦ elim (cases_eq e 1) [
    | inl other ↦ (pattern_law.one_value p q tt tt (sym (name_alone p d one) ∙ same ∙ name_alone q e other), one ∙ sym other)
    | inr more ↦ absurd (no_pattern p q (decimal e) (sym (name_alone p d one) ∙ same ∙ name_delayed q e more))
  ]
  | inr more ↦ elim (cases_eq e 1) [
    | inl other ↦ absurd (no_pattern q p (decimal d) (sym (name_alone q e other) ∙ sym same ∙ name_delayed p d more))
    | inr again ↦ (
        let parts = first_separator 42 (pattern_name p) (pattern_name q) (decimal d) (decimal e) (no_star p) (no_star q) (sym (name_delayed p d more) ∙ same ∙ name_delayed q e again) in
        (pattern_law.one_value p q tt tt parts.0, decimal_injective d e (omega arith) (omega arith) parts.1))
  ]
]

made : Pattern → ℕ → Rotation
made pattern delay = record { pattern = pattern; delay = delay }

one_rotation : (x y : Rotation) → IsRotation x → IsRotation y → called x ≡ called y → x ≡ y
unfolding made
one_rotation x y p q e =
    let same = same_parts x.pattern y.pattern x.delay y.delay p.1 q.1 e in
    let equal : made x.pattern x.delay ≡ made y.pattern y.delay = ap (λ (pattern : Pattern). made pattern x.delay) same.0 ∙ ap (λ (delay : ℕ). made y.pattern delay) same.1 in
    equal

plain_name : (pattern : Pattern) (delay : ℕ) → delay < 2 ^ 32 → list_all is_plain (rotation_name pattern delay) ≡ true
plain_name pattern delay small = elim (cases_eq delay 1) [
  | inl one ↦ ap (list_all is_plain) (name_alone pattern delay one) ∙ pattern_law.has_no_separator pattern tt
  | inr more ↦
      ap (list_all is_plain) (name_delayed pattern delay more)
      ∙ list_all-append is_plain (pattern_name pattern) (42 ∷ decimal delay)
      ∙ and_from (list_all is_plain (pattern_name pattern)) (list_all is_plain (42 ∷ decimal delay)) (pattern_law.has_no_separator pattern tt) (number_law.has_no_separator delay (omega arith))
]

pub rotation_law : IsFieldName called IsRotation
rotation_law = record { one_value = one_rotation; has_no_separator = λ x p. plain_name x.pattern x.delay p.1 }
