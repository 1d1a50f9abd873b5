-- Images that are some, not too many, and long enough.
use Rattle.std.proofs.Common.{◌≡◌, ℕ, ◌≤◌, min, Bool, true, false, cond, nat_eq, nat_lt, fold, List, [], ◌∷◌, All, None, Some, Option, refl, sym, ◌∙◌, arith, inl, inr}
use Rattle.std.proofs.lemmas.Bool.{cases_lt, lt-ltb}
use Rattle.std.proofs.lemmas.Bool.Decides.{nat_tests}
use Rattle.std.proofs.lemmas.List.Elements.{All-cons, All-nil}
use Rattle.outside.specs.Seen.{Image, lengths_of}
use Rattle.raid_params.specs.declared.limits.TheConstants.{MOST}
use Rattle.run_ends.specs.Agreement.{count_fault, end_of, limits_fault, shortest}
use Rattle.run_ends.specs.declared.agreement.Disagreement.{Disagreement}
use Rattle.run_ends.specs.declared.agreement.Kind.TheVariants.{End}

-- what is not refused of the images
pub record Allowed (end : Option ℕ) (names : ℕ) (attached : List Image) : Type 0 where
  pub few : names ≤ MOST
  pub some : 1 ≤ names
  pub reaches : end_of end attached ≤ shortest (lengths_of attached)

pub no_limits : (end : Option ℕ) (names : ℕ) (attached : List Image) → limits_fault end names attached ≡ None → Allowed end names attached
no_limits end names attached h = by_none (nat_eq names 0) refl h
  where
    by_end : (b : Bool) → nat_lt (shortest (lengths_of attached)) (end_of end attached) ≡ b → (fault : Disagreement) → cond b (Some fault) None ≡ None → end_of end attached ≤ shortest (lengths_of attached)
    by_end true is fault e = absurd (cc)
    by_end false is fault e = elim (cases_lt (shortest (lengths_of attached)) (end_of end attached)) [
      | inl lt ↦ absurd (let t = lt-ltb (shortest (lengths_of attached)) (end_of end attached) lt in let f : true ≡ false = sym t ∙ is in cc)
      | inr le ↦ le
    ]

    by_most : (b : Bool) → nat_lt MOST names ≡ b → (rest : Option Disagreement) (fault : Disagreement) → cond b (Some fault) rest ≡ None → (names ≤ MOST) × (rest ≡ None)
    by_most true is rest fault e = absurd (cc)
    by_most false is rest fault e = elim (cases_lt MOST names) [
      | inl lt ↦ absurd (let t = lt-ltb MOST names lt in let f : true ≡ false = sym t ∙ is in cc)
      | inr le ↦ (le, e)
    ]

    some_names : nat_eq names 0 ≡ false → 1 ≤ names
    some_names is = grind (arith, nat_tests)

    by_none : (b : Bool) → nat_eq names 0 ≡ b → cond b (Some (count_fault 0 1)) (cond (nat_lt MOST names) (Some (count_fault names MOST)) (cond (nat_lt (shortest (lengths_of attached)) (end_of end attached)) (Some (record { kind = End; given = end_of end attached; planned = shortest (lengths_of attached) })) None)) ≡ None → Allowed end names attached
    by_none true is e = absurd (cc)
    by_none false is e =
        let parts = by_most (nat_lt MOST names) refl (cond (nat_lt (shortest (lengths_of attached)) (end_of end attached)) (Some (record { kind = End; given = end_of end attached; planned = shortest (lengths_of attached) })) None) (count_fault names MOST) e in
        record { few = parts.0; some = some_names is; reaches = by_end (nat_lt (shortest (lengths_of attached)) (end_of end attached)) refl (record { kind = End; given = end_of end attached; planned = shortest (lengths_of attached) }) parts.1 }

at_most_first : (ns : List ℕ) (n : ℕ) → fold min n ns ≤ n
at_most_first [] n = omega arith
at_most_first (k ∷ ns) n = let more = at_most_first ns (min n k) in omega arith

each_reaches : (images : List Image) (n end : ℕ) → end ≤ fold min n (lengths_of images) → All (λ image. end ≤ image.sectors) images
each_reaches [] n end le = All-nil (λ (image : Image). end ≤ image.sectors)
each_reaches (image ∷ images) n end le =
    let first = at_most_first (lengths_of images) (min n image.sectors) in
    All-cons (λ (one : Image). end ≤ one.sectors) image images (omega arith) (each_reaches images (min n image.sectors) end le)

pub all_reach : (images : List Image) (end : ℕ) → end ≤ shortest (lengths_of images) → All (λ image. end ≤ image.sectors) images
all_reach [] end le = All-nil (λ (image : Image). end ≤ image.sectors)
all_reach (image ∷ images) end le =
    let first = at_most_first (lengths_of images) image.sectors in
    All-cons (λ (one : Image). end ≤ one.sectors) image images (omega arith) (each_reaches images image.sectors end le)
