-- What is kept of the beginnings of a prefix, as the walk goes on.
use Rattle.std.proofs.Common.{ℕ, suc, ◌≡◌, ◌≤◌, ◌<◌, ◌+◌, ◌++◌, ◌∷◌, [], List, Option, length, take, slice_index_or, refl, sym, ap, ◌∙◌, subst, arith, inl, inr}
use Rattle.std.proofs.lemmas.List.{append-nil, append_assoc, take-append-le, length-append}
use Rattle.std.proofs.Math.Seq.{take-length}
use Rattle.std.proofs.lemmas.Bool.{cases_lt}
use Rattle.candidate_enum.specs.Kept.{AreKept, IsLonger, SharesBelow}

-- the first is a beginning of the second
abbrev pub Begins : List (Option ℕ) → List (Option ℕ) → Type 0
Begins p q = (rest : List (Option ℕ)) × (q ≡ p ++ rest)

pub begins_itself : (p : List (Option ℕ)) → Begins p p
begins_itself p = ([], sym (append-nil p))

-- with one place less too
pub begins_less : (p q old : List (Option ℕ)) (x : Option ℕ) → Begins old q → old ≡ p ++ x ∷ [] → Begins p q
begins_less p q old x b e = (x ∷ b.0, b.1 ∙ ap (λ (t : List (Option ℕ)). t ++ b.0) e ∙ append_assoc p (x ∷ []) b.0)

-- what goes on from a beginning that is shorter shares what is below
pub longer_shares : (p q w : List (Option ℕ)) (x : Option ℕ) (rest : List (Option ℕ)) → q ≡ p ++ x ∷ rest → IsLonger p w → SharesBelow q (length q) w
longer_shares p q w x rest e l = λ d lt.
    let n : length w ≡ length p + 1 = ap length l.1 ∙ length-append p (l.0 ∷ []) in
    let m : length q ≡ length p + length (x ∷ rest) = ap length e ∙ length-append p (x ∷ rest) in
    let at : d ≤ length p = omega arith in (
      (let k : length (x ∷ rest) ≡ suc (length rest) = refl in omega arith),
      ap (take d) l.1 ∙ take-append-le d p (l.0 ∷ []) at ∙ sym (take-append-le d p (x ∷ rest) at) ∙ ap (take d) (sym e),
    )

pub climbed : (p q old w : List (Option ℕ)) (x : Option ℕ) → Begins old q → old ≡ p ++ x ∷ [] → IsLonger p w → SharesBelow q (length q) w
climbed p q old w x b e l = longer_shares p q w x b.0 (b.1 ∙ ap (λ (t : List (Option ℕ)). t ++ b.0) e ∙ append_assoc p (x ∷ []) b.0) l

pub longer_below : (p w : List (Option ℕ)) → IsLonger p w → SharesBelow p (length p + 1) w
longer_below p w l = λ d lt.
    let n : length w ≡ length p + 1 = ap length l.1 ∙ length-append p (l.0 ∷ []) in
    let at : d ≤ length p = omega arith in
    ((omega arith), ap (take d) l.1 ∙ take-append-le d p (l.0 ∷ []) at)

-- fewer places share more
pub shares_more : (p w : List (Option ℕ)) → SharesBelow p (length p) w → SharesBelow p (length p + 1) w
shares_more p w s = λ d lt. ((let k : d < length p = (s d lt).0 in omega arith), (s d lt).1)

-- what stands for the beginnings of p stands for those of w
pub kept_below : {A : Type 0} (keeps : List (Option ℕ) → A → Type 0) (p w : List (Option ℕ)) (stack : List A) →
    AreKept keeps p stack → SharesBelow p (length p) w → AreKept keeps w stack
kept_below {A} keeps p w stack k s = record {
  first = k.first;
  parents = λ d none lt. let h = s d lt in subst (λ (t : List (Option ℕ)). keeps t (slice_index_or stack d none)) (sym h.1) (k.parents d none h.0);
}

-- the same where p itself has its place too
own_below : {A : Type 0} (keeps : List (Option ℕ) → A → Type 0) (p : List (Option ℕ)) (stack : List A) →
    AreKept keeps p stack → ((none : A) → keeps p (slice_index_or stack (length p) none)) →
    (d : ℕ) (none : A) → d < length p + 1 → keeps (take d p) (slice_index_or stack d none)
own_below {A} keeps p stack k own d none lt = elim (cases_lt d (length p)) [
  | inl less ↦ k.parents d none less
  | inr more ↦
      let e : d ≡ length p = omega arith in
      subst (λ (n : ℕ). keeps (take n p) (slice_index_or stack n none)) (sym e)
      (subst (λ (t : List (Option ℕ)). keeps t (slice_index_or stack (length p) none)) (sym (take-length p)) (own none))
]

pub kept_on : {A : Type 0} (keeps : List (Option ℕ) → A → Type 0) (p w : List (Option ℕ)) (stack : List A) →
    AreKept keeps p stack → ((none : A) → keeps p (slice_index_or stack (length p) none)) → SharesBelow p (length p + 1) w → AreKept keeps w stack
kept_on {A} keeps p w stack k own s = record {
  first = k.first;
  parents = λ d none lt. let h = s d lt in
      subst (λ (t : List (Option ℕ)). keeps t (slice_index_or stack d none)) (sym h.1) (own_below keeps p stack k own d none h.0);
}
