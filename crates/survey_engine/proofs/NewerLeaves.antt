-- The newest leaves decide where a tree block of btrfs lies, in whatever order they are read.
use Rattle.std.proofs.Common.{◌≡◌, ℕ, ◌<◌, Bool, true, false, cond, not, ◌&&◌, Option, Some, None, inl, inr, refl, sym, ap, ap₂, ◌∙◌, subst, arith}
use Rattle.std.proofs.lemmas.Bool.{cases_lt, false≢true}
use Rattle.std.proofs.lemmas.Bool.Decides.{nat_tests}
use Rattle.survey_engine.specs.Telling.{is_other, is_same_number, with_spot}
use Rattle.survey_engine.specs.declared.landmark.TreeSeen.{TreeSeen}
use Rattle.survey_engine.specs.declared.telling.Spot.{Spot}

-- what is known by one leaf alone, and where two of a generation tell of different places
abbrev by_one : ℕ → TreeSeen → Spot → TreeSeen
by_one n tree spot = record { block = tree.block; told = Some n; first = Some spot.first; second = spot.second }

abbrev unknown : TreeSeen → TreeSeen
unknown tree = record { block = tree.block; told = tree.told; first = None; second = None }

abbrev beside : TreeSeen → Spot → TreeSeen
beside tree spot = cond (is_other tree spot) (unknown tree) tree

-- a leaf is newer than what told before, of the same generation, or older
first_told : (n : ℕ) (tree : TreeSeen) (spot : Spot) → tree.told ≡ None → with_spot n tree spot ≡ by_one n tree spot
unfolding with_spot
first_told n tree spot none = rw none refl

newer : (n m : ℕ) (tree : TreeSeen) (spot : Spot) → tree.told ≡ Some m → m < n → with_spot n tree spot ≡ by_one n tree spot
unfolding with_spot
newer n m tree spot told lt = rw told (grind (arith, nat_tests))

alike : (n : ℕ) (tree : TreeSeen) (spot : Spot) → tree.told ≡ Some n → with_spot n tree spot ≡ beside tree spot
unfolding with_spot
alike n tree spot told = rw told (grind (arith, nat_tests))

older : (n m : ℕ) (tree : TreeSeen) (spot : Spot) → tree.told ≡ Some m → n < m → with_spot n tree spot ≡ tree
unfolding with_spot
older n m tree spot told lt = rw told (grind (arith, nat_tests))

-- once two tell of different places nothing is known, whatever a third of the generation tells
unknown_stays : (n : ℕ) (tree : TreeSeen) (spot : Spot) → tree.told ≡ Some n → with_spot n (unknown tree) spot ≡ unknown tree
unknown_stays n tree spot told = alike n (unknown tree) spot told

told_beside : (b : Bool) (tree : TreeSeen) → (cond b (unknown tree) tree).told ≡ tree.told
told_beside true tree = refl
told_beside false tree = refl

-- a newer leaf puts its own in the place of either
after_beside : (n m : ℕ) (b : Bool) (tree : TreeSeen) (place : Spot) → tree.told ≡ Some n → n < m → with_spot m (cond b (unknown tree) tree) place ≡ with_spot m tree place
after_beside n m true tree place told lt = newer m n (unknown tree) place told lt ∙ sym (newer m n tree place told lt)
after_beside n m false tree place told lt = refl

beside_both : (n : ℕ) (tree : TreeSeen) (spot place : Spot) (a b : Bool) → tree.told ≡ Some n → with_spot n tree spot ≡ cond a (unknown tree) tree → with_spot n tree place ≡ cond b (unknown tree) tree →
    with_spot n (cond a (unknown tree) tree) place ≡ with_spot n (cond b (unknown tree) tree) spot
beside_both n tree spot place true true told p q = unknown_stays n tree place told ∙ sym (unknown_stays n tree spot told)
beside_both n tree spot place true false told p q = unknown_stays n tree place told ∙ sym p
beside_both n tree spot place false true told p q = q ∙ sym (unknown_stays n tree spot told)
beside_both n tree spot place false false told p q = q ∙ sym p

-- ---- an older leaf beside a newer one

decides_from : (n m : ℕ) (told : Option ℕ) (tree : TreeSeen) (spot place : Spot) → n < m → tree.told ≡ told → with_spot m (with_spot n tree spot) place ≡ with_spot m tree place
decides_from n m None tree spot place lt is =
    ap (λ (t : TreeSeen). with_spot m t place) (first_told n tree spot is)
    ∙ newer m n (by_one n tree spot) place refl lt
    ∙ sym (first_told m tree place is)
decides_from n m (Some k) tree spot place lt is = elim (cases_lt n k) [
  | inl below ↦ ap (λ (t : TreeSeen). with_spot m t place) (older n k tree spot is below)
  | inr from ↦ elim (cases_lt k n) [
    | inl above ↦
        ap (λ (t : TreeSeen). with_spot m t place) (newer n k tree spot is above)
        ∙ newer m n (by_one n tree spot) place refl lt
        ∙ sym (newer m k tree place is (omega arith))
    | inr to ↦
        (let same : k ≡ n = omega arith in
        let told : tree.told ≡ Some n = is ∙ ap (λ (i : ℕ). Some i) same in
        ap (λ (t : TreeSeen). with_spot m t place) (alike n tree spot told)
        ∙ after_beside n m (is_other tree spot) tree place told lt)
  ]
]

-- a leaf that is older than what is known changes nothing
stays_from : (n m : ℕ) (told : Option ℕ) (tree : TreeSeen) (spot place : Spot) → n < m → tree.told ≡ told → with_spot n (with_spot m tree place) spot ≡ with_spot m tree place
stays_from n m None tree spot place lt is =
    let now : with_spot m tree place ≡ by_one m tree place = first_told m tree place is in
    ap (λ (t : TreeSeen). with_spot n t spot) now ∙ older n m (by_one m tree place) spot refl lt ∙ sym now
stays_from n m (Some k) tree spot place lt is = elim (cases_lt m k) [
  | inl below ↦
      (let now : with_spot m tree place ≡ tree = older m k tree place is below in
      ap (λ (t : TreeSeen). with_spot n t spot) now ∙ older n k tree spot is (omega arith) ∙ sym now)
  | inr from ↦ elim (cases_lt k m) [
    | inl above ↦
        (let now : with_spot m tree place ≡ by_one m tree place = newer m k tree place is above in
        ap (λ (t : TreeSeen). with_spot n t spot) now ∙ older n m (by_one m tree place) spot refl lt ∙ sym now)
    | inr to ↦
        (let same : k ≡ m = omega arith in
        let told : tree.told ≡ Some m = is ∙ ap (λ (i : ℕ). Some i) same in
        let now : with_spot m tree place ≡ beside tree place = alike m tree place told in
        ap (λ (t : TreeSeen). with_spot n t spot) now ∙ older n m (beside tree place) spot (told_beside (is_other tree place) tree ∙ told) lt ∙ sym now)
  ]
]

-- ---- two leaves of a generation

same_is : (a b : Option ℕ) → is_same_number a b ≡ true → a ≡ b
same_is None None t = refl
same_is None (Some b) t = absurd (cc)
same_is (Some a) None t = absurd (cc)
same_is (Some a) (Some b) t = grind (arith, nat_tests)

is_same : (a b : Option ℕ) → a ≡ b → is_same_number a b ≡ true
is_same None b e = subst (λ (o : Option ℕ). is_same_number None o ≡ true) e refl
is_same (Some a) b e = subst (λ (o : Option ℕ). is_same_number (Some a) o ≡ true) e (grind (arith, nat_tests))

both_same : (a b : Bool) → not (a && b) ≡ false → (a ≡ true) × (b ≡ true)
both_same true true e = (refl, refl)
both_same true false e = absurd (cc)
both_same false b e = absurd (cc)

-- two spots that are not other than each other are one
not_other : (n : ℕ) (tree : TreeSeen) (spot place : Spot) → is_other (by_one n tree spot) place ≡ false → by_one n tree spot ≡ by_one n tree place
not_other n tree spot place e =
    let both = both_same (is_same_number (Some spot.first) (Some place.first)) (is_same_number spot.second place.second) e in
    ap₂ (λ (first second : Option ℕ). record { block = tree.block; told = Some n; first = first; second = second })
    (same_is (Some spot.first) (Some place.first) both.0) (same_is spot.second place.second both.1)

one_other : (n : ℕ) (tree : TreeSeen) (spot : Spot) → is_other (by_one n tree spot) spot ≡ false
one_other n tree spot = rw (is_same (Some spot.first) (Some spot.first) refl, is_same spot.second spot.second refl) refl

turned : (n : ℕ) (tree : TreeSeen) (spot place : Spot) → is_other (by_one n tree spot) place ≡ false → is_other (by_one n tree place) spot ≡ false
turned n tree spot place e = ap (λ (t : TreeSeen). is_other t spot) (sym (not_other n tree spot place e)) ∙ one_other n tree spot

-- of two that tell for the first time, either may come first
two_first : (n : ℕ) (tree : TreeSeen) (spot place : Spot) (a b : Bool) → is_other (by_one n tree spot) place ≡ a → is_other (by_one n tree place) spot ≡ b →
    with_spot n (by_one n tree spot) place ≡ with_spot n (by_one n tree place) spot
two_first n tree spot place true true p q = alike n (by_one n tree spot) place refl ∙ rw (p, q) refl ∙ sym (alike n (by_one n tree place) spot refl)
two_first n tree spot place true false p q = absurd (false≢true (sym (turned n tree place spot q) ∙ p))
two_first n tree spot place false b p q =
    alike n (by_one n tree spot) place refl ∙ rw (p, turned n tree spot place p) (not_other n tree spot place p) ∙ sym (alike n (by_one n tree place) spot refl)

-- and of two beside what is known
two_beside : (n : ℕ) (tree : TreeSeen) (spot place : Spot) (a b : Bool) → tree.told ≡ Some n → is_other tree spot ≡ a → is_other tree place ≡ b →
    with_spot n (with_spot n tree spot) place ≡ with_spot n (with_spot n tree place) spot
two_beside n tree spot place a b told p q =
    let one : with_spot n tree spot ≡ cond a (unknown tree) tree = alike n tree spot told ∙ ap (λ (t : Bool). cond t (unknown tree) tree) p in
    let other : with_spot n tree place ≡ cond b (unknown tree) tree = alike n tree place told ∙ ap (λ (t : Bool). cond t (unknown tree) tree) q in
    ap (λ (t : TreeSeen). with_spot n t place) one ∙ beside_both n tree spot place a b told one other ∙ ap (λ (t : TreeSeen). with_spot n t spot) (sym other)

order_alike : (n : ℕ) (told : Option ℕ) (tree : TreeSeen) (spot place : Spot) → tree.told ≡ told → with_spot n (with_spot n tree spot) place ≡ with_spot n (with_spot n tree place) spot
order_alike n None tree spot place is =
    ap (λ (t : TreeSeen). with_spot n t place) (first_told n tree spot is)
    ∙ two_first n tree spot place _ _ refl refl
    ∙ ap (λ (t : TreeSeen). with_spot n t spot) (sym (first_told n tree place is))
order_alike n (Some k) tree spot place is = elim (cases_lt n k) [
  | inl below ↦
      (let one : with_spot n tree spot ≡ tree = older n k tree spot is below in
      let other : with_spot n tree place ≡ tree = older n k tree place is below in
      ap (λ (t : TreeSeen). with_spot n t place) one ∙ other ∙ sym one ∙ ap (λ (t : TreeSeen). with_spot n t spot) (sym other))
  | inr from ↦ elim (cases_lt k n) [
    | inl above ↦
        ap (λ (t : TreeSeen). with_spot n t place) (newer n k tree spot is above)
        ∙ two_first n tree spot place _ _ refl refl
        ∙ ap (λ (t : TreeSeen). with_spot n t spot) (sym (newer n k tree place is above))
    | inr to ↦
        (let same : k ≡ n = omega arith in
        two_beside n tree spot place _ _ (is ∙ ap (λ (i : ℕ). Some i) same) refl refl)
  ]
]

-- ---- the laws

pub newest_decides : (older newer : ℕ) (tree : TreeSeen) (spot place : Spot) → older < newer → with_spot newer (with_spot older tree spot) place ≡ with_spot newer tree place
newest_decides n m tree spot place lt = decides_from n m tree.told tree spot place lt refl

pub order_is_free : (one other : ℕ) (tree : TreeSeen) (spot place : Spot) → with_spot other (with_spot one tree spot) place ≡ with_spot one (with_spot other tree place) spot
order_is_free n m tree spot place = elim (cases_lt n m) [
  | inl lt ↦ newest_decides n m tree spot place lt ∙ sym (stays_from n m tree.told tree spot place lt refl)
  | inr ge ↦ elim (cases_lt m n) [
    | inl gt ↦ stays_from m n tree.told tree place spot gt refl ∙ sym (newest_decides m n tree place spot gt)
    | inr le ↦
        (let same : m ≡ n = omega arith in
        ap (λ (k : ℕ). with_spot k (with_spot n tree spot) place) same ∙ order_alike n tree.told tree spot place refl
        ∙ ap (λ (k : ℕ). with_spot n (with_spot k tree place) spot) (sym same))
  ]
]
