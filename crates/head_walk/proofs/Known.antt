-- Sets that are known to pass before any other.
use Rattle.std.proofs.Common.{ℕ, zero, suc, ◌≡◌, ◌<◌, ◌≤◌, ◌+◌, Bool, true, false, ◌||◌, ◌==◌, cond, List, [], ◌∷◌, ◌++◌, length, map, get_or, refl, ap, ap₂, ◌∙◌, arith, inl, inr}
use Rattle.std.proofs.lemmas.Bool.{cases_Bool, cases_lt, eq-eqb, eqb-true}
use Rattle.raid_params.specs.declared.types.Geometry.{Geometry}
use Rattle.search_plan.specs.declared.plan.Plan.{Plan}
use Rattle.parity_scan.specs.Tallies.{is_open, NoneOpen}
use Rattle.parity_scan.specs.declared.tally.Tally.{Tally}
use Rattle.parity_scan.specs.declared.tally.Tally.TheVariants.{Left, Passes}
use Rattle.head_walk.specs.Counts.{is_decided}
use Rattle.head_walk.specs.Walk.{first_tally, known_first}

-- how many, where the first is known or not
counts : (plan : Plan) (geo : Geometry) (sets : List Geometry) (b : Bool) → is_decided plan geo ≡ b → known_first plan (geo ∷ sets) ≡ cond b (1 + known_first plan sets) 0
unfolding known_first
counts plan geo sets b is = ap (λ (x : Bool). cond x (1 + known_first plan sets) 0) is

-- no more are known than there are
pub known_most : (plan : Plan) (sets : List Geometry) → known_first plan sets ≤ length sets
unfolding known_first
known_most plan [] = omega arith
known_most plan (geo ∷ sets) = elim (cases_Bool (is_decided plan geo)) [
  | inl t ↦ (let here = counts plan geo sets true t in let rest = known_most plan sets in omega arith)
  | inr f ↦ (let here = counts plan geo sets false f in omega arith)
]

-- the first of the others has rows to be tested
pub known_open : (plan : Plan) (sets : List Geometry) (e : Geometry) → known_first plan sets < length sets → is_decided plan (get_or sets (known_first plan sets) e) ≡ false
known_open plan [] e less = absurd (omega arith)
known_open plan (geo ∷ sets) e less = elim (cases_Bool (is_decided plan geo)) [
  | inl t ↦ (let here : known_first plan (geo ∷ sets) ≡ suc (known_first plan sets) = counts plan geo sets true t ∙ (let f : 1 + known_first plan sets ≡ suc (known_first plan sets) = omega arith in f) in
      ap (λ (k : ℕ). is_decided plan (get_or (geo ∷ sets) k e)) here ∙ known_open plan sets e (omega arith))
  | inr f ↦ ap (λ (k : ℕ). is_decided plan (get_or (geo ∷ sets) k e)) (counts plan geo sets false f) ∙ f
]

-- each of them is known
pub known_each : (plan : Plan) (sets : List Geometry) (i : ℕ) (e : Geometry) → i < known_first plan sets → is_decided plan (get_or sets i e) ≡ true
unfolding known_first
known_each plan [] i e less = absurd (omega arith)
known_each plan (geo ∷ sets) i e less = elim (cases_Bool (is_decided plan geo)) [
  | inl t ↦ by i less t (counts plan geo sets true t) (λ k low. known_each plan sets k e low)
  | inr f ↦ absurd (let here = counts plan geo sets false f in omega arith)
]
  where
    by : (k : ℕ) → k < known_first plan (geo ∷ sets) → is_decided plan geo ≡ true → known_first plan (geo ∷ sets) ≡ 1 + known_first plan sets → ((j : ℕ) → j < known_first plan sets → is_decided plan (get_or sets j e) ≡ true) → is_decided plan (get_or (geo ∷ sets) k e) ≡ true
    by zero low t here rest = t
    by (suc k) low t here rest = rest k (omega arith)

-- the test of a set that is known is closed
closed_first : (plan : Plan) (geo : Geometry) → is_decided plan geo ≡ true → is_open (first_tally plan geo) ≡ false
closed_first plan geo t = ap (λ (b : Bool). is_open (cond b Passes (Left plan.limits.badrows))) t

-- it begins as passed
pub first_passes : (plan : Plan) (geo : Geometry) → is_decided plan geo ≡ true → first_tally plan geo ≡ Passes
first_passes plan geo t = ap (λ (b : Bool). cond b Passes (Left plan.limits.badrows)) t

-- and that of any other set is open
pub first_left : (plan : Plan) (geo : Geometry) → is_decided plan geo ≡ false → first_tally plan geo ≡ Left plan.limits.badrows
first_left plan geo f = ap (λ (b : Bool). cond b Passes (Left plan.limits.badrows)) f

-- where all are, no row has to be tested
pub known_all : (plan : Plan) (sets : List Geometry) → known_first plan sets ≡ length sets → NoneOpen (map (first_tally plan) sets)
unfolding known_first
known_all plan [] all = refl
known_all plan (geo ∷ sets) all = elim (cases_Bool (is_decided plan geo)) [
  | inl t ↦ (let here = counts plan geo sets true t in ap₂ (λ (a b : Bool). a || b) (closed_first plan geo t) (known_all plan sets (omega arith)))
  | inr f ↦ absurd (let here = counts plan geo sets false f in omega arith)
]

-- one more set after another that has rows to be tested
pub known_stays : (plan : Plan) (sets : List Geometry) (geo : Geometry) → known_first plan sets < length sets → known_first plan (sets ++ geo ∷ []) ≡ known_first plan sets
known_stays plan [] geo less = absurd (omega arith)
known_stays plan (one ∷ sets) geo less = elim (cases_Bool (is_decided plan one)) [
  | inl t ↦ (let here = counts plan one sets true t in let there = counts plan one (sets ++ geo ∷ []) true t in let rest = known_stays plan sets geo (omega arith) in omega arith)
  | inr f ↦ (let here = counts plan one sets false f in let there = counts plan one (sets ++ geo ∷ []) false f in omega arith)
]

-- and where all were known
pub known_last : (plan : Plan) (sets : List Geometry) (geo : Geometry) (b : Bool) → is_decided plan geo ≡ b → known_first plan sets ≡ length sets → known_first plan (sets ++ geo ∷ []) ≡ known_first plan sets + cond b 1 0
unfolding known_first
known_last plan [] geo true is all = let here = counts plan geo [] true is in omega arith
known_last plan [] geo false is all = let here = counts plan geo [] false is in omega arith
known_last plan (one ∷ sets) geo b is all = elim (cases_Bool (is_decided plan one)) [
  | inl t ↦ (let here = counts plan one sets true t in let there = counts plan one (sets ++ geo ∷ []) true t in let rest = known_last plan sets geo b is (omega arith) in omega arith)
  | inr f ↦ absurd (let here = counts plan one sets false f in omega arith)
]

-- a smaller number is another
less_eqb : (a b : ℕ) → a < b → (a == b) ≡ false
less_eqb a b less = elim (cases_Bool (a == b)) [
  | inl t ↦ absurd (let same = eqb-true a b t in omega arith)
  | inr f ↦ f
]

-- the number with one more set
pub known_pushed : (plan : Plan) (sets : List Geometry) (geo : Geometry) (known count result : ℕ) (tally : Tally) → known ≡ known_first plan sets → count ≡ length sets → tally ≡ first_tally plan geo →
    result ≡ cond (known == count) (cond (is_open tally) known (known + 1)) known → result ≡ known_first plan (sets ++ geo ∷ [])
known_pushed plan sets geo known count result tally known_is count_is tally_is is = elim (cases_lt known count) [
  | inl less ↦ (let stays = known_stays plan sets geo (omega arith) in
      let here : result ≡ known = is ∙ ap (λ (b : Bool). cond b (cond (is_open tally) known (known + 1)) known) (less_eqb known count less) in
      omega arith)
  | inr more ↦ (let most = known_most plan sets in
      let all : known ≡ count = omega arith in
      let here : result ≡ cond (is_open tally) known (known + 1) = is ∙ ap (λ (b : Bool). cond b (cond (is_open tally) known (known + 1)) known) (eq-eqb known count all) in
      elim (cases_Bool (is_decided plan geo)) [
        | inl t ↦ (let last = known_last plan sets geo true t (omega arith) in
            let now : result ≡ known + 1 = here ∙ ap (λ (b : Bool). cond b known (known + 1)) (ap is_open tally_is ∙ closed_first plan geo t) in
            omega arith)
        | inr f ↦ (let last = known_last plan sets geo false f (omega arith) in
            let now : result ≡ known = here ∙ ap (λ (b : Bool). cond b known (known + 1)) (ap is_open (tally_is ∙ first_left plan geo f)) in
            omega arith)
      ])
]
