-- Whether a distance is one of a rule's.
use Rattle.std.proofs.Common.{◌≡◌, ℕ, zero, suc, ◌+◌, ◌-◌, ◌*◌, ◌/◌, ◌%◌, ◌<◌, ◌≤◌, map, arith, ap, sym, refl, ◌∙◌, Bool, true, false, ◌&&◌, nat_eq, nat_lt, inl, inr, eq-eqb}
use Rattle.std.proofs.lemmas.Bool.{cases_eq, cases_lt, eqb-true}
use Rattle.std.proofs.lemmas.Bool.Decides.{nat_tests}
use Rattle.std.proofs.lemmas.Nat.{div-add-mod', div-mul-add, mod-mul-add}
use Rattle.std.specs.List.{list_any, range_with_len}
use Rattle.std.specs.Prelude.{◌==◌, nat_le}
use Rattle.landmark_rules.specs.Rules.{distances, is_fit}
use Rattle.landmark_rules.specs.declared.marks.Rule.{Rule}
use Rattle.landmark_rules.specs.declared.marks.Rule.TheVariants.{Every}
use Rattle.landmark_rules.proofs.Ranges.{or_first, or_second, or_none}

-- one of the multiples, or none
some_every : (step plus d a n k : ℕ) → a ≤ k → k < a + n → k * step + plus ≡ d → list_any (λ x. x == d) (map (λ j. j * step + plus) (range_with_len a n)) ≡ true
some_every step plus d a zero k le lt e = absurd (omega arith)
some_every step plus d a (suc n) k le lt e =
    elim (cases_eq a k) [
      | inl here ↦ or_first (a * step + plus == d) (list_any (λ x. x == d) (map (λ j. j * step + plus) (range_with_len (a + 1) n)))
          (eq-eqb (a * step + plus) d (ap (λ (x : ℕ). x * step + plus) here ∙ e))
      | inr ne ↦ or_second (a * step + plus == d) (list_any (λ x. x == d) (map (λ j. j * step + plus) (range_with_len (a + 1) n)))
          (some_every step plus d (a + 1) n k (omega arith) (omega arith) e)
    ]

no_every : (step plus d a n : ℕ) → ((k : ℕ) → a ≤ k → k < a + n → k * step + plus ≡ d → ⊥) → list_any (λ x. x == d) (map (λ j. j * step + plus) (range_with_len a n)) ≡ false
no_every step plus d a zero fails = refl
no_every step plus d a (suc n) fails =
    or_none (a * step + plus == d) (list_any (λ x. x == d) (map (λ j. j * step + plus) (range_with_len (a + 1) n)))
    (λ t. fails a (omega arith) (omega arith) (eqb-true (a * step + plus) d t))
    (no_every step plus d (a + 1) n (λ k le lt e. fails k (omega arith) (omega arith) e))

-- short of the first
pub every_short : (d step count plus : ℕ) → d < plus → false ≡ list_any (λ x. x == d) (distances (Every step count plus))
every_short d step count plus h = sym (no_every step plus d 0 count (λ k le lt e. omega arith))

-- all of them are one
pub every_still : (d step count plus beyond : ℕ) → step ≡ 0 → beyond ≡ d - plus → plus ≤ d →
    (nat_eq beyond 0 && nat_lt 0 count) ≡ list_any (λ x. x == d) (distances (Every step count plus))
every_still d step count plus beyond still e le =
    let none : (k : ℕ) → k * step ≡ 0 = λ k. ap (λ (x : ℕ). k * x) still ∙ omega arith in
    elim (cases_lt 0 count) [
      | inl some ↦ elim (cases_eq beyond 0) [
        | inl at ↦
            let hit : 0 * step + plus ≡ d = omega arith in
            let yes_here : list_any (λ x. x == d) (distances (Every step count plus)) ≡ true = some_every step plus d 0 count 0 (omega arith) (omega arith) hit in
            let lhs : (nat_eq beyond 0 && nat_lt 0 count) ≡ true = grind (arith, nat_tests) in
            lhs ∙ sym yes_here
        | inr off ↦
            let none_here : list_any (λ x. x == d) (distances (Every step count plus)) ≡ false
            = no_every step plus d 0 count (λ k le2 lt hit. let z = none k in off (omega arith)) in
            let lhs : (nat_eq beyond 0 && nat_lt 0 count) ≡ false = grind (arith, nat_tests) in
            lhs ∙ sym none_here
      ]
      | inr few ↦
          let none_here : list_any (λ x. x == d) (distances (Every step count plus)) ≡ false = no_every step plus d 0 count (λ k le2 lt hit. omega arith) in
          let lhs : (nat_eq beyond 0 && nat_lt 0 count) ≡ false = grind (arith, nat_tests) in
          lhs ∙ sym none_here
    ]

-- a multiple of the step is one of them where its number is below the count
pub every_step : (d step count plus beyond : ℕ) → 0 < step → beyond ≡ d - plus → plus ≤ d →
    (nat_eq (beyond % step) 0 && nat_lt (beyond / step) count) ≡ list_any (λ x. x == d) (distances (Every step count plus))
every_step d step count plus beyond some e le =
    let split : beyond / step * step + beyond % step ≡ beyond = div-add-mod' beyond step in
    let parts : (k : ℕ) → k * step + plus ≡ d → (beyond / step ≡ k) × (beyond % step ≡ 0) =
    λ k hit.
    let is : beyond ≡ k * step + 0 = omega arith in
    (ap (λ (x : ℕ). x / step) is ∙ div-mul-add k step 0 some, ap (λ (x : ℕ). x % step) is ∙ mod-mul-add k step 0 some) in
    elim (cases_eq (beyond % step) 0) [
      | inl whole ↦ elim (cases_lt (beyond / step) count) [
        | inl lt ↦
            let hit : beyond / step * step + plus ≡ d = omega arith in
            let yes_here : list_any (λ x. x == d) (distances (Every step count plus)) ≡ true = some_every step plus d 0 count (beyond / step) (omega arith) (omega arith) hit in
            let lhs : (nat_eq (beyond % step) 0 && nat_lt (beyond / step) count) ≡ true = grind (arith, nat_tests) in
            lhs ∙ sym yes_here
        | inr far ↦
            let none_here : list_any (λ x. x == d) (distances (Every step count plus)) ≡ false
            = no_every step plus d 0 count (λ k le2 lt hit. let z = (parts k hit).0 in omega arith) in
            let lhs : (nat_eq (beyond % step) 0 && nat_lt (beyond / step) count) ≡ false = grind (arith, nat_tests) in
            lhs ∙ sym none_here
      ]
      | inr broken ↦
          let none_here : list_any (λ x. x == d) (distances (Every step count plus)) ≡ false
          = no_every step plus d 0 count (λ k le2 lt hit. broken (parts k hit).1) in
          let lhs : (nat_eq (beyond % step) 0 && nat_lt (beyond / step) count) ≡ false = grind (arith, nat_tests) in
          lhs ∙ sym none_here
    ]

-- before the origin nothing fits
pub fit_before : (rule : Rule) (origin v : ℕ) → v < origin → is_fit rule origin v ≡ false
unfolding is_fit
fit_before rule origin v h =
    let t : nat_le origin v ≡ false = grind (arith, nat_tests) in
    ap (λ (b : Bool). b && list_any (λ d. d == v - origin) (distances rule)) t

-- from there on a distance of the rule fits
pub fit_from : (rule : Rule) (origin v distance : ℕ) → origin ≤ v → distance ≡ v - origin → is_fit rule origin v ≡ list_any (λ d. d == distance) (distances rule)
unfolding is_fit
fit_from rule origin v distance h e =
    let t : nat_le origin v ≡ true = grind (arith, nat_tests) in
    ap (λ (b : Bool). b && list_any (λ d. d == v - origin) (distances rule)) t ∙ ap (λ (x : ℕ). list_any (λ d. d == x) (distances rule)) (sym e)
