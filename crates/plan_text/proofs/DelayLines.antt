-- The line of delays, which stands in some plans alone, and the orders of Q behind it.
use Rattle.std.proofs.Common.{◌≡◌, ◌≤◌, ◌<◌, ℕ, Bool, true, false, not, ◌==◌, ◌||◌, List, [], ◌∷◌, ◌++◌, drop, take, get_or, length, refl, sym, ap, ◌∙◌, arith, append-nil}
use Rattle.std.proofs.lemmas.Bool.Decides.{nat_tests}
use Rattle.raid_params.specs.declared.types.Syndrome.{Syndrome}
use Rattle.plan_text.specs.PlanText.{delays_line, delays_lines, some_delays, syndromes_line}

abbrev Same : ℕ → ℕ → Type 0
Same m n = m ≡ n

-- without a line of them the delay is one
pub one_delay : (delays : List ℕ) → some_delays delays ≡ false → delays ≡ 1 ∷ []
one_delay [] e = absurd (let no : true ≡ false = e in let never : ⊥ = cc in never)
one_delay (delay ∷ []) e = ap (λ (d : ℕ). d ∷ []) (told delay e)
  where
    told : (d : ℕ) → not (d == 1) ≡ false → d ≡ 1
    told d e = grind (arith, nat_tests)
one_delay (delay ∷ other ∷ delays) e = absurd (let no : true ≡ false = e in let never : ⊥ = cc in never)

-- the lines of delays and of orders of Q, where there is one of delays and where there is none
abbrev pub orders_by : Bool → List ℕ → List Syndrome → List (List ℕ)
orders_by b delays syndromes = delays_lines b delays ++ syndromes_line syndromes ∷ []

-- no line of delays is one of orders of Q
pub not_alike : (delays : List ℕ) (syndromes : List Syndrome) → delays_line delays ≡ syndromes_line syndromes → ⊥
not_alike delays syndromes e = let first : Same 100 115 = ap (λ (bytes : List ℕ). get_or bytes 0 0) e in absurd (omega arith)

abbrev first_line : List (List ℕ) → List ℕ
first_line lines = get_or lines 0 []

-- both are told by the lines that begin with them
pub same_orders : (b c : Bool) (ds es : List ℕ) (ss ts : List Syndrome) (x y : List (List ℕ)) → orders_by b ds ss ++ x ≡ orders_by c es ts ++ y → (b ≡ c) × (orders_by b ds ss ≡ orders_by c es ts) × (x ≡ y)
same_orders true true ds es ss ts x y e = (refl, ap (λ (ls : List (List ℕ)). take 2 ls) e, ap (λ (ls : List (List ℕ)). drop 2 ls) e)
same_orders false false ds es ss ts x y e = (refl, ap (λ (ls : List (List ℕ)). take 1 ls) e, ap (λ (ls : List (List ℕ)). drop 1 ls) e)
same_orders true false ds es ss ts x y e = absurd (not_alike ds ts (ap first_line e))
same_orders false true ds es ss ts x y e = absurd (not_alike es ss (sym (ap first_line e)))

-- the one does not go on after the other
pub apart_orders : (b c : Bool) (ds es : List ℕ) (ss ts : List Syndrome) (m : List ℕ) (more : List (List ℕ)) → orders_by b ds ss ≡ orders_by c es ts ++ m ∷ more → ⊥
apart_orders b c ds es ss ts m more e =
    let same = same_orders b c ds es ss ts [] (m ∷ more) (append-nil (orders_by b ds ss) ∙ e) in
    let none = ap length same.2 in
    absurd (omega arith)

-- what goes on with delays goes on with orders of Q behind them
pub after_delays : (b : Bool) (ds es : List ℕ) (ss : List Syndrome) (tail : List (List ℕ)) → orders_by b ds ss ≡ delays_line es ∷ tail → (b ≡ true) × (tail ≡ syndromes_line ss ∷ [])
after_delays true ds es ss tail e = (refl, sym (ap (λ (ls : List (List ℕ)). drop 1 ls) e))
after_delays false ds es ss tail e = absurd (not_alike es ss (sym (ap first_line e)))

-- a plan that says no more has no other delays than one
pub once_of : (delayed bounded third : Bool) → (delayed || bounded) ≡ third → third ≡ false → delayed ≡ false
once_of false bounded third e is = refl
once_of true bounded third e is = e ∙ is
