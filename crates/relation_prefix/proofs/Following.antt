-- The relations of a row by the weights of its ties.
use Rattle.std.proofs.Common.{ℕ, nat_lt, ◌≡◌, ◌≢◌, ◌<◌, ◌≤◌, true, false, cond, List, length, get_or, slice_index_or, refl, sym, ap, subst, ◌∙◌, arith, inl, inr}
use Rattle.std.proofs.lemmas.Bool.{cases_lt, cases_Bool, eq-eqb, ne_eqb, lt-ltb, le-ltb}
use Rattle.std.proofs.lemmas.List.{get_or_past}
use Rattle.gf256.specs.Field.{product}
use Rattle.gf256.proofs.Products.{product_zero, product_zero_left}
use Rattle.gf256.proofs.Powers.{commutes, product_one}
use Rattle.row_relations.specs.declared.standing.Standing.{Standing}
use Rattle.row_relations.specs.declared.standing.Standing.TheVariants.{Zero, Independent, Dependent}
use Rattle.row_relations.specs.Laws.{tied_weight, IsSumOfTies}
use Rattle.row_relations.specs.Rows.{field_sum, AreBytes}
use Rattle.row_relations.specs.Tables.{Table, standing_of, weight_of, IsTable, Stands}
use Rattle.row_relations.proofs.FieldSums.{sum_ends, sum_of_one, sum_same}
use Rattle.row_relations.proofs.Ties.{row_over, unweighed}
use Rattle.relation_prefix.specs.declared.row_ties.RowTies.{RowTies}
use Rattle.relation_prefix.specs.Systems.{sum_at, AreValues}
use Rattle.relation_prefix.specs.Ties.{coefficient, coefficients_of, dependents, is_dependent, is_zero, AreTiesOf, FollowTies, HasCoefficients, IsOwnDependent}
use Rattle.relation_prefix.proofs.Dependents.{each_dependent, in_order, sum_by_dependents}

-- the weights in a tie, of an image that is not dependent, of another dependent one and of its own
coefficient_other : (table : Table) (d i : ℕ) → d ≢ i → is_dependent (standing_of table i) ≡ false → coefficient table d i ≡ weight_of table d i
coefficient_other table d i ne off =
    ap (λ b. cond b 1 (cond (is_dependent (standing_of table i)) 0 (weight_of table d i))) (ne_eqb d i ne) ∙ ap (λ b. cond b 0 (weight_of table d i)) off

coefficient_dependent : (table : Table) (d i : ℕ) → d ≢ i → is_dependent (standing_of table i) ≡ true → coefficient table d i ≡ 0
coefficient_dependent table d i ne on =
    ap (λ b. cond b 1 (cond (is_dependent (standing_of table i)) 0 (weight_of table d i))) (ne_eqb d i ne) ∙ ap (λ b. cond b 0 (weight_of table d i)) on

coefficient_own : (table : Table) (d : ℕ) → coefficient table d d ≡ 1
coefficient_own table d = ap (λ b. cond b 1 (cond (is_dependent (standing_of table d)) 0 (weight_of table d d))) (eq-eqb d d refl)

differ : (table : Table) (n s t : ℕ) → s ≢ t → s < length (dependents table n) → t < length (dependents table n) → get_or (dependents table n) s 0 ≢ get_or (dependents table n) t 0
differ table n s t ne ls lt same = elim (cases_lt s t) [
  | inl less ↦ (let order = in_order table n s t less lt in omega arith)
  | inr more ↦ (let order = in_order table n t s (omega arith) ls in omega arith)
]

weight_off_by : (sectors : List ℕ) (table : Table) (d i : ℕ) (s : Standing) → Stands sectors table d s → is_dependent s ≡ false → weight_of table d i ≡ 0
weight_off_by sectors table d i Zero h e = unweighed table d h.1 i
weight_off_by sectors table d i Independent h e = unweighed table d h.1 i
weight_off_by sectors table d i Dependent h e = absurd (cc)

-- what is neither zeros nor dependent is independent
independent_of : (s : Standing) → is_zero s ≡ false → is_dependent s ≡ false → s ≡ Independent
independent_of Zero z d = cc
independent_of Independent z d = refl
independent_of Dependent z d = cc

not_independent : (s : Standing) → is_dependent s ≡ true → s ≢ Independent
not_independent s e i = let clash : true ≡ false = sym e ∙ ap is_dependent i in cc

dependent_not_zero : (s : Standing) → is_dependent s ≡ true → is_zero s ≡ false
dependent_not_zero Zero e = cc
dependent_not_zero Independent e = refl
dependent_not_zero Dependent e = refl

-- the sum of the coefficients of an image
sum_of_coefficients : (table : Table) (ds cs : List ℕ) (i : ℕ) (x : ℕ → ℕ) → length ds ≤ 8 → HasCoefficients table ds cs i →
    sum_at cs x ≡ field_sum (length ds) (λ t. product (coefficient table (get_or ds t 0) i) (x t))
unfolding sum_at
sum_of_coefficients table ds cs i x few h =
    sum_ends (length ds) 8 (λ t. product (get_or cs t 0) (x t)) few (λ t past. ap (λ (a : ℕ). product a (x t)) (h.past t past) ∙ product_zero_left (x t))
    ∙ sum_same (length ds) (λ t. product (get_or cs t 0) (x t)) (λ t. product (coefficient table (get_or ds t 0) i) (x t)) (λ t lt. ap (λ (a : ℕ). product a (x t)) (h.at t lt))

module _ (sectors : List ℕ) (table : Table) (n : ℕ) (is : IsTable n sectors table) (v : List ℕ) (bytes : AreBytes v) where
  weight_off : (d i : ℕ) → d < n → is_dependent (standing_of table d) ≡ false → weight_of table d i ≡ 0
  weight_off d i lt off = weight_off_by sectors table d i (standing_of table d) (is.each d lt) off

  -- what a dependent image adds to the weight of image i
  adds : ℕ → ℕ → ℕ
  adds i d = product (cond (is_dependent (standing_of table d)) (coefficient table d i) 0) (get_or v d 0)

  adds_off : (i d : ℕ) → is_dependent (standing_of table d) ≡ false → adds i d ≡ 0
  unfolding adds
  adds_off i d off = ap (λ b. product (cond b (coefficient table d i) 0) (get_or v d 0)) off ∙ product_zero_left (get_or v d 0)

  adds_on : (i d : ℕ) → is_dependent (standing_of table d) ≡ true → adds i d ≡ product (coefficient table d i) (get_or v d 0)
  unfolding adds
  adds_on i d on = ap (λ b. product (cond b (coefficient table d i) 0) (get_or v d 0)) on

  -- the ties with the weights of their dependent images, by all images
  by_images : (i : ℕ) → field_sum (length (dependents table n)) (λ t. product (coefficient table (get_or (dependents table n) t 0) i) (get_or v (get_or (dependents table n) t 0) 0)) ≡ field_sum n (adds i)
  by_images i =
      sym (sum_by_dependents table n (adds i) (λ d lt off. adds_off i d off)
      ∙ sum_same (length (dependents table n)) (λ t. adds i (get_or (dependents table n) t 0))
      (λ t. product (coefficient table (get_or (dependents table n) t 0) i) (get_or v (get_or (dependents table n) t 0) 0))
      (λ t lt. adds_on i (get_or (dependents table n) t 0) (each_dependent table n t lt).1))

  dependent_below : (d : ℕ) → is_dependent (standing_of table d) ≡ true → d < n
  dependent_below d on = elim (cases_lt d n) [
    | inl lt ↦ lt
    | inr past ↦ absurd (let none : standing_of table d ≡ Zero = get_or_past table.standings d Zero (let long = is.standings in omega arith) in let clash : true ≡ false = sym on ∙ ap is_dependent none in cc)
  ]

  at_dependent : (i : ℕ) → i < n → is_dependent (standing_of table i) ≡ true → field_sum n (adds i) ≡ get_or v i 0
  at_dependent i lt on =
      sum_of_one n i (adds i) lt (λ d ne. elim (cases_Bool (is_dependent (standing_of table d))) [
        | inl dep ↦
            adds_on i d dep ∙ ap (λ (a : ℕ). product a (get_or v d 0)) (coefficient_dependent table d i ne on)
            ∙ product_zero_left (get_or v d 0)
        | inr off ↦ adds_off i d off
      ])
      ∙ adds_on i i on ∙ ap (λ (a : ℕ). product a (get_or v i 0)) (coefficient_own table i) ∙ commutes 1 (get_or v i 0) (omega arith) (bytes i) ∙ product_one (get_or v i 0) (bytes i)

  row_fits : (d i : ℕ) → d < n → weight_of table d i < 256
  row_fits d i lt = (row_over sectors table d (standing_of table d) (is.each d lt)).bytes i

  at_independent : (i : ℕ) → is_dependent (standing_of table i) ≡ false → field_sum n (adds i) ≡ tied_weight table n v i
  at_independent i not =
      sum_same n (adds i) (λ d. product (get_or v d 0) (weight_of table d i)) (λ d lt. elim (cases_Bool (is_dependent (standing_of table d))) [
        | inl dep ↦
            adds_on i d dep
            ∙ ap (λ (a : ℕ). product a (get_or v d 0)) (coefficient_other table d i (λ e. (let clash : true ≡ false = sym dep ∙ ap (λ (k : ℕ). is_dependent (standing_of table k)) e ∙ not in cc)) not)
            ∙ commutes (weight_of table d i) (get_or v d 0) (row_fits d i lt) (bytes d)
        | inr off ↦ adds_off i d off ∙ sym (ap (product (get_or v d 0)) (weight_off d i lt off) ∙ product_zero (get_or v d 0))
      ])

  -- an image that is not zeros follows the ties, by its weight or that of the ties
  follows : (cs : List ℕ) (i : ℕ) → length (dependents table n) ≤ 8 → HasCoefficients table (dependents table n) cs i → sum_at cs (λ t. get_or v (get_or (dependents table n) t 0) 0) ≡ field_sum n (adds i)
  follows cs i few h = sum_of_coefficients table (dependents table n) cs i (λ t. get_or v (get_or (dependents table n) t 0) 0) few h ∙ by_images i

  pub gives_values : (ties : RowTies) → length (dependents table n) ≤ 8 → ((i : ℕ) → i < n → slice_index_or ties.zeros i false ≡ is_zero (standing_of table i)) →
      ((i : ℕ) → i < n → HasCoefficients table (dependents table n) (coefficients_of ties i) i) → IsSumOfTies n table v → FollowTies ties n v (λ t. get_or v (get_or (dependents table n) t 0) 0)
  gives_values ties few zeros has sum i lt some = elim (cases_Bool (is_dependent (standing_of table i))) [
    | inl on ↦ sym (follows (coefficients_of ties i) i few (has i lt) ∙ at_dependent i lt on)
    | inr off ↦ sum.independent i lt (independent_of (standing_of table i) (sym (zeros i lt) ∙ some) off) ∙ sym (follows (coefficients_of ties i) i few (has i lt) ∙ at_independent i off)
  ]

  -- the values of the ties are the weights of their dependent images
  values_are : (ties : RowTies) (x : ℕ → ℕ) → AreValues x → length (dependents table n) ≤ 8 → ((i : ℕ) → i < n → slice_index_or ties.zeros i false ≡ is_zero (standing_of table i)) →
      ((i : ℕ) → i < n → HasCoefficients table (dependents table n) (coefficients_of ties i) i) → FollowTies ties n v x → (t : ℕ) → t < length (dependents table n) →
      get_or v (get_or (dependents table n) t 0) 0 ≡ x t
  values_are ties x hx few zeros has follow t lt =
      let ds = dependents table n in
      let d = get_or ds t 0 in
      let each = each_dependent table n t lt in
      let f = λ (s : ℕ). product (cond (nat_lt s (length ds)) (coefficient table (get_or ds s 0) d) 0) (x s) in
      follow d each.0 (zeros d each.0 ∙ dependent_not_zero (standing_of table d) each.1)
      ∙ sum_of_coefficients table ds (coefficients_of ties d) d x few (has d each.0)
      ∙ sum_same (length ds) (λ s. product (coefficient table (get_or ds s 0) d) (x s)) f (λ s below. ap (λ b. product (cond b (coefficient table (get_or ds s 0) d) 0) (x s)) (sym (lt-ltb s (length ds) below)))
      ∙ sum_of_one (length ds) t f lt (λ s ne. elim (cases_lt s (length ds)) [
        | inr past ↦ ap (λ b. product (cond b (coefficient table (get_or ds s 0) d) 0) (x s)) (le-ltb s (length ds) past) ∙ product_zero_left (x s)
        | inl below ↦
            ap (λ b. product (cond b (coefficient table (get_or ds s 0) d) 0) (x s)) (lt-ltb s (length ds) below)
            ∙ ap (λ (a : ℕ). product a (x s)) (coefficient_dependent table (get_or ds s 0) d (differ table n s t ne below lt) each.1)
            ∙ product_zero_left (x s)
      ])
      ∙ ap (λ b. product (cond b (coefficient table d d) 0) (x t)) (lt-ltb t (length ds) lt) ∙ ap (λ (a : ℕ). product a (x t)) (coefficient_own table d) ∙ commutes 1 (x t) (omega arith) (hx t) ∙ product_one (x t) (hx t)

  pub takes_values : (ties : RowTies) (x : ℕ → ℕ) → AreValues x → length v ≡ n → length (dependents table n) ≤ 8 → ((i : ℕ) → i < n → slice_index_or ties.zeros i false ≡ is_zero (standing_of table i)) →
      ((i : ℕ) → i < n → HasCoefficients table (dependents table n) (coefficients_of ties i) i) → FollowTies ties n v x → IsSumOfTies n table v
  takes_values ties x hx long few zeros has follow = record {
    long = long;
    bytes = bytes;
    independent = λ i lt on.
        (let ds = dependents table n in
        let off : is_dependent (standing_of table i) ≡ false = ap is_dependent on in
        follow i lt (zeros i lt ∙ ap is_zero on)
        ∙ sum_of_coefficients table ds (coefficients_of ties i) i x few (has i lt)
        ∙ sum_same (length ds) (λ t. product (coefficient table (get_or ds t 0) i) (x t)) (λ t. product (coefficient table (get_or ds t 0) i) (get_or v (get_or ds t 0) 0))
        (λ t below. ap (product (coefficient table (get_or ds t 0) i)) (sym (values_are ties x hx few zeros has follow t below)))
        ∙ by_images i ∙ at_independent i off);
  }

-- ties that are built so are those of the table
pub built : (table : Table) (ties : RowTies) → ties.images ≡ length table.standings → length (dependents table (length table.standings)) ≤ 8 →
    ((i : ℕ) → i < length table.standings → slice_index_or ties.zeros i false ≡ is_zero (standing_of table i)) →
    ((i : ℕ) → i < length table.standings → HasCoefficients table (dependents table (length table.standings)) (coefficients_of ties i) i) → AreTiesOf table ties
built table ties e few zeros has = record {
  images = e;
  bytes = λ i lt. (has i (omega arith)).bytes;
  gives = λ sectors v is sum.
      (let here = subst (λ (n : ℕ). IsTable n sectors table) e is in
      let sums = subst (λ (n : ℕ). IsSumOfTies n table v) e sum in (
        λ t. get_or v (get_or (dependents table (length table.standings)) t 0) 0,
        λ t. sum.bytes (get_or (dependents table (length table.standings)) t 0),
        subst (λ (n : ℕ). FollowTies ties n v (λ t. get_or v (get_or (dependents table (length table.standings)) t 0) 0)) (sym e)
            (gives_values sectors table (length table.standings) here v sum.bytes ties few zeros has sums),
      ));
  takes = λ sectors v x is long bytes hx follow.
      subst (λ (n : ℕ). IsSumOfTies n table v) (sym e)
      (takes_values sectors table (length table.standings) (subst (λ (n : ℕ). IsTable n sectors table) e is) v bytes ties x hx (long ∙ e) few zeros has (subst (λ (n : ℕ). FollowTies ties n v x) e follow));
}

-- the dependent image of a tie is in no other tie
pub own_dependent : (table : Table) (ties : RowTies) → ties.images ≡ length table.standings → ((i : ℕ) → i < length table.standings → slice_index_or ties.zeros i false ≡ is_zero (standing_of table i)) →
    ((i : ℕ) → i < length table.standings → HasCoefficients table (dependents table (length table.standings)) (coefficients_of ties i) i) →
    (t : ℕ) → t < length (dependents table (length table.standings)) → IsOwnDependent ties t (get_or (dependents table (length table.standings)) t 0)
own_dependent table ties e zeros has t lt =
    let n = length table.standings in
    let ds = dependents table n in
    let d = get_or ds t 0 in
    let each = each_dependent table n t lt in
    record {
      there = (let low = each.0 in omega arith);
      some = zeros d each.0 ∙ dependent_not_zero (standing_of table d) each.1;
      own = (has d each.0).at t lt ∙ coefficient_own table d;
      others = λ u ne. elim (cases_lt u (length ds)) [
        | inl below ↦ (has d each.0).at u below ∙ coefficient_dependent table (get_or ds u 0) d (differ table n u t ne below lt) each.1
        | inr past ↦ (has d each.0).past u past
      ];
    }
