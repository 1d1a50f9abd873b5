-- The table that is computed is that of the row.
use Rattle.std.proofs.Common.{◌≡◌, ◌≢◌, ℕ, zero, suc, ◌≤◌, ◌<◌, ◌⊎◌, ◌==◌, ◌||◌, ◌&&◌, nat_lt, inl, inr, Bool, true, false, cond, List, [], ◌∷◌, ◌++◌, length, get_or, Option, None, Some, refl, sym, ap, ap₂, ◌∙◌, subst, arith, length-append, slice_index}
use Rattle.std.specs.Option.{option_map, option_or}
use Rattle.std.proofs.Math.Seq.{get_or-append_seam}
use Rattle.std.proofs.lemmas.Bool.{and_parts, cases_lt, eqb-true, false≢true}
use Rattle.std.proofs.lemmas.Bool.Decides.{nat_tests}
use Rattle.std.proofs.lemmas.List.{get_or_append_left}
use Rattle.row_relations.specs.Rows.{AreBytes, IsZeros, byte_of, weighed_byte}
use Rattle.row_relations.specs.Tables.{IsSum, IsTable, Stands, Table, WeighBefore, is_independent, no_weights, standing_of, weights_of}
use Rattle.row_relations.specs.declared.standing.Standing.{Standing}
use Rattle.row_relations.specs.declared.standing.Standing.TheVariants.{Zero, Independent, Dependent}
use Rattle.row_relations.specs.declared.standing.TheConstants.{MOST_IMAGES}
use Rattle.row_relations.proofs.Unique.{one_table}
use Rattle.relation_lines.specs.Tables.{Entry, all_below, entry_by, entry_of, is_sum, is_zeros, some_byte, some_list, table_of, with_entry}

-- a test of all numbers below n
all_says : (n : ℕ) (test : ℕ → Bool) → all_below n test ≡ true → (c : ℕ) → c < n → test c ≡ true
all_says zero test is c lt = absurd (omega arith)
all_says (suc n) test is c lt =
    let both = and_parts (all_below n test) (test n) is in
    elim (cases_lt c n) [ inl low ↦ all_says n test both.0 c low | inr ge ↦ subst (λ (k : ℕ). test k ≡ true) (omega arith) both.1 ]

all_if : (n : ℕ) (test : ℕ → Bool) → ((c : ℕ) → c < n → test c ≡ true) → all_below n test ≡ true
all_if zero test holds = refl
all_if (suc n) test holds = ap₂ (λ (a b : Bool). a && b) (all_if n test (λ c lt. holds c (omega arith))) (holds n (omega arith))

-- what is found among the bytes below n
or_cases : (r s : Option (List ℕ)) (w : List ℕ) → option_or r s ≡ Some w → (r ≡ Some w) ⊎ (s ≡ Some w)
or_cases None s w e = inr e
or_cases (Some v) s w e = inl e

byte_found : (n : ℕ) (give : ℕ → Option (List ℕ)) (w : List ℕ) → some_byte n give ≡ Some w → (b : ℕ) × (b < n) × (give b ≡ Some w)
byte_found zero give w e = cc
byte_found (suc n) give w e = elim (or_cases (some_byte n give) (give n) w e) [
  | inl early ↦ (let f = byte_found n give w early in (f.0, (let lt = f.1 in omega arith), f.2))
  | inr last ↦ (n, omega arith, last)
]

or_none : (r s : Option (List ℕ)) → option_or r s ≡ None → (r ≡ None) × (s ≡ None)
or_none None s e = (refl, e)
or_none (Some v) s e = cc

byte_none : (n : ℕ) (give : ℕ → Option (List ℕ)) → some_byte n give ≡ None → (b : ℕ) → b < n → give b ≡ None
byte_none zero give e b lt = absurd (omega arith)
byte_none (suc n) give e b lt =
    let both = or_none (some_byte n give) (give n) e in
    elim (cases_lt b n) [ inl low ↦ byte_none n give both.0 b low | inr ge ↦ subst (λ (k : ℕ). give k ≡ None) (omega arith) both.1 ]

record Found (n : ℕ) (test : List ℕ → Bool) (w : List ℕ) : Type 0 where
  long : length w ≡ n
  bytes : AreBytes w
  passes : test w ≡ true

no_bytes : AreBytes []
no_bytes i = omega arith

cons_bytes : (b : ℕ) (w : List ℕ) → b < 256 → AreBytes w → AreBytes (b ∷ w)
cons_bytes b w lt bytes zero = lt
cons_bytes b w lt bytes (suc i) = bytes i

abbrev empty_if : Bool → Option (List ℕ)
empty_if b = cond b (Some []) None

empty_found : (b : Bool) (w : List ℕ) → empty_if b ≡ Some w → (b ≡ true) × ([] ≡ w)
empty_found true w e = let same : [] ≡ w = cc in (refl, same)
empty_found false w e = cc

mapped : (b : ℕ) (r : Option (List ℕ)) (w : List ℕ) → option_map (λ bytes. b ∷ bytes) r ≡ Some w → (v : List ℕ) × (r ≡ Some v) × (b ∷ v ≡ w)
mapped b None w e = cc
mapped b (Some v) w e = let same : b ∷ v ≡ w = cc in (v, refl, same)

mapped_none : (b : ℕ) (r : Option (List ℕ)) → option_map (λ bytes. b ∷ bytes) r ≡ None → r ≡ None
mapped_none b None e = refl
mapped_none b (Some v) e = cc

list_found : (n : ℕ) (test : List ℕ → Bool) (w : List ℕ) → some_list n test ≡ Some w → Found n test w
unfolding some_list
list_found zero test w e = let f = empty_found (test []) w e in subst (Found 0 test) f.1 (record { long = refl; bytes = no_bytes; passes = f.0 })
list_found (suc n) test w e =
    let at = byte_found 256 (λ byte. option_map (λ bytes. byte ∷ bytes) (some_list n (λ bytes. test (byte ∷ bytes)))) w e in
    let v = mapped at.0 (some_list n (λ bytes. test (at.0 ∷ bytes))) w at.2 in
    let rest = list_found n (λ bytes. test (at.0 ∷ bytes)) v.0 v.1 in
    subst (Found (suc n) test) v.2 (record { long = ap suc rest.long; bytes = cons_bytes at.0 v.0 at.1 rest.bytes; passes = rest.passes })

empty_none : (b : Bool) → empty_if b ≡ None → b ≡ true → ⊥
empty_none true e is = cc
empty_none false e is = false≢true is

list_none : (n : ℕ) (test : List ℕ → Bool) → some_list n test ≡ None → (w : List ℕ) → length w ≡ n → AreBytes w → test w ≡ true → ⊥
unfolding some_list
list_none zero test e [] long bytes is = empty_none (test []) e is
list_none zero test e (b ∷ w) long bytes is = absurd (omega arith)
list_none (suc n) test e [] long bytes is = absurd (omega arith)
list_none (suc n) test e (b ∷ w) long bytes is =
    let none = byte_none 256 (λ byte. option_map (λ bytes. byte ∷ bytes) (some_list n (λ bytes. test (byte ∷ bytes)))) e b (bytes 0) in
    list_none n (λ bytes. test (b ∷ bytes)) (mapped_none b (some_list n (λ bytes. test (b ∷ bytes))) none) w (omega arith) (λ i. bytes (suc i)) is

-- the tests of the definition
equal : (a b : ℕ) → (a == b) ≡ true → a ≡ b
equal a b e = eqb-true a b e

equal_if : (a b : ℕ) → a ≡ b → (a == b) ≡ true
equal_if a b e = grind (arith, nat_tests)

zeros_say : (sectors : List ℕ) (i : ℕ) → is_zeros sectors i ≡ true → IsZeros sectors i
unfolding is_zeros
zeros_say sectors i is c lt = equal (byte_of sectors i c) 0 (all_says 512 (λ c. byte_of sectors i c == 0) is c lt)

zeros_if : (sectors : List ℕ) (i : ℕ) → IsZeros sectors i → is_zeros sectors i ≡ true
unfolding is_zeros
zeros_if sectors i zeros = all_if 512 (λ c. byte_of sectors i c == 0) (λ c lt. equal_if (byte_of sectors i c) 0 (zeros c lt))

independent : (s : Standing) → is_independent s ≡ true → s ≡ Independent
independent Zero e = absurd (false≢true e)
independent Independent e = refl
independent Dependent e = absurd (false≢true e)

either : (a b : Bool) → (a || b) ≡ true → (a ≡ true) ⊎ (b ≡ true)
either true b e = inl refl
either false b e = inr e

either_if : (a b : Bool) → ((a ≡ false) → b ≡ true) → (a || b) ≡ true
either_if true b holds = refl
either_if false b holds = holds refl

past_end : (w : List ℕ) (j : ℕ) → length w ≤ j → slice_index w j ≡ 0
past_end [] j ge = refl
past_end (b ∷ w) zero ge = absurd (omega arith)
past_end (b ∷ w) (suc j) ge = past_end w j (omega arith)

weighs : (table : Table) (i : ℕ) (w : List ℕ) → length w ≡ MOST_IMAGES → all_below MOST_IMAGES (λ j. (slice_index w j == 0) || (nat_lt j i && is_independent (standing_of table j))) ≡ true → (j : ℕ) → slice_index w j ≢ 0 → (j < i) × (standing_of table j ≡ Independent)
weighs table i w long is j some = elim (cases_lt j MOST_IMAGES) [
  | inl lt ↦ elim (either (slice_index w j == 0) (nat_lt j i && is_independent (standing_of table j)) (all_says MOST_IMAGES (λ j. (slice_index w j == 0) || (nat_lt j i && is_independent (standing_of table j))) is j lt)) [
    | inl none ↦ absurd (some (equal (slice_index w j) 0 none))
    | inr both ↦ (let parts = and_parts (nat_lt j i) (is_independent (standing_of table j)) both in
        let low = parts.0 in
        ((grind (arith, nat_tests)), independent (standing_of table j) parts.1))
  ]
  | inr ge ↦ absurd (some (past_end w j (omega (arith, long))))
]

sum_says : (sectors : List ℕ) (table : Table) (i : ℕ) (w : List ℕ) → length w ≡ MOST_IMAGES → AreBytes w → is_sum sectors table i w ≡ true → WeighBefore table i w × IsSum sectors i w
unfolding is_sum
sum_says sectors table i w long bytes is =
    let parts = and_parts (all_below MOST_IMAGES (λ j. (slice_index w j == 0) || (nat_lt j i && is_independent (standing_of table j)))) (all_below 512 (λ c. byte_of sectors i c == weighed_byte i w sectors c)) is in (
      record { long = long; bytes = bytes; before = λ j some. (weighs table i w long parts.0 j some).0; independent = λ j some. (weighs table i w long parts.0 j some).1 },
      λ c lt. equal (byte_of sectors i c) (weighed_byte i w sectors c) (all_says 512 (λ c. byte_of sectors i c == weighed_byte i w sectors c) parts.1 c lt),
    )

sum_if : (sectors : List ℕ) (table : Table) (i : ℕ) (w : List ℕ) → WeighBefore table i w → IsSum sectors i w → is_sum sectors table i w ≡ true
unfolding is_sum
sum_if sectors table i w weigh sum =
    ap₂ (λ (a b : Bool). a && b)
    (all_if MOST_IMAGES (λ j. (slice_index w j == 0) || (nat_lt j i && is_independent (standing_of table j)))
    (λ j lt. either_if (slice_index w j == 0) (nat_lt j i && is_independent (standing_of table j)) (λ other.
    let some : slice_index w j ≢ 0 = λ e. false≢true (sym other ∙ equal_if (slice_index w j) 0 e) in
    let low = weigh.before j some in
    let test : nat_lt j i ≡ true = grind (arith, nat_tests) in
    ap₂ (λ (a b : Bool). a && b) test (ap is_independent (weigh.independent j some)))))
    (all_if 512 (λ c. byte_of sectors i c == weighed_byte i w sectors c) (λ c lt. equal_if (byte_of sectors i c) (weighed_byte i w sectors c) (sum c lt)))

-- tables that agree below an image
abbrev Agrees : Table → Table → ℕ → Type 0
Agrees table other i = (j : ℕ) → j < i → standing_of other j ≡ standing_of table j

weigh_moves : (table other : Table) (i : ℕ) (w : List ℕ) → Agrees table other i → WeighBefore table i w → WeighBefore other i w
weigh_moves table other i w agrees weigh = record { long = weigh.long; bytes = weigh.bytes; before = weigh.before; independent = λ j some. agrees j (weigh.before j some) ∙ weigh.independent j some }

backward : (table other : Table) (i : ℕ) → Agrees table other i → Agrees other table i
backward table other i agrees j lt = sym (agrees j lt)

stands_moves : (sectors : List ℕ) (table other : Table) (i : ℕ) (s : Standing) → Agrees table other i → weights_of other i ≡ weights_of table i → Stands sectors table i s → Stands sectors other i s
stands_moves sectors table other i Zero agrees same stands = (stands.0, same ∙ stands.1)
stands_moves sectors table other i Independent agrees same stands = (λ w weigh sum. stands.0 w (weigh_moves other table i w (backward table other i agrees) weigh) sum, same ∙ stands.1)
stands_moves sectors table other i Dependent agrees same stands =
    (stands.0, subst (WeighBefore other i) (sym same) (weigh_moves table other i (weights_of table i) agrees stands.1), subst (IsSum sectors i) (sym same) stands.2)

zero_entry : Entry
zero_entry = record { standing = Zero; weights = no_weights }

stands_by : (sectors : List ℕ) (table other : Table) (i : ℕ) (f : Option (List ℕ)) → some_list MOST_IMAGES (is_sum sectors table i) ≡ f → (IsZeros sectors i → ⊥) → Agrees table other i → weights_of other i ≡ (entry_by f).weights → Stands sectors other i (entry_by f).standing
stands_by sectors table other i None none some agrees same =
    (λ w weigh sum. let back = weigh_moves other table i w (backward table other i agrees) weigh in list_none MOST_IMAGES (is_sum sectors table i) none w weigh.long weigh.bytes (sum_if sectors table i w back sum), same)
stands_by sectors table other i (Some w) is some agrees same =
    let found = list_found MOST_IMAGES (is_sum sectors table i) w is in
    let says = sum_says sectors table i w found.long found.bytes found.passes in
    (some, subst (WeighBefore other i) (sym same) (weigh_moves table other i w agrees says.0), subst (IsSum sectors i) (sym same) says.1)

stands_entry : (sectors : List ℕ) (table other : Table) (i : ℕ) (z : Bool) → is_zeros sectors i ≡ z → Agrees table other i →
    weights_of other i ≡ (cond z zero_entry (entry_by (some_list MOST_IMAGES (is_sum sectors table i)))).weights → Stands sectors other i (cond z zero_entry (entry_by (some_list MOST_IMAGES (is_sum sectors table i)))).standing
unfolding zero_entry
stands_entry sectors table other i true is agrees same = (zeros_say sectors i is, same)
stands_entry sectors table other i false is agrees same =
    stands_by sectors table other i (some_list MOST_IMAGES (is_sum sectors table i)) refl (λ zeros. false≢true (sym is ∙ zeros_if sectors i zeros)) agrees same

-- the entry of one image more
grows : (n : ℕ) (sectors : List ℕ) (table : Table) → IsTable n sectors table → IsTable (suc n) sectors (with_entry table (entry_of sectors table n))
unfolding zero_entry
grows n sectors table is =
    let entry = entry_of sectors table n in
    let other = with_entry table entry in
    let agrees : Agrees table other n = λ j lt. get_or_append_left table.standings (entry.standing ∷ []) Zero j (omega (arith, is.standings)) in
    let here : standing_of other n ≡ entry.standing = ap (λ (k : ℕ). get_or (table.standings ++ entry.standing ∷ []) k Zero) (sym is.standings) ∙ get_or-append_seam table.standings entry.standing [] Zero in
    let weights : weights_of other n ≡ entry.weights = ap (λ (k : ℕ). get_or (table.weights ++ entry.weights ∷ []) k []) (sym is.weights) ∙ get_or-append_seam table.weights entry.weights [] [] in
    record {
      standings = length-append table.standings (entry.standing ∷ []) ∙ (let e = is.standings in omega arith);
      weights = length-append table.weights (entry.weights ∷ []) ∙ (let e = is.weights in omega arith);
      each = λ i lt. elim (cases_lt i n) [
        | inl low ↦ (let same : weights_of other i ≡ weights_of table i = get_or_append_left table.weights (entry.weights ∷ []) [] i (omega (arith, is.weights)) in
            subst (Stands sectors other i) (sym (agrees i low)) (stands_moves sectors table other i (standing_of table i) (λ j less. agrees j (omega arith)) same (is.each i low)))
        | inr ge ↦ (let e : n ≡ i = omega arith in
            subst (λ (k : ℕ). Stands sectors other k (standing_of other k)) e
            (subst (Stands sectors other n) (sym here) (stands_entry sectors table other n (is_zeros sectors n) refl agrees weights)))
      ];
    }

pub is_table : (n : ℕ) (sectors : List ℕ) → IsTable n sectors (table_of n sectors)
unfolding table_of
is_table zero sectors = record { standings = refl; weights = refl; each = λ i lt. absurd (omega arith) }
is_table (suc n) sectors = grows n sectors (table_of n sectors) (is_table n sectors)

-- so the table of a row is this one
pub computed : (images : ℕ) (sectors : List ℕ) (table : Table) → images ≤ 64 → AreBytes sectors → IsTable images sectors table → table ≡ table_of images sectors
computed images sectors table few bytes is = one_table images sectors table (table_of images sectors) few bytes is (is_table images sectors)
