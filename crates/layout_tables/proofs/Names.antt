-- Names of cells and rows: each cell and each row has its own, and none has the separator that stands behind it.
use Rattle.std.proofs.Common.{◌≡◌, ◌≢◌, ◌<◌, ◌≤◌, ◌+◌, ◌-◌, ◌*◌, ◌/◌, ◌%◌, ◌⊎◌, ℕ, List, [], ◌∷◌, ◌++◌, All, length, map, decimal, inl, inr, refl, sym, ap, subst, ◌∙◌, arith}
use Rattle.std.specs.List.{join_with_byte}
use Rattle.std.proofs.lemmas.Bool.{cases_eq, cases_lt, ne_eqb}
use Rattle.std.proofs.lemmas.List.Elements.{All-nil, All-cons, All-head, All-tail, All-append}
use Rattle.std.proofs.lemmas.Fmt.{decimal_digit, decimal_step}
use Rattle.layout_tables.specs.Cells.{AreCells, IsCell, cell_name}
use Rattle.layout_tables.specs.Pieces.{IsPieceName}
use Rattle.layout_tables.specs.Spelling.{row_name}
use Rattle.layout_tables.proofs.Spelled.{same_joined}

-- ---- the names of items

-- an item below 10 has one digit, and one from 10 on two
pub one_digit : (item : ℕ) → item < 10 → decimal item ≡ (48 + item) ∷ []
one_digit item small = decimal_digit item small

pub with_tens : (item : ℕ) → 10 ≤ item → item < 24 → decimal item ≡ (48 + item / 10) ∷ (48 + item % 10) ∷ []
with_tens item large small =
    decimal_step item large (omega arith) ∙ ap (λ (front : List ℕ). front ++ (48 + item % 10) ∷ []) (decimal_digit (item / 10) (omega arith))

pub name_item : (byte : ℕ) → byte < 24 → cell_name byte ≡ decimal byte
unfolding cell_name
name_item byte small = rw (ne_eqb byte 24 (λ e. omega arith), ne_eqb byte 25 (λ e. omega arith), ne_eqb byte 26 (λ e. omega arith)) refl

name_p : (byte : ℕ) → byte ≡ 24 → cell_name byte ≡ 80 ∷ []
unfolding cell_name
name_p byte is = rw is refl

name_q : (byte : ℕ) → byte ≡ 25 → cell_name byte ≡ 81 ∷ []
unfolding cell_name
name_q byte is = rw is refl

name_spare : (byte : ℕ) → byte ≡ 26 → cell_name byte ≡ 45 ∷ []
unfolding cell_name
name_spare byte is = rw is refl

-- a cell with a name of one byte, and with one of two
pub data IsNamed : ℕ → List ℕ → Type 0 where
  digit : (byte : ℕ) (name : List ℕ) → byte < 10 → name ≡ (48 + byte) ∷ [] → IsNamed byte name
  digits : (byte : ℕ) (name : List ℕ) → 10 ≤ byte → byte < 24 → name ≡ (48 + byte / 10) ∷ (48 + byte % 10) ∷ [] → IsNamed byte name
  letter : (byte glyph : ℕ) (name : List ℕ) → ((byte ≡ 24) × (glyph ≡ 80)) ⊎ ((byte ≡ 25) × (glyph ≡ 81)) ⊎ ((byte ≡ 26) × (glyph ≡ 45)) → name ≡ glyph ∷ [] → IsNamed byte name

named : (byte : ℕ) → IsCell byte → IsNamed byte (cell_name byte)
named byte is = elim (cases_lt byte 24) [
  | inl item ↦ elim (cases_lt byte 10) [
    | inl small ↦ digit byte (cell_name byte) small (name_item byte item ∙ one_digit byte small)
    | inr large ↦ digits byte (cell_name byte) large item (name_item byte item ∙ with_tens byte large item)
  ]
  | inr other ↦ elim (cases_eq byte 24) [
    | inl p ↦ letter byte 80 (cell_name byte) (inl (p, refl)) (name_p byte p)
    | inr not_p ↦ elim (cases_eq byte 25) [
      | inl q ↦ letter byte 81 (cell_name byte) (inr (inl (q, refl))) (name_q byte q)
      | inr not_q ↦ let spare : byte ≡ 26 = omega arith in letter byte 45 (cell_name byte) (inr (inr (spare, refl))) (name_spare byte spare)
    ]
  ]
]

-- ---- reading names

one_byte : (byte cell : ℕ) (name : List ℕ) → IsNamed cell name → byte ∷ [] ≡ name → ((48 ≤ byte) × (byte ≤ 57) × (cell + 48 ≡ byte)) ⊎ ((byte ≡ 80) ⊎ (byte ≡ 81) ⊎ (byte ≡ 45))
one_byte byte _ _ (digit cell name small is) e = let same : byte ≡ 48 + cell = cc in inl (omega arith, omega arith, omega arith)
one_byte byte _ _ (digits cell name large small is) e = absurd (cc)
one_byte byte _ _ (letter cell glyph name which is) e = let same : byte ≡ glyph = cc in inr (grind arith)

two_bytes : (tens units cell : ℕ) (name : List ℕ) → IsNamed cell name → tens ∷ units ∷ [] ≡ name → (tens ≡ 48 + cell / 10) × (units ≡ 48 + cell % 10) × (10 ≤ cell) × (cell < 24)
two_bytes tens units _ _ (digit cell name small is) e = absurd (cc)
two_bytes tens units _ _ (digits cell name large small is) e = (cc, cc, large, small)
two_bytes tens units _ _ (letter cell glyph name which is) e = absurd (cc)

pub letter_p : 80 ∷ [] ≡ cell_name 24
letter_p = sym (name_p 24 refl)

pub letter_q : 81 ∷ [] ≡ cell_name 25
letter_q = sym (name_q 25 refl)

pub dash : 45 ∷ [] ≡ cell_name 26
dash = sym (name_spare 26 refl)

-- a digit is the name of an item, and two are, if the first is no zero
pub digit_is : (byte : ℕ) → 48 ≤ byte → byte ≤ 57 → byte ∷ [] ≡ cell_name (byte - 48)
digit_is byte low high =
    let same : 48 + (byte - 48) ≡ byte = omega arith in
    sym (name_item (byte - 48) (omega arith) ∙ one_digit (byte - 48) (omega arith) ∙ ap (λ (b : ℕ). b ∷ []) same)

pub digits_are : (tens units cell : ℕ) → 49 ≤ tens → tens ≤ 57 → 48 ≤ units → units ≤ 57 → cell ≡ 10 * (tens - 48) + (units - 48) → cell < 24 → tens ∷ units ∷ [] ≡ cell_name cell
digits_are tens units cell a b c d is small =
    let front : 48 + cell / 10 ≡ tens = omega arith in
    let last : 48 + cell % 10 ≡ units = omega arith in
    sym (name_item cell small ∙ with_tens cell (omega arith) small ∙ ap (λ (x : ℕ). x ∷ (48 + cell % 10) ∷ []) front ∙ ap (λ (x : ℕ). tens ∷ x ∷ []) last)

pub no_byte : (byte cell : ℕ) → byte ≢ 80 → byte ≢ 81 → byte ≢ 45 → (byte < 48) ⊎ (57 < byte) → IsCell cell → byte ∷ [] ≡ cell_name cell → ⊥
no_byte byte cell p q spare other is e = elim (one_byte byte cell (cell_name cell) (named cell is) e) [
  | inl item ↦ elim other [ inl low ↦ omega (arith, item) | inr high ↦ omega (arith, item) ]
  | inr sign ↦ grind arith
]

-- what two digits have to be
pub record AreDigits (tens units cell : ℕ) : Type 0 where
  pub least : 49 ≤ tens
  pub most : tens ≤ 57
  pub low : 48 ≤ units
  pub high : units ≤ 57
  pub small : 10 * (tens - 48) + (units - 48) < 24

pub are_digits : (tens units cell : ℕ) → IsCell cell → tens ∷ units ∷ [] ≡ cell_name cell → AreDigits tens units cell
are_digits tens units cell is e =
    let parts = two_bytes tens units cell (cell_name cell) (named cell is) e in
    let front = parts.0 in
    let last = parts.1 in
    let large = parts.2 in
    let small = parts.3 in
    record { least = omega arith; most = omega arith; low = omega arith; high = omega arith; small = omega arith }

short_name : (cell : ℕ) (name : List ℕ) → IsNamed cell name → (length name ≡ 1) ⊎ (length name ≡ 2)
short_name _ _ (digit cell name small is) = inl (ap (length {A = ℕ}) is)
short_name _ _ (digits cell name large small is) = inr (ap (length {A = ℕ}) is)
short_name _ _ (letter cell glyph name which is) = inl (ap (length {A = ℕ}) is)

-- a name has one byte or two
pub short : (cell : ℕ) → IsCell cell → (length (cell_name cell) ≡ 1) ⊎ (length (cell_name cell) ≡ 2)
short cell is = short_name cell (cell_name cell) (named cell is)

-- ---- one name for each cell

same_byte : (x y : ℕ) (name other : List ℕ) → IsNamed x name → IsNamed y other → name ≡ other → x ≡ y
same_byte _ _ _ _ (digit x name small is) (digit y other less are) e = let same : 48 + x ≡ 48 + y = cc in omega arith
same_byte _ _ _ _ (digit x name small is) (digits y other large less are) e = absurd (cc)
same_byte _ _ _ _ (digit x name small is) (letter y glyph other which are) e = let same : 48 + x ≡ glyph = cc in grind arith
same_byte _ _ _ _ (digits x name large small is) (digit y other less are) e = absurd (cc)
same_byte _ _ _ _ (digits x name large small is) (digits y other more less are) e =
    let tens : 48 + x / 10 ≡ 48 + y / 10 = cc in
    let units : 48 + x % 10 ≡ 48 + y % 10 = cc in
    omega arith
same_byte _ _ _ _ (digits x name large small is) (letter y glyph other which are) e = absurd (cc)
same_byte _ _ _ _ (letter x glyph name which is) (digit y other less are) e = let same : glyph ≡ 48 + y = cc in grind arith
same_byte _ _ _ _ (letter x glyph name which is) (digits y other more less are) e = absurd (cc)
same_byte _ _ _ _ (letter x glyph name which is) (letter y sign other what are) e = let same : glyph ≡ sign = cc in grind arith

pub one_cell : (x y : ℕ) → IsCell x → IsCell y → cell_name x ≡ cell_name y → x ≡ y
one_cell x y p q e = same_byte x y (cell_name x) (cell_name y) (named x p) (named y q) e

-- ---- no separators in names

abbrev IsOther : ℕ → ℕ → Type 0
IsOther separator byte = byte ≢ separator

one_other : (separator byte : ℕ) (name : List ℕ) → name ≡ byte ∷ [] → byte ≢ separator → All (λ b. b ≢ separator) name
one_other separator byte name is other = subst (λ (bytes : List ℕ). All (λ b. b ≢ separator) bytes) (sym is) (All-cons (IsOther separator) byte [] other (All-nil (IsOther separator)))

two_other : (separator byte next : ℕ) (name : List ℕ) → name ≡ byte ∷ next ∷ [] → byte ≢ separator → next ≢ separator → All (λ b. b ≢ separator) name
two_other separator byte next name is other more =
    subst (λ (bytes : List ℕ). All (λ b. b ≢ separator) bytes) (sym is) (All-cons (IsOther separator) byte (next ∷ []) other (All-cons (IsOther separator) next [] more (All-nil (IsOther separator))))

-- a full stop or a slash
abbrev IsStop : ℕ → Type 0
IsStop separator = (46 ≤ separator) × (separator ≤ 47)

has_no_stop : (separator byte : ℕ) (name : List ℕ) → IsStop separator → IsNamed byte name → All (λ b. b ≢ separator) name
has_no_stop separator _ _ stop (digit byte name small is) = one_other separator (48 + byte) name is (λ e. omega (arith, stop.1))
has_no_stop separator _ _ stop (digits byte name large small is) =
    two_other separator (48 + byte / 10) (48 + byte % 10) name is (λ e. omega (arith, stop.1)) (λ e. omega (arith, stop.1))
has_no_stop separator _ _ stop (letter byte glyph name which is) = let low = stop.0 in let high = stop.1 in one_other separator glyph name is (λ e. grind arith)

cell_has_none : (separator : ℕ) → IsStop separator → (byte : ℕ) → IsCell byte → All (λ b. b ≢ separator) (cell_name byte)
cell_has_none separator stop byte is = has_no_stop separator byte (cell_name byte) stop (named byte is)

pub cell_law : IsPieceName 46 cell_name IsCell
cell_law = record { one_value = one_cell; has_none = cell_has_none 46 (omega arith, omega arith) }

-- ---- rows

join_has_none : (separator stop : ℕ) → stop ≢ separator → (names : List (List ℕ)) → All (λ name. All (λ b. b ≢ separator) name) names → All (λ b. b ≢ separator) (join_with_byte stop names)
join_has_none separator stop other [] all = All-nil (IsOther separator)
join_has_none separator stop other (name ∷ []) all = All-head (λ (n : List ℕ). All (λ b. b ≢ separator) n) name [] all
join_has_none separator stop other (name ∷ next ∷ names) all =
    let Without : List ℕ → Type 0 = λ (n : List ℕ). All (λ b. b ≢ separator) n in
    All-append (IsOther separator) name (stop ∷ join_with_byte stop (next ∷ names)) (All-head Without name (next ∷ names) all)
    (All-cons (IsOther separator) stop (join_with_byte stop (next ∷ names)) other (join_has_none separator stop other (next ∷ names) (All-tail Without name (next ∷ names) all)))

names_have_none : (separator : ℕ) → IsStop separator → (row : List ℕ) → All IsCell row → All (λ name. All (λ b. b ≢ separator) name) (map cell_name row)
names_have_none separator stop [] all = All-nil (λ (n : List ℕ). All (λ b. b ≢ separator) n)
names_have_none separator stop (byte ∷ row) all =
    All-cons (λ (n : List ℕ). All (λ b. b ≢ separator) n) (cell_name byte) (map cell_name row) (cell_has_none separator stop byte (All-head IsCell byte row all)) (names_have_none separator stop row (All-tail IsCell byte row all))

pub row_law : IsPieceName 47 row_name AreCells
row_law = record {
  one_value = λ x y p q e. same_joined 46 cell_name IsCell cell_law x y p.0 q.0 p.2 q.2 e;
  has_none = λ x p. join_has_none 47 46 (λ e. omega arith) (map cell_name x) (names_have_none 47 (omega arith, omega arith) x p.2);
}
