-- What reading the lines of a value says: the value whose lines they are, or the line at which they are refused.
use Rattle.std.specs.Prelude.{ℕ, ◌≡◌, ◌≢◌, ◌+◌, List, [], ◌∷◌, ◌++◌, length, All, Bool, not, ◌==◌, Result, MatchResult}
use Rattle.std.specs.List.{list_all}
use Rattle.plan_text.specs.declared.fault.PlanFault.{PlanFault}
use Rattle.plan_text.specs.declared.fault.PlanFault.TheVariants.{Line, Memory}
use Rattle.plan_text.specs.PlanText.{IsLine}

-- where a reader stands: what is left of the text, and how many lines it has taken
pub record Cursor : Type 0 where
  pub rest : List ℕ
  pub taken : ℕ

-- bytes have no line feed, as a test
abbrev pub is_line : List ℕ → Bool
is_line bytes = list_all (λ byte. not (byte == 10)) bytes

-- lines, each ended by a line feed, and what follows
abbrev pub followed : List (List ℕ) → List ℕ → List ℕ
followed [] rest = rest
followed (line ∷ lines) rest = line ++ 10 ∷ followed lines rest

-- lines that are to come go on with one that a text does not begin with
abbrev pub IsOff : List ℕ → List (List ℕ) → Type 0
IsOff text [] = ⊥
IsOff text (line ∷ lines) = (after : List ℕ) → text ≢ line ++ 10 ∷ after

-- a text is refused after `taken` lines: they begin the lines of some value, and those of each such value go on
-- otherwise than the text
pub record IsRefusedAfter {A : Type 0} (IsValue : A → Type 0) (lines_of : A → List (List ℕ)) (text : List ℕ) (taken : ℕ) : Type 0 where
  pub lines : List (List ℕ)
  pub plain : All IsLine lines
  pub many : length lines ≡ taken
  pub rest : List ℕ
  pub text_is : text ≡ followed lines rest
  pub value : A
  pub is_value : IsValue value
  pub more : List (List ℕ)
  pub begins : lines_of value ≡ lines ++ more
  pub off : (other : A) (others : List (List ℕ)) → IsValue other → lines_of other ≡ lines ++ others → IsOff rest others

abbrev pub IsRefusal : {A : Type 0} → (A → Type 0) → (A → List (List ℕ)) → Cursor → PlanFault → Type 0
IsRefusal IsValue lines_of at (Line n) = (taken : ℕ) × (n ≡ at.taken + taken + 1) × IsRefusedAfter IsValue lines_of at.rest taken
IsRefusal IsValue lines_of at Memory = Unit {0}

-- a value was read whose lines these were
pub record IsRead {A : Type 0} (IsValue : A → Type 0) (lines_of : A → List (List ℕ)) (from to : Cursor) (value : A) : Type 0 where
  pub is_value : IsValue value
  pub plain : All IsLine (lines_of value)
  pub rest : from.rest ≡ followed (lines_of value) to.rest
  pub taken : to.taken ≡ from.taken + length (lines_of value)

-- what reading a value answers
abbrev pub Reads : {A : Type 0} → (A → Type 0) → (A → List (List ℕ)) → Cursor → Cursor → Result A PlanFault → Type 0
Reads IsValue lines_of from to answer = MatchResult answer (IsRead IsValue lines_of from to) (IsRefusal IsValue lines_of from)
