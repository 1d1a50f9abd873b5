-- Values that stand on one line.
use Rattle.std.proofs.Common.{◌≡◌, ◌≢◌, ◌+◌, ℕ, true, IsTrue, List, [], ◌∷◌, ◌++◌, not, ◌==◌, refl, sym, ap, subst, ◌∙◌, arith, Option, None, Some, MatchOption, Result}
use Rattle.std.specs.Option.{ok_or}
use Rattle.std.proofs.lemmas.Bool.{and_parts}
use Rattle.std.proofs.lemmas.Bool.Decides.{nat_tests}
use Rattle.std.proofs.lemmas.List.Elements.{All-nil, All-cons}
use Rattle.plan_text.specs.declared.fault.PlanFault.{PlanFault}
use Rattle.plan_text.specs.declared.fault.PlanFault.TheVariants.{Line}
use Rattle.plan_text.specs.PlanText.{IsLine}
use Rattle.plan_text.specs.Reading.{Cursor, IsOff, IsRefusal, IsRead, Reads, is_line}
use Rattle.value_text.proofs.Spellings.{has_separator, first_separator, IsWithout}

-- a reader took this line
abbrev pub IsAt : Cursor → Cursor → List ℕ → Type 0
IsAt from to line = IsLine line × (from.rest ≡ line ++ 10 ∷ to.rest) × (to.taken ≡ from.taken + 1)

abbrev IsNoFeed : ℕ → Type 0
IsNoFeed byte = byte ≢ 10

no_feed : (byte : ℕ) → not (byte == 10) ≡ true → byte ≢ 10
no_feed byte is same = grind (arith, nat_tests)

pub a_line : (bytes : List ℕ) → IsTrue (is_line bytes) → IsLine bytes
a_line [] is = All-nil IsNoFeed
a_line (byte ∷ bytes) is =
    let parts = and_parts (not (byte == 10)) (is_line bytes) is in
    All-cons IsNoFeed byte bytes (no_feed byte parts.0) (a_line bytes parts.1)

-- no line is left
pub no_line : {X : Type 0} (IsX : X → Type 0) (name : X → List ℕ) (x : X) → IsX x → (from : Cursor) (fault : PlanFault) → (fault ≡ Line (from.taken + 1)) × IsLine from.rest → IsRefusal IsX (λ x. name x ∷ []) from fault
no_line {X = X} IsX name x is_x from fault h =
    let none : IsRefusal IsX (λ x. name x ∷ []) from (Line (from.taken + 1)) = (
      0,
      omega arith,
      record {
        lines = [];
        plain = All-nil IsLine;
        many = refl;
        rest = from.rest;
        text_is = refl;
        value = x;
        is_value = is_x;
        more = name x ∷ [];
        begins = refl;
        off = λ y others is e. subst (IsOff from.rest) e (λ after same. has_separator 10 (name y) after (subst (IsWithout 10) same h.1));
      },
    ) in
    subst (IsRefusal IsX (λ x. name x ∷ []) from) (sym h.0) none

-- the line is none of theirs
pub off_line : {X : Type 0} (IsX : X → Type 0) (name : X → List ℕ) (x : X) → IsX x → ((y : X) → IsX y → IsLine (name y)) → (from to : Cursor) (line : List ℕ) → IsAt from to line → ((y : X) → IsX y → line ≢ name y) →
    IsRefusal IsX (λ x. name x ∷ []) from (Line to.taken)
off_line IsX name x is_x are_lines from to line at none = (
  0,
  omega (arith, at.2),
  record {
    lines = [];
    plain = All-nil IsLine;
    many = refl;
    rest = from.rest;
    text_is = refl;
    value = x;
    is_value = is_x;
    more = name x ∷ [];
    begins = refl;
    off = λ y others is e. subst (IsOff from.rest) e (λ after same. none y is (first_separator 10 line (name y) to.rest after at.0 (are_lines y is) (sym at.1 ∙ same)).0);
  },
)

pub on_line : {X : Type 0} (IsX : X → Type 0) (name : X → List ℕ) (from to : Cursor) (line : List ℕ) (x : X) → IsAt from to line → IsX x → line ≡ name x → IsRead IsX (λ x. name x ∷ []) from to x
on_line IsX name from to line x at is e = record {
  is_value = is;
  plain = All-cons IsLine (name x) [] (subst IsLine e at.0) (All-nil IsLine);
  rest = at.1 ∙ ap (λ (ds : List ℕ). ds ++ 10 ∷ to.rest) e;
  taken = at.2;
}

-- the answer of a line that was read as a value, or refused
pub line_answer : {X : Type 0} (IsX : X → Type 0) (name : X → List ℕ) (x : X) → IsX x → ((y : X) → IsX y → IsLine (name y)) → (from to : Cursor) (line : List ℕ) (r : Option X) (answer : Result X PlanFault) → IsAt from to line →
    MatchOption r ((y : X) → IsX y → line ≢ name y) (λ y. IsX y × (line ≡ name y)) → answer ≡ ok_or r (Line to.taken) → Reads IsX (λ x. name x ∷ []) from to answer
line_answer IsX name x is_x are_lines from to line None answer at h e = rw e (off_line IsX name x is_x are_lines from to line at h)
line_answer IsX name x is_x are_lines from to line (Some y) answer at h e = rw e (on_line IsX name from to line y at h.0 h.1)
