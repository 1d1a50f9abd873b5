-- A line that is refused in a part is refused in the whole.
use Rattle.std.proofs.Common.{◌≡◌, ◌+◌, ℕ, List, [], ◌∷◌, ◌++◌, All, length, refl, sym, ap, subst, ◌∙◌, arith, append_assoc, length-append, ◌⊎◌, inl, inr}
use Rattle.std.proofs.lemmas.List.Elements.{All-nil, All-append}
use Rattle.plan_text.specs.declared.fault.PlanFault.{PlanFault}
use Rattle.plan_text.specs.declared.fault.PlanFault.TheVariants.{Line, Memory}
use Rattle.plan_text.specs.PlanText.{IsLine}
use Rattle.plan_text.specs.Reading.{Cursor, followed, IsOff, IsRefusedAfter, IsRefusal, IsRead}

pub followed-append : (xs ys : List (List ℕ)) (rest : List ℕ) → followed (xs ++ ys) rest ≡ followed xs (followed ys rest)
followed-append [] ys rest = refl
followed-append (x ∷ xs) ys rest = ap (λ (ds : List ℕ). x ++ 10 ∷ ds) (followed-append xs ys rest)

-- a reader went over these lines
pub record Went (from to : Cursor) (lines : List (List ℕ)) : Type 0 where
  pub plain : All IsLine lines
  pub rest : from.rest ≡ followed lines to.rest
  pub taken : to.taken ≡ from.taken + length lines

pub went : {A : Type 0} {IsValue : A → Type 0} {lines_of : A → List (List ℕ)} {from to : Cursor} {value : A} → IsRead IsValue lines_of from to value → Went from to (lines_of value)
went read = record { plain = read.plain; rest = read.rest; taken = read.taken }

pub nowhere : (at : Cursor) → Went at at []
nowhere at = record { plain = All-nil IsLine; rest = refl; taken = omega arith }

pub went_on : {from mid to : Cursor} {xs ys : List (List ℕ)} → Went from mid xs → Went mid to ys → Went from to (xs ++ ys)
went_on {from = from} {mid = mid} {to = to} {xs = xs} {ys = ys} p q = record {
  plain = All-append IsLine xs ys p.plain q.plain;
  rest = p.rest ∙ ap (λ (ds : List ℕ). followed xs ds) q.rest ∙ sym (followed-append xs ys to.rest);
  taken = omega (arith, p.taken, q.taken, length-append xs ys);
}

pub is_read : {A : Type 0} (IsValue : A → Type 0) (lines_of : A → List (List ℕ)) {from to : Cursor} (value : A) → IsValue value → Went from to (lines_of value) → IsRead IsValue lines_of from to value
is_read IsValue lines_of value is w = record { is_value = is; plain = w.plain; rest = w.rest; taken = w.taken }

-- lists that go on to one list: one of them begins the other
abbrev Splits : {A : Type 0} → List A → List A → List A → List A → Type 0
Splits {A = A} xs ys s t = ((more : List A) × (s ≡ xs ++ more) × (ys ≡ more ++ t)) ⊎ ((m : A) × (more : List A) × (xs ≡ s ++ m ∷ more) × (t ≡ (m ∷ more) ++ ys))

split : {A : Type 0} (xs ys s t : List A) → xs ++ ys ≡ s ++ t → Splits xs ys s t
split [] ys s t e = inl (s, refl, e)
split (x ∷ xs) ys [] t e = inr (x, xs, refl, sym e)
split (x ∷ xs) ys (y ∷ s) t e =
    let head : x ≡ y = cc in
    let tail : xs ++ ys ≡ s ++ t = cc in
    elim (split xs ys s t tail) [
      | inl h ↦ (let is : s ≡ xs ++ h.0 = h.1 in inl (h.0, cc, h.2))
      | inr h ↦ (let is : xs ≡ s ++ h.0 ∷ h.1 = h.2 in inr (h.0, h.1, cc, h.3))
    ]

off_longer : (text : List ℕ) (xs ys : List (List ℕ)) → IsOff text xs → IsOff text (xs ++ ys)
off_longer text [] ys off = absurd off
off_longer text (x ∷ xs) ys off = off

-- what of a whole begins a part: each value of the part stands in some whole after these lines, and each whole that
-- begins with them goes on with a value of the part. No value's lines begin another's and are fewer
pub record StandsIn {X W : Type 0} (IsX : X → Type 0) (lines_X : X → List (List ℕ)) (IsW : W → Type 0) (lines_W : W → List (List ℕ)) (lines : List (List ℕ)) : Type 0 where
  pub made : (x : X) → IsX x → (w : W) × (r : List (List ℕ)) × IsW w × (lines_W w ≡ lines ++ (lines_X x ++ r))
  pub shape : (w : W) (tail : List (List ℕ)) → IsW w → lines_W w ≡ lines ++ tail → (x : X) × (r : List (List ℕ)) × IsX x × (tail ≡ lines_X x ++ r)
  pub apart : (x y : X) (m : List ℕ) (more : List (List ℕ)) → IsX x → IsX y → lines_X x ≡ lines_X y ++ m ∷ more → ⊥

pub lifted : {X W : Type 0} (IsX : X → Type 0) (lines_X : X → List (List ℕ)) (IsW : W → Type 0) (lines_W : W → List (List ℕ)) (lines : List (List ℕ)) (text rest : List ℕ) (taken : ℕ) →
    StandsIn IsX lines_X IsW lines_W lines → All IsLine lines → text ≡ followed lines rest → IsRefusedAfter IsX lines_X rest taken → IsRefusedAfter IsW lines_W text (length lines + taken)
lifted {X = X} {W = W} IsX lines_X IsW lines_W lines text rest taken stands plain is r =
    let made = stands.made r.value r.is_value in record {
      lines = lines ++ r.lines;
      plain = All-append IsLine lines r.lines plain r.plain;
      many = omega (arith, length-append lines r.lines, r.many);
      rest = r.rest;
      text_is = is ∙ ap (λ (ds : List ℕ). followed lines ds) r.text_is ∙ sym (followed-append lines r.lines r.rest);
      value = made.0;
      is_value = made.2;
      more = r.more ++ made.1;
      begins = made.3 ∙ ap (λ (ls : List (List ℕ)). lines ++ (ls ++ made.1)) r.begins ∙ ap (λ (ls : List (List ℕ)). lines ++ ls) (append_assoc r.lines r.more made.1) ∙ sym (append_assoc lines r.lines (r.more ++ made.1));
      off = λ w tail is_w e.
          let at = stands.shape w (r.lines ++ tail) is_w (e ∙ append_assoc lines r.lines tail) in
          elim (split r.lines tail (lines_X at.0) at.1 at.3) [
            | inl h ↦ subst (IsOff r.rest) (sym h.2) (off_longer r.rest h.0 at.1 (r.off at.0 h.0 at.2 h.1))
            | inr h ↦ absurd (stands.apart r.value at.0 h.0 (h.1 ++ r.more) r.is_value at.2 (r.begins ∙ ap (λ (ls : List (List ℕ)). ls ++ r.more) h.2 ∙ append_assoc (lines_X at.0) (h.0 ∷ h.1) r.more))
          ];
    }

-- the same of the answer of a reader
pub refused : {X W : Type 0} (IsX : X → Type 0) (lines_X : X → List (List ℕ)) (IsW : W → Type 0) (lines_W : W → List (List ℕ)) (lines : List (List ℕ)) (from at : Cursor) (fault : PlanFault) →
    StandsIn IsX lines_X IsW lines_W lines → Went from at lines → IsRefusal IsX lines_X at fault → IsRefusal IsW lines_W from fault
refused IsX lines_X IsW lines_W lines from at (Line n) stands w h =
    (length lines + h.0, omega (arith, h.1, w.taken), lifted IsX lines_X IsW lines_W lines from.rest at.rest h.0 stands w.plain w.rest h.2)
refused IsX lines_X IsW lines_W lines from at Memory stands w h = tt

-- a value of one line
pub one_line : {X : Type 0} (name : X → List ℕ) (x y : X) (m : List ℕ) (more : List (List ℕ)) → name x ∷ [] ≡ (name y ∷ []) ++ m ∷ more → ⊥
one_line name x y m more e = let same = ap length e in absurd (omega arith)
