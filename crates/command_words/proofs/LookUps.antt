-- Values of operands by their names.
use Rattle.std.proofs.Common.{◌≡◌, ℕ, ◌≤◌, ◌<◌, ◌⊎◌, inl, inr, Bool, true, false, cond, List, [], ◌∷◌, ◌++◌, All, Option, None, Some, IfSome, map, refl, sym, ap, ◌∙◌, subst, arith}
use Rattle.std.specs.List.{list_any}
use Rattle.std.specs.Option.{option_or}
use Rattle.std.proofs.lemmas.List.Elements.{All-head, All-tail, All-weaker}
use Rattle.command_words.specs.Commands.{number_in}
use Rattle.command_words.specs.Operands.{AreFitting, IsFitting, IsOperand, IsValueOf, kind_of, same_name, value_of}
use Rattle.command_words.specs.declared.command.Verb.{Verb}
use Rattle.command_words.specs.declared.operands.Operand.{Operand}
use Rattle.command_words.specs.declared.table.Name.{Name}
use Rattle.command_words.specs.declared.table.ValueKind.TheVariants.{Number as NumberKind}
use Rattle.command_words.specs.declared.values.Value.{Value}
use Rattle.command_words.specs.declared.values.Value.TheVariants.{Number}
use Rattle.command_words.proofs.NameTexts.{same_name_decides, same_name_equiv}

-- a value is found at the first operand, or among the others
found_in : (b : Bool) (w v : Value) (rest : Option Value) → cond b (Some w) rest ≡ Some v → ((b ≡ true) × (w ≡ v)) ⊎ ((b ≡ false) × (rest ≡ Some v))
found_in true w v rest e = let same : w ≡ v = cc in inl (refl, same)
found_in false w v rest e = inr (refl, e)

-- what is found fits its name
pub fitting_value : (verb : Verb) (name : Name) (os : List Operand) (v : Value) → AreFitting verb os → value_of name os ≡ Some v → IsValueOf v (kind_of verb name)
fitting_value verb name [] v all e = cc
fitting_value verb name (o ∷ os) v all e = elim (found_in (same_name o.name name) o.value v (value_of name os) e) [
  | inl here ↦ (let same : o.name ≡ name = (same_name_decides o.name name).0 here.0 in
      subst (λ n. IsValueOf v (kind_of verb n)) same (subst (λ w. IsValueOf w (kind_of verb o.name)) here.1 (All-head (IsFitting verb) o os all)))
  | inr later ↦ fitting_value verb name os v (All-tail (IsFitting verb) o os all) later.1
]

pub operands_fit : (verb : Verb) (os : List Operand) → All (IsOperand verb) os → AreFitting verb os
operands_fit verb os all = All-weaker (IsOperand verb) (IsFitting verb) (λ o is. is.fitting) os all

number_fits : (r : Option Value) (low high : ℕ) → ((v : Value) → r ≡ Some v → IsValueOf v (NumberKind low high)) → IfSome (number_in r) (λ n. (low ≤ n) × (n ≤ high))
number_fits None low high fits = tt
number_fits (Some (Number n)) low high fits =
    let is = fits (Number n) refl in
    let same : n ≡ is.0 = let e = is.1 in cc in
    subst (λ m. (low ≤ m) × (m ≤ high)) (sym same) (is.2, is.3)
number_fits (Some _) low high fits = tt

-- a number that was given lies within the limits of its operand
pub number_within : (verb : Verb) (name : Name) (os : List Operand) (low high : ℕ) → kind_of verb name ≡ NumberKind low high → AreFitting verb os → IfSome (number_in (value_of name os)) (λ n. (low ≤ n) × (n ≤ high))
number_within verb name os low high kind all = number_fits (value_of name os) low high (λ v e. subst (λ k. IsValueOf v k) kind (fitting_value verb name os v all e))

weaker : (r : Option ℕ) (low high top : ℕ) → high < top → IfSome r (λ n. (low ≤ n) × (n ≤ high)) → IfSome r (λ n. n < top)
weaker None low high top below is = tt
weaker (Some n) low high top below is = let h = is.1 in omega arith

pub number_below : (verb : Verb) (name : Name) (os : List Operand) (low high top : ℕ) → kind_of verb name ≡ NumberKind low high → high < top → AreFitting verb os → IfSome (number_in (value_of name os)) (λ n. n < top)
number_below verb name os low high top kind below all = weaker (number_in (value_of name os)) low high top below (number_within verb name os low high kind all)

or_later : (b : Bool) (v : Value) (rest later : Option Value) → cond b (Some v) (option_or rest later) ≡ option_or (cond b (Some v) rest) later
or_later true v rest later = refl
or_later false v rest later = refl

-- among more operands a value is that of the first ones, or else of the others
pub value_append : (name : Name) (os more : List Operand) → value_of name (os ++ more) ≡ option_or (value_of name os) (value_of name more)
value_append name [] more = refl
value_append name (o ∷ os) more = ap (λ rest. cond (same_name o.name name) (Some o.value) rest) (value_append name os more) ∙ or_later (same_name o.name name) o.value (value_of name os) (value_of name more)

pub value_stays : (name : Name) (os more : List Operand) (v : Value) → value_of name os ≡ Some v → value_of name (os ++ more) ≡ Some v
value_stays name os more v e = value_append name os more ∙ ap (λ r. option_or r (value_of name more)) e

abbrev pub names_in : List Operand → List Name
names_in os = map (λ operand. operand.name) os

none_else : (b : Bool) (w : Value) (rest : Option Value) → cond b (Some w) rest ≡ None → (b ≡ false) × (rest ≡ None)
none_else true w rest e = cc
none_else false w rest e = (refl, e)

-- a name without a value is not among the names
pub none_named : (name : Name) (os : List Operand) → value_of name os ≡ None → list_any (same_name name) (names_in os) ≡ false
none_named name [] e = refl
none_named name (o ∷ os) e =
    let both = none_else (same_name o.name name) o.value (value_of name os) e in
    let here : same_name name o.name ≡ false = same_name_equiv.symm name o.name ∙ both.0 in
    let later = none_named name os both.1 in
    cc
