-- One word after the operands that were read.
use Rattle.std.proofs.Common.{◌≡◌, ◌≢◌, ℕ, suc, ◌≤◌, ◌<◌, ◌+◌, Bool, true, false, List, [], ◌∷◌, ◌++◌, Option, None, Some, MatchOption, length, map, take, drop, codes, get_or, sym, ap, ap₂, ◌∙◌, arith, drop-cons, length-append, length-take}
use Rattle.std.specs.Option.{is_some}
use Rattle.std.specs.Str.{bytes_eq}
use Rattle.std.proofs.lemmas.Bool.{false≢true}
use Rattle.std.proofs.lemmas.List.{length-map, map-append, take-append-drop, take_more}
use Rattle.std.proofs.lemmas.Slice.Eq.{bytes_eq-Decides}
use Rattle.command_words.specs.Operands.{AreOperands, IsOperand, operand_word, value_of}
use Rattle.command_words.specs.declared.command.Verb.{Verb}
use Rattle.command_words.specs.declared.operands.Operand.{Operand}
use Rattle.command_words.specs.declared.values.Value.{Value}
use Rattle.command_words.proofs.LineStarts.{few_operands, once_more}

-- the words are those that were read, the next one, and the others
pub next_word : (words : List (List ℕ)) (os : List Operand) (i : ℕ) (word : List ℕ) → i < length words → word ≡ get_or words i word → take i words ≡ map operand_word os → words ≡ map operand_word os ++ word ∷ drop (i + 1) words
next_word words os i word lt is read =
    let next : suc i ≡ i + 1 = omega arith in
    let rest : drop i words ≡ word ∷ drop (i + 1) words =
    drop-cons words i word lt ∙ ap₂ (λ (x : List ℕ) (k : ℕ). x ∷ drop k words) (sym is) next in
    sym (take-append-drop i words) ∙ ap₂ (λ (xs ys : List (List ℕ)). xs ++ ys) read rest

-- as many operands as words were read
pub count_read : (words : List (List ℕ)) (os : List Operand) (i : ℕ) → i ≤ length words → take i words ≡ map operand_word os → length os ≡ i
count_read words os i le read =
    let a = ap length read in
    let b = length-map os operand_word in
    let c = length-take i words in
    omega arith

-- one more
pub read_more : (words : List (List ℕ)) (os : List Operand) (i : ℕ) (word : List ℕ) (o : Operand) → i < length words → word ≡ get_or words i word → take i words ≡ map operand_word os → word ≡ operand_word o → take (i + 1) words ≡ map operand_word (os ++ o ∷ [])
read_more words os i word o lt is read spelled =
    take_more words i word lt ∙ ap₂ (λ (xs : List (List ℕ)) (x : List ℕ). xs ++ x ∷ []) read (sym is ∙ spelled) ∙ sym (map-append operand_word os (o ∷ []))

pub is_dashes : (word text : List ℕ) (r : Bool) → text ≡ word → r ≡ bytes_eq text (codes "--") → r ≡ true → word ≡ codes "--"
is_dashes word text r same test e = sym same ∙ (bytes_eq-Decides text (codes "--")).0 (sym test ∙ e)

pub no_dashes : (word text : List ℕ) (r : Bool) → text ≡ word → r ≡ bytes_eq text (codes "--") → r ≡ false → word ≢ codes "--"
no_dashes word text r same test e is =
    let holds = (bytes_eq-Decides text (codes "--")).1 (same ∙ is) in
    absurd (false≢true (sym e ∙ test ∙ holds))

pub value_given : {A : Type 0} (now : A → Value) (found : Option A) (r : Option Value) (b : Bool) → MatchOption found (r ≡ None) (λ v. r ≡ Some (now v)) → b ≡ is_some found → b ≡ true → (v : Value) × (r ≡ Some v)
value_given now None r b h test e = absurd (false≢true (sym test ∙ e))
value_given now (Some v) r b h test e = (now v, h)

pub none_given : {A : Type 0} (now : A → Value) (found : Option A) (r : Option Value) (b : Bool) → MatchOption found (r ≡ None) (λ v. r ≡ Some (now v)) → b ≡ is_some found → b ≡ false → r ≡ None
none_given now None r b h test e = h
none_given now (Some v) r b h test e = absurd (false≢true (sym e ∙ test))

pub room : (verb : Verb) (os : List Operand) (o : Operand) → AreOperands verb os → IsOperand verb o → value_of o.name os ≡ None → length os + 1 ≤ 19
room verb os o are is fresh =
    let few = few_operands verb (os ++ o ∷ []) (once_more verb os o are is fresh) in
    let long = length-append os (o ∷ []) in
    omega arith
