-- A list of words has one reading.
use Rattle.std.proofs.Common.{◌≡◌, Bool, true, false, ℕ, zero, suc, ◌+◌, ◌-◌, ◌≤◌, ◌<◌, inl, inr, List, [], ◌∷◌, ◌++◌, length, map, take, drop, Some, Result, Ok, Err, refl, sym, ap, ◌∙◌, subst, arith, codes}
use Rattle.std.specs.Str.{bytes_eq}
use Rattle.std.proofs.lemmas.Bool.{cases_lt, false≢true}
use Rattle.std.proofs.lemmas.List.{take-append-drop}
use Rattle.command_words.specs.declared.command.Command.{Command}
use Rattle.command_words.specs.declared.command.Command.TheVariants.{Help, Version}
use Rattle.command_words.specs.declared.operands.Operand.{Operand}
use Rattle.command_words.specs.Commands.{AsksHelp, BeginsLine, HasOperands, IsCommandLine, IsRefusedWord, Reads, SaysAlone, command_of, verb_word}
use Rattle.command_words.specs.Operands.{operand_word}
use Rattle.command_words.proofs.LineStarts.{after_verb, dashes_differ, meets, not_alone}
use Rattle.command_words.proofs.Refusals.{fewer}

-- a command with operands says one command
one_with_operands : (words : List (List ℕ)) (a b : Command) → HasOperands words a → IsCommandLine words b → a ≡ b
one_with_operands words a b one other =
    let after = after_verb one.verb (map operand_word one.operands ++ codes "--" ∷ one.names) b (subst (λ ws. IsCommandLine ws b) one.spelled other) in
    elim (meets one.verb one.operands (codes "--") one.names after.operands after.names one.are.each after.are.each after.spelled) [
      | inl same ↦ (let says : command_of one.verb one.operands (length one.operands + 2) ≡ Some b = ap (λ (xs : List Operand). command_of one.verb xs (length xs + 2)) (sym same.0) ∙ after.says in
          let both : Some a ≡ Some b = sym one.says ∙ says in cc)
      | inr more ↦ absurd (dashes_differ more.0 (sym more.3))
    ]

-- no word asks for help and for the version
is_version : List ℕ → Bool
is_version word = bytes_eq word (codes "--version")

no_version : (word : List ℕ) → AsksHelp word → is_version word ≡ false
unfolding is_version
no_version word asks = elim asks [ inl e ↦ ap is_version e | inr short ↦ elim short [ inl e ↦ ap is_version e | inr e ↦ ap is_version e ] ]

help_no_version : (word : List ℕ) → AsksHelp word → word ≡ codes "--version" → ⊥
unfolding is_version
help_no_version word asks e = let test : is_version word ≡ true = ap is_version e in false≢true (sym (no_version word asks) ∙ test)

-- a word alone says one command
one_alone : (word : List ℕ) (a b : Command) → SaysAlone word a → SaysAlone word b → a ≡ b
one_alone word Help Help p q = refl
one_alone word Version Version p q = refl
one_alone word Help Version p q = absurd (help_no_version word p q)
one_alone word Version Help p q = absurd (help_no_version word q p)
one_alone word Help _ p q = absurd q
one_alone word Version _ p q = absurd q
one_alone word _ b p q = absurd p

alone_first : (words : List (List ℕ)) (word : List ℕ) (a b : Command) → words ≡ word ∷ [] → SaysAlone word a → IsCommandLine words b → a ≡ b
alone_first words word a b e p other = elim other [
  | inl has ↦ (let is = has.spelled in
      let same : word ≡ verb_word has.verb = cc in
      absurd (not_alone has.verb a (subst (λ (w : List ℕ). SaysAlone w a) same p)))
  | inr lone ↦ (let is = lone.1 in
      let same : lone.0 ≡ word = cc in
      one_alone word a b p (subst (λ (w : List ℕ). SaysAlone w b) same lone.2))
]

-- a command line says one command
one_command : (words : List (List ℕ)) (a b : Command) → IsCommandLine words a → IsCommandLine words b → a ≡ b
one_command words a b one other = elim one [
  | inl has ↦ one_with_operands words a b has other
  | inr alone ↦ alone_first words alone.0 a b alone.1 alone.2 other
]

take_within : (m n : ℕ) (words : List (List ℕ)) → m ≤ n → take m (take n words) ≡ take m words
take_within zero n words le = refl
take_within (suc m) zero words le = absurd (omega arith)
take_within (suc m) (suc n) [] le = refl
take_within (suc m) (suc n) (word ∷ words) le = ap (λ (ws : List (List ℕ)). word ∷ ws) (take_within m n words (omega arith))

-- no word is refused after a refused one
not_later : (words : List (List ℕ)) (m n : ℕ) → IsRefusedWord words m → IsRefusedWord words n → m < n → ⊥
not_later words m n one other lt =
    let within : m ≤ length words = let top = other.counted.1 in omega arith in
    let le : m ≤ n - 1 = omega arith in
    let front : take (n - 1) words ≡ take m words ++ drop m (take (n - 1) words) =
    sym (take-append-drop m (take (n - 1) words)) ∙ ap (λ (ws : List (List ℕ)). ws ++ drop m (take (n - 1) words)) (take_within m (n - 1) words le) in
    one.stops within (fewer (take m words) (drop m (take (n - 1) words)) (subst BeginsLine front other.begins))

-- so is the refused word one alone
one_word : (words : List (List ℕ)) (m n : ℕ) → IsRefusedWord words m → IsRefusedWord words n → m ≡ n
one_word words m n one other = elim (cases_lt m n) [ inl lt ↦ absurd (not_later words m n one other lt) | inr ge ↦ elim (cases_lt n m) [ inl lt ↦ absurd (not_later words n m other one lt) | inr le ↦ omega arith ] ]

pub one_reading : (words : List (List ℕ)) (one other : Result Command ℕ) → Reads words one → Reads words other → one ≡ other
one_reading words (Ok a) (Ok b) p q = ap (λ (c : Command). Ok c) (one_command words a b p q)
one_reading words (Ok a) (Err n) p q = absurd (q.none a p)
one_reading words (Err m) (Ok b) p q = absurd (p.none b q)
one_reading words (Err m) (Err n) p q = ap (λ (k : ℕ). Err k) (one_word words m n p q)
