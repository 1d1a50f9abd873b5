-- Which word is refused, and why.
use Rattle.std.proofs.Common.{◌≡◌, ◌≢◌, ℕ, suc, ◌^◌, ◌≤◌, ◌+◌, ◌-◌, ◌*◌, ◌==◌, inl, inr, Bool, true, false, cond, nat_le, nat_eq, nat_lt, ◌&&◌, List, [], ◌∷◌, ◌++◌, All, Option, None, Some, length, map, take, codes, refl, sym, ap, ap₂, ◌∙◌, subst, arith, append_assoc, append-nil, length-append}
use Rattle.std.specs.List.{IsDistinct, list_all}
use Rattle.std.specs.Option.{option_or, unwrap_or}
use Rattle.std.specs.Set.{is_member}
use Rattle.std.proofs.Math.Seq.{take-append_seam, take-length}
use Rattle.std.proofs.lemmas.Bool.{false≢true}
use Rattle.std.proofs.lemmas.List.{length-map}
use Rattle.std.proofs.lemmas.List.Elements.{All-head, All-tail}
use Rattle.std.proofs.lemmas.Map.Made.{is_member-Decides}
use Rattle.command_words.specs.Commands.{BeginsLine, HasOperands, IsAlone, IsCommandLine, IsRefusedWord, SaysAlone, can_move, command_of, each_or, form_or, number_in, number_or, offsets_or, survey_of, takes_names, verb_word}
use Rattle.command_words.specs.Steps.{can_go_on, lines_fit}
use Rattle.command_words.specs.Operands.{AreOperands, IsOperand, operand_word, operands_of, same_name, value_of}
use Rattle.command_words.specs.declared.command.Command.{Command}
use Rattle.command_words.specs.declared.command.Command.TheVariants.{Survey as SurveyCommand, List as ListCommand}
use Rattle.command_words.specs.declared.command.Verb.{Verb}
use Rattle.command_words.specs.declared.command.Verb.TheVariants.{Survey, List as ListVerb, Check, Map, Write, Rebuild, Sample, Classes, Mirrors, MirrorWrite, Salvage, Relations}
use Rattle.command_words.specs.declared.operands.Operand.{Operand}
use Rattle.command_words.specs.declared.table.Name.{Name}
use Rattle.command_words.specs.declared.table.Name.TheVariants.{Foreign as ForeignName, Form as FormName, Mode as ModeName, Offsets as OffsetsName, From as FromName, Size as SizeName, Span as SpanName, Pages as PagesName}
use Rattle.command_words.specs.declared.values.Value.{Value}
use Rattle.command_words.proofs.Completions.{begins}
use Rattle.command_words.proofs.LineStarts.{IsLineOf, after_operands, after_verb, dashes_differ, fresh_name, meets, no_end, none_alone, not_alone}
use Rattle.command_words.proofs.LookUps.{names_in, value_append}
use Rattle.command_words.proofs.NameTexts.{same_name_decides}
use Rattle.command_words.proofs.Spelled.{one_operand}

-- no command with what belongs to it begins with these words
abbrev pub BeginNone : List (List ℕ) → Type 0
BeginNone words = (rest : List (List ℕ)) (command : Command) → HasOperands (words ++ rest) command → ⊥

-- they ask for nothing alone
abbrev pub AskNone : List (List ℕ) → Type 0
AskNone words = (command : Command) → IsAlone words command → ⊥

-- the word after a prefix that begins some line, where the two begin none
pub refused_at : (words front : List (List ℕ)) (word : List ℕ) (rest : List (List ℕ)) (n : ℕ) → words ≡ front ++ word ∷ rest → n ≡ length front + 1 → BeginsLine front → BeginNone (front ++ word ∷ []) → AskNone words → IsRefusedWord words n
refused_at words front word rest n at count some none lone =
    let long : length words ≡ length front + suc (length rest) = ap length at ∙ length-append front (word ∷ rest) in
    let seam : words ≡ (front ++ word ∷ []) ++ rest = at ∙ sym (append_assoc front (word ∷ []) rest) in
    let before : take (n - 1) words ≡ front =
    let k : n - 1 ≡ length front = omega arith in
    ap₂ (λ (i : ℕ) (ws : List (List ℕ)). take i ws) k at ∙ take-append_seam front (word ∷ rest) in
    let with_it : take n words ≡ front ++ word ∷ [] =
    let k : n ≡ length (front ++ word ∷ []) = omega (arith, length-append front (word ∷ [])) in
    ap₂ (λ (i : ℕ) (ws : List (List ℕ)). take i ws) k seam ∙ take-append_seam (front ++ word ∷ []) rest in
    record {
      counted = (omega arith, omega arith);
      begins = subst BeginsLine (sym before) some;
      stops = λ within line. let is = subst BeginsLine with_it line in none is.0 is.1 is.2;
      none = λ command line. elim line [
        | inl has ↦ none rest command (subst (λ ws. HasOperands ws command) seam has)
        | inr alone ↦ lone command alone
      ];
    }

-- the words end where a line still goes on
pub refused_end : (words : List (List ℕ)) (n : ℕ) → n ≡ length words + 1 → BeginsLine words → ((command : Command) → IsCommandLine words command → ⊥) → IsRefusedWord words n
refused_end words n count some none =
    let before : take (n - 1) words ≡ words =
    let k : n - 1 ≡ length words = omega arith in
    ap (λ (i : ℕ). take i words) k ∙ take-length words in
    record {
      counted = (omega arith, omega arith);
      begins = subst BeginsLine (sym before) some;
      stops = λ within line. absurd (omega arith);
      none = none;
    }

-- what these words begin they begin with fewer, too
pub fewer : (front more : List (List ℕ)) → BeginsLine (front ++ more) → BeginsLine front
fewer front more line = (more ++ line.0, line.1, subst (λ ws. HasOperands ws line.1) (append_assoc front more line.0) line.2)

pub nothing : (verb : Verb) → AreOperands verb []
unfolding IsDistinct
nothing verb = record { each = λ k d lt. absurd (omega arith); once = tt }

pub begins_with : (verb : Verb) → BeginsLine (verb_word verb ∷ [])
begins_with verb = begins verb [] (nothing verb) refl

begins_at_once : BeginsLine []
begins_at_once = fewer [] (verb_word ListVerb ∷ []) (begins_with ListVerb)

-- there are no words
pub no_words : (words : List (List ℕ)) → length words ≡ 0 → IsRefusedWord words 1
no_words [] e = refused_end [] 1 refl begins_at_once (λ command line. elim line [
  | inl has ↦ (let is = has.spelled in cc)
  | inr alone ↦ (let is = alone.1 in cc)
])
no_words (word ∷ words) e = absurd (omega arith)

-- the first word is no command
pub no_command : (words : List (List ℕ)) (word : List ℕ) (rest : List (List ℕ)) → words ≡ word ∷ rest → ((command : Command) → SaysAlone word command → ⊥) → ((verb : Verb) → word ≢ verb_word verb) → IsRefusedWord words 1
no_command words word rest e silent none =
    refused_at words [] word rest 1 e refl begins_at_once (λ more command has. let is = has.spelled in none has.verb (cc)) (λ command alone.
    let is = alone.1 in
    let same : alone.0 ≡ word = cc in
    silent command (subst (λ (w : List ℕ). SaysAlone w command) same alone.2))

-- a word that asks for something alone, with more words behind it
pub not_alone_then : (words : List (List ℕ)) (word : List ℕ) (rest : List (List ℕ)) (command : Command) → words ≡ word ∷ rest → (length rest == 0) ≡ false → SaysAlone word command → IsRefusedWord words 1
not_alone_then words word [] command e some alone = absurd (false≢true (sym some))
not_alone_then words word (next ∷ rest) command e some alone =
    refused_at words [] word (next ∷ rest) 1 e refl begins_at_once (λ more other has.
    let is = has.spelled in
    let same : word ≡ verb_word has.verb = cc in
    not_alone has.verb command (subst (λ (w : List ℕ). SaysAlone w command) same alone)) (λ other lone. let is = lone.1 in cc)

abbrev pub CanGoOn : List Operand → Type 0
CanGoOn os = can_go_on os ≡ true

-- no line of this command goes on with the word after these operands
abbrev pub StopsAt : Verb → List Operand → List ℕ → Type 0
StopsAt verb os word = (rest : List (List ℕ)) (command : Command) → IsLineOf verb (map operand_word os ++ word ∷ rest) command → ⊥

pub refused_after : (verb : Verb) (words : List (List ℕ)) (os : List Operand) (word : List ℕ) (rest : List (List ℕ)) (n : ℕ) → words ≡ map operand_word os ++ word ∷ rest → n ≡ length os + 2 → AreOperands verb os → CanGoOn os → StopsAt verb os word →
    IsRefusedWord (verb_word verb ∷ words) n
refused_after verb words os word rest n at count are short stops =
    refused_at (verb_word verb ∷ words) (verb_word verb ∷ map operand_word os) word rest n (ap (λ (ws : List (List ℕ)). verb_word verb ∷ ws) at) (let same = length-map os operand_word in omega arith) (begins verb os are short)
    (λ more command has. stops more command (after_operands verb (map operand_word os ++ word ∷ more) command
    (subst (λ ws. HasOperands (verb_word verb ∷ ws) command) (append_assoc (map operand_word os) (word ∷ []) more) has)))
    (none_alone verb words)

-- a word that is no `--` and no operand of the command
pub no_operand : (verb : Verb) (os : List Operand) (word : List ℕ) → AreOperands verb os → word ≢ codes "--" → ((o : Operand) → IsOperand verb o → word ≢ operand_word o) → StopsAt verb os word
no_operand verb os word are dashes none rest command line = elim (meets verb os word rest line.operands line.names are.each line.are.each line.spelled) [
  | inl ends ↦ dashes ends.1
  | inr more ↦ none more.0 more.4 more.3
]

-- an operand whose name was given
pub given_twice : (verb : Verb) (os : List Operand) (word : List ℕ) (o : Operand) (v : Value) → AreOperands verb os → IsOperand verb o → word ≡ operand_word o → value_of o.name os ≡ Some v → StopsAt verb os word
given_twice verb os word o v are is spelled given rest command line = elim (meets verb os word rest line.operands line.names are.each line.are.each line.spelled) [
  | inl ends ↦ dashes_differ o (sym spelled ∙ ends.1)
  | inr more ↦ (let same : more.0 ≡ o = one_operand verb more.0 o more.4 is (sym more.3 ∙ spelled) in
      let once = subst (λ xs. IsDistinct same_name (names_in xs)) more.2 line.are.once in
      let fresh : value_of more.0.name os ≡ None = fresh_name os more.0 more.1 once in
      let there : value_of o.name os ≡ None = subst (λ (x : Operand). value_of x.name os ≡ None) same fresh in
      let contra : Some v ≡ None = sym given ∙ there in cc)
]

other_name : (verb : Verb) (name : Name) (o : Operand) → is_member same_name (operands_of verb) name ≡ false → IsOperand verb o → (b : Bool) → same_name o.name name ≡ b → b ≡ false
other_name verb name o other is false e = refl
other_name verb name o other is true e =
    let same : o.name ≡ name = (same_name_decides o.name name).0 e in
    let member : is_member same_name (operands_of verb) o.name ≡ true = (is_member-Decides same_name_decides (operands_of verb) o.name).1 is.taken in
    let contra : true ≡ false = sym member ∙ ap (is_member same_name (operands_of verb)) same ∙ other in cc

-- a name that the command does not take has no value
not_taken : (verb : Verb) (name : Name) → is_member same_name (operands_of verb) name ≡ false → (os : List Operand) → All (IsOperand verb) os → value_of name os ≡ None
not_taken verb name other [] all = refl
not_taken verb name other (o ∷ os) all =
    let apart = other_name verb name o other (All-head (IsOperand verb) o os all) (same_name o.name name) refl in
    ap (λ b. cond b (Some o.value) (value_of name os)) apart ∙ not_taken verb name other os (All-tail (IsOperand verb) o os all)

-- a listing of a command without `size` may be short enough, and images of one without `mode` need not move
unsized : (verb : Verb) → is_member same_name (operands_of verb) SizeName ≡ false → (os : List Operand) → AreOperands verb os → lines_fit (number_in (value_of SizeName os)) (number_in (value_of PagesName os)) ≡ true
unsized verb other os are = ap (λ r. lines_fit (number_in r) (number_in (value_of PagesName os))) (not_taken verb SizeName other os are.each)

unmoved : (verb : Verb) → is_member same_name (operands_of verb) ModeName ≡ false → (os : List Operand) → AreOperands verb os → can_move (value_of ModeName os) (value_of ForeignName os) (value_of OffsetsName os) ≡ true
unmoved verb other os are = ap (λ r. can_move r (value_of ForeignName os) (value_of OffsetsName os)) (not_taken verb ModeName other os are.each)

-- nor may one without `pages` be too long
one_page : (size : Option ℕ) → lines_fit size None ≡ true
one_page None = refl
one_page (Some size) = refl

unpaged : (verb : Verb) → is_member same_name (operands_of verb) PagesName ≡ false → (os : List Operand) → AreOperands verb os → lines_fit (number_in (value_of SizeName os)) (number_in (value_of PagesName os)) ≡ true
unpaged verb other os are = ap (λ r. lines_fit (number_in (value_of SizeName os)) (number_in r)) (not_taken verb PagesName other os are.each) ∙ one_page (number_in (value_of SizeName os))

unlisted : (verb : Verb) → is_member same_name (operands_of verb) SizeName ≡ false → is_member same_name (operands_of verb) ModeName ≡ false → (os : List Operand) → AreOperands verb os → CanGoOn os
unlisted verb no_size no_mode os are =
    ap₂ (λ (a b : Bool). a && b) (unsized verb no_size os are) (unmoved verb no_mode os are)

and_one : (a : Bool) → (a && true) ≡ a
and_one true = refl
and_one false = refl

-- which of the two does not hold
not_lines : (a b : Bool) → b ≡ true → (a && b) ≡ false → a ≡ false
not_lines a b is neither = sym (and_one a) ∙ ap (λ (c : Bool). a && c) (sym is) ∙ neither

not_moves : (a b : Bool) → a ≡ true → (a && b) ≡ false → b ≡ false
not_moves a b is neither = ap (λ (c : Bool). c && b) (sym is) ∙ neither

-- offsets of their own that cannot be, whatever operands come
abbrev is_own : Option Value → Bool
is_own foreign = nat_eq (number_or 0 foreign) 0

abbrev are_near : Option Value → Bool
are_near offsets = list_all (λ n. nat_lt n (2 ^ 54)) (offsets_or offsets).items

still_foreign : (foreign more : Option Value) → is_own foreign ≡ false → is_own (option_or foreign more) ≡ false
still_foreign None more is = absurd (false≢true (sym is))
still_foreign (Some v) more is = is

still_far : (offsets more : Option Value) → are_near offsets ≡ false → are_near (option_or offsets more) ≡ false
still_far None more is = absurd (false≢true (sym is))
still_far (Some v) more is = is

either_false : (a b c d : Bool) → (a ≡ false → c ≡ false) → (b ≡ false → d ≡ false) → (a && b) ≡ false → (c && d) ≡ false
either_false true b c false first second is = both_ways c
  where
    both_ways : (c : Bool) → (c && false) ≡ false
    both_ways true = refl
    both_ways false = refl
either_false true b c true first second is = absurd (false≢true (sym (second is)))
either_false false b c d first second is = ap (λ (x : Bool). x && d) (first refl)

fixed : (each : Bool) (foreign offsets more_f more_o : Option Value) → cond each (is_own foreign && are_near offsets) true ≡ false → cond each (is_own (option_or foreign more_f) && are_near (option_or offsets more_o)) true ≡ false
fixed false foreign offsets more_f more_o is = absurd (false≢true (sym is))
fixed true foreign offsets more_f more_o is = either_false (is_own foreign) (are_near offsets) (is_own (option_or foreign more_f)) (are_near (option_or offsets more_o)) (still_foreign foreign more_f) (still_far offsets more_o) is

still_fixed : (mode foreign offsets more_m more_f more_o : Option Value) → can_move mode foreign offsets ≡ false → can_move (option_or mode more_m) (option_or foreign more_f) (option_or offsets more_o) ≡ false
still_fixed None foreign offsets more_m more_f more_o is = absurd (false≢true (sym is))
still_fixed (Some v) foreign offsets more_m more_f more_o is = fixed (each_or (Some v)) foreign offsets more_f more_o is

-- too long already: no listing has these operands and more
number_stays : (r more : Option Value) (n other : ℕ) → number_in r ≡ Some n → number_or other (option_or r more) ≡ n
number_stays None more n other e = cc
number_stays (Some v) more n other e = ap (λ k. unwrap_or k other) e

both_given : (s p : Option ℕ) → lines_fit s p ≡ false → (m : ℕ) × (n : ℕ) × (s ≡ Some m) × (p ≡ Some n) × (nat_le (m * n) 4000000 ≡ false)
both_given None p long = absurd (false≢true (sym long))
both_given (Some m) None long = absurd (false≢true (sym long))
both_given (Some m) (Some n) long = (m, n, refl, refl, long)

still_long : (s p more_s more_p : Option Value) → lines_fit (number_in s) (number_in p) ≡ false → nat_le (number_or 100 (option_or s more_s) * number_or 1 (option_or p more_p)) 4000000 ≡ false
still_long s p more_s more_p long =
    let both = both_given (number_in s) (number_in p) long in
    ap₂ (λ (x y : ℕ). nat_le (x * y) 4000000) (number_stays s more_s both.0 100 both.2) (number_stays p more_p both.1 1 both.3) ∙ both.4

-- so no command has these operands and more
pub cannot_go_on : (verb : Verb) (os more : List Operand) (n : ℕ) → AreOperands verb os → can_go_on os ≡ false → command_of verb (os ++ more) n ≡ None
cannot_go_on Survey os more n are stuck =
    let lines = lines_fit (number_in (value_of SizeName os)) (number_in (value_of PagesName os)) in
    let moves = can_move (value_of ModeName os) (value_of ForeignName os) (value_of OffsetsName os) in
    let test = ap (λ (r : Option Value). can_move r (value_of ForeignName (os ++ more)) (value_of OffsetsName (os ++ more))) (value_append ModeName os more)
    ∙ ap₂ (λ (f o : Option Value). can_move (option_or (value_of ModeName os) (value_of ModeName more)) f o) (value_append ForeignName os more) (value_append OffsetsName os more)
    ∙ still_fixed (value_of ModeName os) (value_of ForeignName os) (value_of OffsetsName os) (value_of ModeName more) (value_of ForeignName more) (value_of OffsetsName more) (not_moves lines moves (unsized Survey refl os are) stuck) in
    ap (λ (b : Bool). cond b (Some (SurveyCommand (survey_of (os ++ more) n))) None) test
cannot_go_on ListVerb os more n are stuck =
    let lines = lines_fit (number_in (value_of SizeName os)) (number_in (value_of PagesName os)) in
    let moves = can_move (value_of ModeName os) (value_of ForeignName os) (value_of OffsetsName os) in
    let test = ap₂ (λ (s p : Option Value). nat_le (number_or 100 s * number_or 1 p) 4000000) (value_append SizeName os more) (value_append PagesName os more)
    ∙ still_long (value_of SizeName os) (value_of PagesName os) (value_of SizeName more) (value_of PagesName more) (not_lines lines moves (unmoved ListVerb refl os are) stuck) in
    let all = os ++ more in
    let command = ListCommand (number_or 0 (value_of FromName all)) (number_or 100 (value_of SizeName all)) (number_or (2 ^ 64 - 1) (value_of SpanName all)) (number_or 1 (value_of PagesName all)) (form_or (value_of FormName all)) n in
    ap (λ (b : Bool). cond b (Some command) None) test
cannot_go_on Check os more n are stuck = absurd (false≢true (sym stuck ∙ unlisted Check refl refl os are))
cannot_go_on Map os more n are stuck = absurd (false≢true (sym stuck ∙ unlisted Map refl refl os are))
cannot_go_on Write os more n are stuck = absurd (false≢true (sym stuck ∙ unlisted Write refl refl os are))
cannot_go_on Rebuild os more n are stuck = absurd (false≢true (sym stuck ∙ unlisted Rebuild refl refl os are))
cannot_go_on Sample os more n are stuck = absurd (false≢true (sym stuck ∙ unlisted Sample refl refl os are))
cannot_go_on Classes os more n are stuck = absurd (false≢true (sym stuck ∙ unlisted Classes refl refl os are))
cannot_go_on Mirrors os more n are stuck = absurd (false≢true (sym stuck ∙ ap₂ (λ (a b : Bool). a && b) (unpaged Mirrors refl os are) (unmoved Mirrors refl os are)))
cannot_go_on MirrorWrite os more n are stuck = absurd (false≢true (sym stuck ∙ unlisted MirrorWrite refl refl os are))
cannot_go_on Salvage os more n are stuck = absurd (false≢true (sym stuck ∙ unlisted Salvage refl refl os are))
cannot_go_on Relations os more n are stuck = absurd (false≢true (sym stuck ∙ unlisted Relations refl refl os are))

-- an operand with which no command goes on
pub stuck_with : (verb : Verb) (os : List Operand) (word : List ℕ) (o : Operand) → AreOperands verb os → AreOperands verb (os ++ o ∷ []) → IsOperand verb o → word ≡ operand_word o →
    can_go_on (os ++ o ∷ []) ≡ false → StopsAt verb os word
stuck_with verb os word o are with_it is spelled long rest command line = elim (meets verb os word rest line.operands line.names are.each line.are.each line.spelled) [
  | inl ends ↦ dashes_differ o (sym spelled ∙ ends.1)
  | inr more ↦ (let same : more.0 ≡ o = one_operand verb more.0 o more.4 is (sym more.3 ∙ spelled) in
      let all : line.operands ≡ (os ++ o ∷ []) ++ more.1 = more.2 ∙ ap (λ (x : Operand). os ++ x ∷ more.1) same ∙ sym (append_assoc os (o ∷ []) more.1) in
      let says : command_of verb ((os ++ o ∷ []) ++ more.1) (length line.operands + 2) ≡ Some command = ap (λ xs. command_of verb xs (length line.operands + 2)) (sym all) ∙ line.says in
      let contra : None ≡ Some command = sym (cannot_go_on verb (os ++ o ∷ []) more.1 (length line.operands + 2) with_it long) ∙ says in cc)
]

-- `--`, where an operand is missing or a listing is too long
pub early_dashes : (verb : Verb) (os : List Operand) → AreOperands verb os → command_of verb os (length os + 2) ≡ None → StopsAt verb os (codes "--")
early_dashes verb os are none rest command line = elim (meets verb os (codes "--") rest line.operands line.names are.each line.are.each line.spelled) [
  | inl ends ↦ (let says : command_of verb os (length os + 2) ≡ Some command = ap (λ (xs : List Operand). command_of verb xs (length xs + 2)) (sym ends.0) ∙ line.says in
      let contra : None ≡ Some command = sym none ∙ says in cc)
  | inr more ↦ dashes_differ more.0 (sym more.3)
]

-- a name after `--`, where none may follow
pub name_too_many : (verb : Verb) (words : List (List ℕ)) (os : List Operand) (name : List ℕ) (names : List (List ℕ)) (command : Command) (n : ℕ) → takes_names verb ≡ false → words ≡ map operand_word os ++ codes "--" ∷ (name ∷ names) → AreOperands verb os →
    command_of verb os (length os + 2) ≡ Some command → n ≡ length os + 3 → IsRefusedWord (verb_word verb ∷ words) n
name_too_many verb words os name names command n nameless at are says count =
    let front = verb_word verb ∷ (map operand_word os ++ codes "--" ∷ []) in
    let whole : verb_word verb ∷ words ≡ front ++ name ∷ names = ap (λ (ws : List (List ℕ)). verb_word verb ∷ ws) (at ∙ sym (append_assoc (map operand_word os) (codes "--" ∷ []) (name ∷ names))) in
    let long : length front ≡ length os + 2 = let a = length-append (map operand_word os) (codes "--" ∷ []) in let b = length-map os operand_word in omega arith in
    let line : HasOperands (front ++ []) command = record {
      verb = verb;
      operands = os;
      names = [];
      spelled = append-nil front;
      are = are;
      follow = λ none. refl;
      says = says;
    } in
    refused_at (verb_word verb ∷ words) front name names n whole (omega arith) ([], command, line)
    (λ more other is.
    let after = after_operands verb (map operand_word os ++ codes "--" ∷ (name ∷ more)) other
    (subst (λ ws. HasOperands (verb_word verb ∷ ws) other) (append_assoc (map operand_word os ++ codes "--" ∷ []) (name ∷ []) more ∙ append_assoc (map operand_word os) (codes "--" ∷ []) (name ∷ more)) is) in
    elim (meets verb os (codes "--") (name ∷ more) after.operands after.names are.each after.are.each after.spelled) [
      | inl ends ↦ (let none : after.names ≡ [] = after.follow nameless in
          let contra : name ∷ more ≡ [] = ends.2 ∙ none in cc)
      | inr more ↦ dashes_differ more.0 (sym more.3)
    ])
    (none_alone verb words)

-- the words end before `--`
pub no_dashes_come : (verb : Verb) (words : List (List ℕ)) (os : List Operand) (n : ℕ) → words ≡ map operand_word os → n ≡ length words + 2 → AreOperands verb os → CanGoOn os → IsRefusedWord (verb_word verb ∷ words) n
no_dashes_come verb words os n at count are short =
    refused_end (verb_word verb ∷ words) n (omega arith) (subst (λ ws. BeginsLine (verb_word verb ∷ ws)) (sym at) (begins verb os are short))
    (λ command line. let after = after_verb verb words command line in no_end verb os after.operands after.names (sym at ∙ after.spelled))

pub names_too_many : (verb : Verb) (words : List (List ℕ)) (os : List Operand) (names : List (List ℕ)) (command : Command) (n : ℕ) → takes_names verb ≡ false → words ≡ map operand_word os ++ codes "--" ∷ names → length os + 2 ≤ length words → AreOperands verb os →
    command_of verb os (length os + 2) ≡ Some command → n ≡ length os + 3 → IsRefusedWord (verb_word verb ∷ words) n
names_too_many verb words os [] command n nameless at more are says count =
    let long = ap length at ∙ length-append (map operand_word os) (codes "--" ∷ []) in
    let same = length-map os operand_word in
    absurd (omega arith)
names_too_many verb words os (name ∷ names) command n nameless at more are says count = name_too_many verb words os name names command n nameless at are says count
