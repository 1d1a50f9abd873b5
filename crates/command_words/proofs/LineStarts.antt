-- How the words of a command line begin: its operands one after the other, up to `--`.
use Rattle.std.proofs.Common.{◌≡◌, ℕ, ◌≤◌, ◌+◌, ◌⊎◌, inl, inr, Bool, true, false, cond, List, [], ◌∷◌, ◌++◌, All, Option, None, Some, length, map, codes, refl, sym, ap, ◌∙◌, subst, arith}
use Rattle.std.specs.List.{AllByRecursion, IsDistinct, find, list_any}
use Rattle.std.specs.Set.{is_member}
use Rattle.std.specs.Str.{bytes_eq}
use Rattle.std.proofs.lemmas.Bool.{false≢true}
use Rattle.std.proofs.lemmas.List.{length-map}
use Rattle.std.proofs.lemmas.List.Elements.{All-contains, All-head, All-map, All-push, All-tail, All-weaker}
use Rattle.std.proofs.lemmas.Map.Keys.{IsDistinct-head, IsDistinct-push, IsDistinct-tail}
use Rattle.std.proofs.lemmas.Map.Made.{is_member-Decides, length-le_from_is_member}
use Rattle.command_words.specs.Commands.{HasOperands, IsAlone, IsCommandLine, MayFollow, SaysAlone, command_of, verb_word}
use Rattle.command_words.specs.Operands.{AreOperands, IsOperand, name_text, operand_word, operands_of, same_name, value_of, value_text}
use Rattle.command_words.specs.declared.command.Command.{Command}
use Rattle.command_words.specs.declared.command.Command.TheVariants.{Help, Version}
use Rattle.command_words.specs.declared.command.Verb.{Verb}
use Rattle.command_words.specs.declared.command.Verb.TheVariants.{Survey, List as ListVerb, Check, Map, Write, Rebuild, Sample, Classes, Mirrors, MirrorWrite, Salvage, Relations}
use Rattle.command_words.specs.declared.operands.Operand.{Operand}
use Rattle.command_words.specs.declared.table.Name.{Name}
use Rattle.command_words.specs.declared.table.Name.TheVariants.{Levels as LevelsName, Members as MembersName, Patterns as PatternsName, Delays as DelaysName, Syndromes as SyndromesName, Chunks as ChunksName, Offsets as OffsetsName, Origins as OriginsName, Missing as MissingName, Foreign as ForeignName, Badrows as BadrowsName, Misfits as MisfitsName, Least as LeastName, Window as WindowName, End as EndName, Kinds as KindsName, Dropped as DropName, From as FromName, Size as SizeName, Span as SpanName, Pages as PagesName, Form as FormName, Set as SetName, Sector as SectorName, Slot as SlotName, Number as NumberName, Rows as RowsName, Marks as MarksName, Images as ImagesName, Mode as ModeName, Logical as LogicalName, Step as StepName, Layouts as LayoutsName}
use Rattle.command_words.proofs.LookUps.{names_in, none_named}
use Rattle.command_words.proofs.NameTexts.{same_name_decides, same_name_equiv}
use Rattle.command_words.proofs.Spelled.{one_operand}

no_dashes : (name : Name) (value : List ℕ) → bytes_eq (name_text name ++ 61 ∷ value) (codes "--") ≡ false
no_dashes LevelsName value = refl
no_dashes MembersName value = refl
no_dashes PatternsName value = refl
no_dashes DelaysName value = refl
no_dashes SyndromesName value = refl
no_dashes ChunksName value = refl
no_dashes OffsetsName value = refl
no_dashes OriginsName value = refl
no_dashes MissingName value = refl
no_dashes ForeignName value = refl
no_dashes BadrowsName value = refl
no_dashes MisfitsName value = refl
no_dashes LeastName value = refl
no_dashes WindowName value = refl
no_dashes EndName value = refl
no_dashes KindsName value = refl
no_dashes DropName value = refl
no_dashes FromName value = refl
no_dashes SizeName value = refl
no_dashes SpanName value = refl
no_dashes PagesName value = refl
no_dashes FormName value = refl
no_dashes SetName value = refl
no_dashes SectorName value = refl
no_dashes SlotName value = refl
no_dashes NumberName value = refl
no_dashes RowsName value = refl
no_dashes MarksName value = refl
no_dashes ImagesName value = refl
no_dashes ModeName value = refl
no_dashes LogicalName value = refl
no_dashes StepName value = refl
no_dashes LayoutsName value = refl

-- an operand is no `--`
pub not_dashes : (o : Operand) → bytes_eq (operand_word o) (codes "--") ≡ false
unfolding operand_word
not_dashes o = no_dashes o.name (value_text o.value)

pub dashes_differ : (o : Operand) → operand_word o ≡ codes "--" → ⊥
dashes_differ o e =
    let test : bytes_eq (operand_word o) (codes "--") ≡ true = ap (λ (w : List ℕ). bytes_eq w (codes "--")) e in
    false≢true (sym (not_dashes o) ∙ test)

-- the command that a word is
verb_by : List ℕ → Option Verb
verb_by text = find (λ verb. bytes_eq text (verb_word verb)) (Survey ∷ ListVerb ∷ Check ∷ Map ∷ Write ∷ Rebuild ∷ Sample ∷ Classes ∷ Mirrors ∷ MirrorWrite ∷ Salvage ∷ Relations ∷ [])

is_verb : (verb : Verb) → verb_by (verb_word verb) ≡ Some verb
unfolding verb_by
is_verb Survey = refl
is_verb ListVerb = refl
is_verb Check = refl
is_verb Map = refl
is_verb Write = refl
is_verb Rebuild = refl
is_verb Sample = refl
is_verb Classes = refl
is_verb Mirrors = refl
is_verb MirrorWrite = refl
is_verb Salvage = refl
is_verb Relations = refl

pub one_verb : (a b : Verb) → verb_word a ≡ verb_word b → a ≡ b
one_verb a b e = let same : Some a ≡ Some b = sym (is_verb a) ∙ ap verb_by e ∙ is_verb b in cc

-- a word asks for something alone
stands_alone : List ℕ → Bool
stands_alone word = list_any (λ alone. bytes_eq word alone) (codes "--help" ∷ codes "-h" ∷ codes "help" ∷ codes "--version" ∷ [])

is_no_alone : (verb : Verb) → stands_alone (verb_word verb) ≡ false
unfolding stands_alone
is_no_alone Survey = refl
is_no_alone ListVerb = refl
is_no_alone Check = refl
is_no_alone Map = refl
is_no_alone Write = refl
is_no_alone Rebuild = refl
is_no_alone Sample = refl
is_no_alone Classes = refl
is_no_alone Mirrors = refl
is_no_alone MirrorWrite = refl
is_no_alone Salvage = refl
is_no_alone Relations = refl

alone_stands : (word : List ℕ) (command : Command) → SaysAlone word command → stands_alone word ≡ true
unfolding stands_alone
alone_stands word Help asks = elim asks [ inl e ↦ ap stands_alone e | inr short ↦ elim short [ inl e ↦ ap stands_alone e | inr e ↦ ap stands_alone e ] ]
alone_stands word Version e = ap stands_alone e
alone_stands word _ e = absurd e

-- a command with operands is no word that says something alone
pub not_alone : (verb : Verb) (command : Command) → SaysAlone (verb_word verb) command → ⊥
not_alone verb command alone = false≢true (sym (is_no_alone verb) ∙ alone_stands (verb_word verb) command alone)

pub none_alone : (verb : Verb) (words : List (List ℕ)) (command : Command) → IsAlone (verb_word verb ∷ words) command → ⊥
none_alone verb words command alone =
    let e = alone.1 in
    let same : alone.0 ≡ verb_word verb = cc in
    not_alone verb command (subst (λ (w : List ℕ). SaysAlone w command) same alone.2)

-- a command line after its first word
pub record IsLineOf (verb : Verb) (words : List (List ℕ)) (command : Command) : Type 0 where
  pub operands : List Operand
  pub names : List (List ℕ)
  pub spelled : words ≡ map operand_word operands ++ codes "--" ∷ names
  pub are : AreOperands verb operands
  pub follow : MayFollow names verb
  pub says : command_of verb operands (length operands + 2) ≡ Some command

pub after_operands : (verb : Verb) (words : List (List ℕ)) (command : Command) → HasOperands (verb_word verb ∷ words) command → IsLineOf verb words command
after_operands verb words command line =
    let first : verb_word verb ≡ verb_word line.verb = let e = line.spelled in cc in
    let rest : words ≡ map operand_word line.operands ++ codes "--" ∷ line.names = let e = line.spelled in cc in
    let same : line.verb ≡ verb = one_verb line.verb verb (sym first) in
    subst (λ v. IsLineOf v words command) same (record { operands = line.operands; names = line.names; spelled = rest; are = line.are; follow = line.follow; says = line.says })

pub after_verb : (verb : Verb) (words : List (List ℕ)) (command : Command) → IsCommandLine (verb_word verb ∷ words) command → IsLineOf verb words command
after_verb verb words command line = elim line [
  | inl has ↦ after_operands verb words command has
  | inr alone ↦ absurd (none_alone verb words command alone)
]

-- where the operands of a line meet other ones: `--` comes where these end, or one more operand
abbrev pub Meets : Verb → List Operand → List ℕ → List (List ℕ) → List Operand → List (List ℕ) → Type 0
Meets verb os word words all names =
    ((all ≡ os) × (word ≡ codes "--") × (words ≡ names))
    ⊎ ((o : Operand) × (more : List Operand) × (all ≡ os ++ o ∷ more) × (word ≡ operand_word o) × IsOperand verb o)

meets_later : (verb : Verb) (o : Operand) (os : List Operand) (word : List ℕ) (words : List (List ℕ)) (all : List Operand) (names : List (List ℕ)) → Meets verb os word words all names → Meets verb (o ∷ os) word words (o ∷ all) names
meets_later verb o os word words all names met = elim met [
  | inl ends ↦ inl (ap (λ (xs : List Operand). o ∷ xs) ends.0, ends.1, ends.2)
  | inr more ↦ inr (more.0, more.1, ap (λ (xs : List Operand). o ∷ xs) more.2, more.3, more.4)
]

pub meets : (verb : Verb) (os : List Operand) (word : List ℕ) (words : List (List ℕ)) (all : List Operand) (names : List (List ℕ)) → All (IsOperand verb) os → All (IsOperand verb) all →
    map operand_word os ++ word ∷ words ≡ map operand_word all ++ codes "--" ∷ names → Meets verb os word words all names
meets verb [] word words [] names p q e = inl (refl, (cc), (cc))
meets verb [] word words (o ∷ all) names p q e = inr (o, all, refl, (cc), All-head (IsOperand verb) o all q)
meets verb (o ∷ os) word words [] names p q e = absurd (dashes_differ o (cc))
meets verb (o ∷ os) word words (a ∷ all) names p q e =
    let first : operand_word o ≡ operand_word a = cc in
    let same : o ≡ a = one_operand verb o a (All-head (IsOperand verb) o os p) (All-head (IsOperand verb) a all q) first in
    let rest = meets verb os word words all names (All-tail (IsOperand verb) o os p) (All-tail (IsOperand verb) a all q) (cc) in
    subst (λ x. Meets verb (o ∷ os) word words (x ∷ all) names) same (meets_later verb o os word words all names rest)

-- operands alone are no line
pub no_end : (verb : Verb) (os all : List Operand) (names : List (List ℕ)) → map operand_word os ≡ map operand_word all ++ codes "--" ∷ names → ⊥
no_end verb [] [] names e = cc
no_end verb [] (a ∷ all) names e = cc
no_end verb (o ∷ os) [] names e = dashes_differ o (cc)
no_end verb (o ∷ os) (a ∷ all) names e = no_end verb os all names (cc)

-- operands with one more
pub once_more : (verb : Verb) (os : List Operand) (o : Operand) → AreOperands verb os → IsOperand verb o → value_of o.name os ≡ None → AreOperands verb (os ++ o ∷ [])
once_more verb os o are is fresh = record {
  each = All-push (IsOperand verb) os o are.each is;
  once = subst (λ ns. IsDistinct same_name ns) (names_push os o) (IsDistinct-push same_name_equiv (names_in os) o.name are.once (none_named o.name os fresh));
}
  where
    names_push : (os : List Operand) (o : Operand) → names_in os ++ o.name ∷ [] ≡ names_in (os ++ o ∷ [])
    names_push [] o = refl
    names_push (x ∷ os) o = ap (λ (ns : List Name). x.name ∷ ns) (names_push os o)

apart : (name : Name) (os : List Operand) (o : Operand) (more : List Operand) → AllByRecursion (λ other. same_name name other ≡ false) (names_in (os ++ o ∷ more)) → same_name name o.name ≡ false
apart name [] o more all = all.0
apart name (x ∷ os) o more all = apart name os o more all.1

-- an operand among others of which each stands once has a name of its own
pub fresh_name : (os : List Operand) (o : Operand) (more : List Operand) → IsDistinct same_name (names_in (os ++ o ∷ more)) → value_of o.name os ≡ None
fresh_name [] o more once = refl
fresh_name (x ∷ os) o more once =
    let here : same_name x.name o.name ≡ false = apart x.name os o more (IsDistinct-head same_name x.name (names_in (os ++ o ∷ more)) once) in
    let later = fresh_name os o more (IsDistinct-tail same_name x.name (names_in (os ++ o ∷ more)) once) in
    ap (λ b. cond b (Some x.value) (value_of o.name os)) here ∙ later

few_names : (verb : Verb) → length (operands_of verb) ≤ 19
few_names Survey = omega arith
few_names ListVerb = omega arith
few_names Check = omega arith
few_names Map = omega arith
few_names Write = omega arith
few_names Rebuild = omega arith
few_names Sample = omega arith
few_names Classes = omega arith
few_names Mirrors = omega arith
few_names MirrorWrite = omega arith
few_names Salvage = omega arith
few_names Relations = omega arith

taken_name : (verb : Verb) (os : List Operand) → All (IsOperand verb) os → All (λ name. is_member same_name (operands_of verb) name ≡ true) (names_in os)
taken_name verb os all =
    All-map (λ name. is_member same_name (operands_of verb) name ≡ true) (λ operand. operand.name) os
    (All-weaker (IsOperand verb) (λ operand. is_member same_name (operands_of verb) operand.name ≡ true) (λ o is. (is_member-Decides same_name_decides (operands_of verb) o.name).1 is.taken) os all)

-- a command takes so few operands
pub few_operands : (verb : Verb) (os : List Operand) → AreOperands verb os → length os ≤ 19
few_operands verb os are =
    let within = length-le_from_is_member same_name_equiv (names_in os) (operands_of verb) are.once
    (λ q is. All-contains (λ name. is_member same_name (operands_of verb) name ≡ true) (names_in os) q (taken_name verb os are.each) ((is_member-Decides same_name_decides (names_in os) q).0 is)) in
    let few = few_names verb in
    let same = length-map os (λ operand. operand.name) in
    omega arith
