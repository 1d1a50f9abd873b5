-- What the words of a command say of its names.
use Rattle.std.proofs.Common.{◌≡◌, inl, inr, ℕ, suc, ◌+◌, ◌-◌, ◌*◌, ◌^◌, nat_le, Bool, true, false, cond, List, [], ◌∷◌, ◌++◌, length, map, drop, None, Some, Option, MatchOption, refl, sym, ap, ◌∙◌, subst, arith, codes, length-append}
use Rattle.std.specs.Str.{bytes_eq}
use Rattle.std.specs.Prelude.{option_and_then, option_map}
use Rattle.std.proofs.lemmas.List.{length-map}
use Rattle.raid_params.specs.declared.wide.Wide.{Wide}
use Rattle.near_mirror.specs.declared.types.NearSet.{NearSet}
use Rattle.command_words.specs.declared.command.Command.{Command}
use Rattle.command_words.specs.declared.command.Command.TheVariants.{Survey as SurveyCommand, List as ListCommand, Check as CheckCommand, Map as MapCommand, Write as WriteCommand, Rebuild as RebuildCommand, Sample as SampleCommand, Classes as ClassesCommand, MirrorWrite as MirrorWriteCommand, Salvage as SalvageCommand, Relations as RelationsCommand, Help, Version}
use Rattle.command_words.specs.declared.command.Verb.{Verb}
use Rattle.command_words.specs.declared.command.Verb.TheVariants.{Survey, List as ListVerb, Check, Map, Write, Rebuild, Sample, Classes, Mirrors, MirrorWrite, Salvage, Relations}
use Rattle.command_words.specs.declared.operands.Operand.{Operand}
use Rattle.command_words.specs.Commands.{EndFrom, EndsInNames, HasOperands, IsCommandLine, SaysAlone, can_move, command_of, form_or, lost_or, marks_or, mirror_in, mirrors_of, names_after, names_of, number_in, number_or, relations_of, set_in, survey_of, takes_names, verb_word}
use Rattle.command_words.specs.Operands.{operand_word, value_of}
use Rattle.command_words.specs.declared.table.Name.TheVariants.{End as EndName, Form as FormName, From as FromName, Marks as MarksName, Number as NumberName, Pages as PagesName, Rows as RowsName, Sector as SectorName, Set as SetName, Size as SizeName, Slot as SlotName, Span as SpanName, Images as ImagesName, Mode as ModeName, Foreign as ForeignName, Offsets as OffsetsName}
use Rattle.command_words.proofs.LineStarts.{not_dashes}

-- what a command that was made has, it has
mapped : (A : Type 0) (make : A → Command) (r : Option A) (P : Command → Type 0) (command : Command) → option_map make r ≡ Some command → ((x : A) → r ≡ Some x → P (make x)) → P command
mapped A make None P command e is = cc
mapped A make (Some x) P command e is = let same : make x ≡ command = cc in subst P same (is x refl)

chained : (A : Type 0) (make : A → Option Command) (r : Option A) (P : Command → Type 0) (command : Command) → option_and_then make r ≡ Some command → ((x : A) → r ≡ Some x → make x ≡ Some command → P command) → P command
chained A make None P command e is = cc
chained A make (Some x) P command e is = is x refl e

tested : (b : Bool) (made : Command) (P : Command → Type 0) (command : Command) → cond b (Some made) None ≡ Some command → (b ≡ true → P made) → P command
tested true made P command e is = let same : made ≡ command = cc in subst P same (is refl)
tested false made P command e is = cc

-- images can have offsets of their own, where they are to
abbrev pub moves : List Operand → Bool
moves os = can_move (value_of ModeName os) (value_of ForeignName os) (value_of OffsetsName os)

pub made_survey : (os : List Operand) (n : ℕ) (command : Command) (P : Command → Type 0) → command_of Survey os n ≡ Some command → (moves os ≡ true → P (SurveyCommand (survey_of os n))) → P command
made_survey os n command P e is = tested (moves os) (SurveyCommand (survey_of os n)) P command e is

-- the listing of these operands
abbrev pub listing_of : List Operand → ℕ → Command
listing_of os n = ListCommand (number_or 0 (value_of FromName os)) (number_or 100 (value_of SizeName os)) (number_or (2 ^ 64 - 1) (value_of SpanName os)) (number_or 1 (value_of PagesName os)) (form_or (value_of FormName os)) n

abbrev pub is_short : List Operand → Bool
is_short os = nat_le (number_or 100 (value_of SizeName os) * number_or 1 (value_of PagesName os)) 4000000

pub made_list : (os : List Operand) (n : ℕ) (command : Command) (P : Command → Type 0) → command_of ListVerb os n ≡ Some command → (is_short os ≡ true → P (listing_of os n)) → P command
made_list os n command P e is = tested (is_short os) (listing_of os n) P command e is

pub made_check : (os : List Operand) (n : ℕ) (command : Command) (P : Command → Type 0) → command_of Check os n ≡ Some command → ((set : Wide) → set_in (value_of SetName os) ≡ Some set → P (CheckCommand set n)) → P command
made_check os n command P e is = mapped Wide (λ set. CheckCommand set n) (set_in (value_of SetName os)) P command e is

pub made_map : (os : List Operand) (n : ℕ) (command : Command) (P : Command → Type 0) → command_of Map os n ≡ Some command →
    ((set : Wide) (sector : ℕ) → set_in (value_of SetName os) ≡ Some set → number_in (value_of SectorName os) ≡ Some sector → P (MapCommand set sector (number_in (value_of EndName os)) n)) → P command
made_map os n command P e is =
    chained Wide (λ set. option_map (λ sector. MapCommand set sector (number_in (value_of EndName os)) n) (number_in (value_of SectorName os))) (set_in (value_of SetName os)) P command e
    (λ set has f. mapped ℕ (λ sector. MapCommand set sector (number_in (value_of EndName os)) n) (number_in (value_of SectorName os)) P command f (λ sector had. is set sector has had))

pub made_write : (os : List Operand) (n : ℕ) (command : Command) (P : Command → Type 0) → command_of Write os n ≡ Some command → ((set : Wide) → set_in (value_of SetName os) ≡ Some set → P (WriteCommand set (number_in (value_of EndName os)) n)) → P command
made_write os n command P e is = mapped Wide (λ set. WriteCommand set (number_in (value_of EndName os)) n) (set_in (value_of SetName os)) P command e is

pub made_rebuild : (os : List Operand) (n : ℕ) (command : Command) (P : Command → Type 0) → command_of Rebuild os n ≡ Some command →
    ((set : Wide) (slot : ℕ) → set_in (value_of SetName os) ≡ Some set → number_in (value_of SlotName os) ≡ Some slot → P (RebuildCommand set slot (number_in (value_of EndName os)) n)) → P command
made_rebuild os n command P e is =
    chained Wide (λ set. option_map (λ slot. RebuildCommand set slot (number_in (value_of EndName os)) n) (number_in (value_of SlotName os))) (set_in (value_of SetName os)) P command e
    (λ set has f. mapped ℕ (λ slot. RebuildCommand set slot (number_in (value_of EndName os)) n) (number_in (value_of SlotName os)) P command f (λ slot had. is set slot has had))

pub made_sample : (os : List Operand) (n : ℕ) (command : Command) (P : Command → Type 0) → command_of Sample os n ≡ Some command →
    ((number : ℕ) (set : Wide) (rows : ℕ) → set_in (value_of SetName os) ≡ Some set → number_in (value_of RowsName os) ≡ Some rows → P (SampleCommand number set rows (marks_or (value_of MarksName os)))) → P command
made_sample os n command P e is =
    chained ℕ (λ number. option_and_then (λ set. option_map (λ rows. SampleCommand number set rows (marks_or (value_of MarksName os))) (number_in (value_of RowsName os))) (set_in (value_of SetName os))) (number_in (value_of NumberName os)) P command e
    (λ number one f. chained Wide (λ set. option_map (λ rows. SampleCommand number set rows (marks_or (value_of MarksName os))) (number_in (value_of RowsName os))) (set_in (value_of SetName os)) P command f
    (λ set has g. mapped ℕ (λ rows. SampleCommand number set rows (marks_or (value_of MarksName os))) (number_in (value_of RowsName os)) P command g (λ rows had. is number set rows has had)))

pub made_classes : (os : List Operand) (n : ℕ) (command : Command) (P : Command → Type 0) → command_of Classes os n ≡ Some command →
    ((images end : ℕ) → number_in (value_of ImagesName os) ≡ Some images → number_in (value_of EndName os) ≡ Some end → P (ClassesCommand images end)) → P command
made_classes os n command P e is =
    chained ℕ (λ images. option_map (λ end. ClassesCommand images end) (number_in (value_of EndName os))) (number_in (value_of ImagesName os)) P command e
    (λ images has f. mapped ℕ (λ end. ClassesCommand images end) (number_in (value_of EndName os)) P command f (λ end had. is images end has had))

pub made_mirrors : (os : List Operand) (n : ℕ) (command : Command) (P : Command → Type 0) → command_of Mirrors os n ≡ Some command → P (mirrors_of os n) → P command
made_mirrors os n command P e is = let same : mirrors_of os n ≡ command = cc in subst P same is

pub made_mirror_write : (os : List Operand) (n : ℕ) (command : Command) (P : Command → Type 0) → command_of MirrorWrite os n ≡ Some command → ((set : NearSet) → mirror_in (value_of SetName os) ≡ Some set → P (MirrorWriteCommand set (number_in (value_of EndName os)) n)) → P command
made_mirror_write os n command P e is = mapped NearSet (λ set. MirrorWriteCommand set (number_in (value_of EndName os)) n) (mirror_in (value_of SetName os)) P command e is

pub made_salvage : (os : List Operand) (n : ℕ) (command : Command) (P : Command → Type 0) → command_of Salvage os n ≡ Some command →
    ((set : Wide) → set_in (value_of SetName os) ≡ Some set → P (SalvageCommand set (lost_or (value_of FormName os)) (number_in (value_of EndName os)) n)) → P command
made_salvage os n command P e is = mapped Wide (λ set. SalvageCommand set (lost_or (value_of FormName os)) (number_in (value_of EndName os)) n) (set_in (value_of SetName os)) P command e is

pub made_relations : (os : List Operand) (n : ℕ) (command : Command) (P : Command → Type 0) → command_of Relations os n ≡ Some command → P (RelationsCommand (relations_of os n)) → P command
made_relations os n command P e is = let same : RelationsCommand (relations_of os n) ≡ command = cc in subst P same is

-- the number of words up to the names
abbrev Counts : Verb → ℕ → Command → Type 0
Counts verb n command = MatchOption (names_of command) (takes_names verb ≡ false) (λ names. names ≡ n)

count_said : (verb : Verb) (os : List Operand) (n : ℕ) (command : Command) → command_of verb os n ≡ Some command → Counts verb n command
count_said Survey os n command e = made_survey os n command (Counts Survey n) e (λ is. refl)
count_said ListVerb os n command e = made_list os n command (Counts ListVerb n) e (λ is. refl)
count_said Check os n command e = made_check os n command (Counts Check n) e (λ set is. refl)
count_said Map os n command e = made_map os n command (Counts Map n) e (λ set sector is had. refl)
count_said Write os n command e = made_write os n command (Counts Write n) e (λ set is. refl)
count_said Rebuild os n command e = made_rebuild os n command (Counts Rebuild n) e (λ set slot is had. refl)
count_said Sample os n command e = made_sample os n command (Counts Sample n) e (λ number set rows is had. refl)
count_said Classes os n command e = made_classes os n command (Counts Classes n) e (λ images end is had. refl)
count_said Mirrors os n command e = made_mirrors os n command (Counts Mirrors n) e refl
count_said MirrorWrite os n command e = made_mirror_write os n command (Counts MirrorWrite n) e (λ set is. refl)
count_said Salvage os n command e = made_salvage os n command (Counts Salvage n) e (λ set is. refl)
count_said Relations os n command e = made_relations os n command (Counts Relations n) e refl

-- the names are what follows the operands and `--`
names_past : (operands : List Operand) (names : List (List ℕ)) → names_after (map operand_word operands ++ codes "--" ∷ names) ≡ names
names_past [] names = refl
names_past (operand ∷ operands) names =
    ap (λ (b : Bool). cond b (map operand_word operands ++ codes "--" ∷ names) (names_after (map operand_word operands ++ codes "--" ∷ names))) (not_dashes operand)
    ∙ names_past operands names

past : (operands : List Operand) (names : List (List ℕ)) → drop (length operands + 1) (map operand_word operands ++ codes "--" ∷ names) ≡ names
past [] names = refl
past (operand ∷ operands) names =
    let e : length (operand ∷ operands) + 1 ≡ suc (length operands + 1) = omega arith in
    ap (λ (k : ℕ). drop k (map operand_word (operand ∷ operands) ++ codes "--" ∷ names)) e ∙ past operands names

verb_no_dashes : (verb : Verb) → bytes_eq (verb_word verb) (codes "--") ≡ false
verb_no_dashes Survey = refl
verb_no_dashes ListVerb = refl
verb_no_dashes Check = refl
verb_no_dashes Map = refl
verb_no_dashes Write = refl
verb_no_dashes Rebuild = refl
verb_no_dashes Sample = refl
verb_no_dashes Classes = refl
verb_no_dashes Mirrors = refl
verb_no_dashes MirrorWrite = refl
verb_no_dashes Salvage = refl
verb_no_dashes Relations = refl

ends : (r : Option ℕ) (words : List (List ℕ)) (verb : Verb) (n : ℕ) → MatchOption r (takes_names verb ≡ false) (λ names. names ≡ n) → (takes_names verb ≡ false → names_after words ≡ []) → EndFrom words n → MatchOption r (names_after words ≡ []) (EndFrom words)
ends None words verb n is none from = none is
ends (Some names) words verb n is none from = subst (EndFrom words) (sym is) from

-- the names of a command with operands
operand_names : (words : List (List ℕ)) (command : Command) → HasOperands words command → EndsInNames words command
operand_names words command line =
    let n = length line.operands + 2 in
    let k : n ≡ suc (length line.operands + 1) = omega arith in
    let after : names_after words ≡ line.names =
    ap names_after line.spelled
    ∙ ap (λ (b : Bool). cond b (map operand_word line.operands ++ codes "--" ∷ line.names) (names_after (map operand_word line.operands ++ codes "--" ∷ line.names))) (verb_no_dashes line.verb)
    ∙ names_past line.operands line.names in
    let dropped : drop n words ≡ line.names =
    ap (λ (n : ℕ). drop n words) k ∙ ap (drop (suc (length line.operands + 1))) line.spelled ∙ past line.operands line.names in
    let long : length words ≡ suc (length line.operands + suc (length line.names)) =
    ap length line.spelled ∙ ap suc (length-append (map operand_word line.operands) (codes "--" ∷ line.names) ∙ ap (λ (n : ℕ). n + suc (length line.names)) (length-map line.operands operand_word)) in
    ends (names_of command) words line.verb n (count_said line.verb line.operands n command line.says)
    (λ none. after ∙ line.follow none)
    (omega arith, after ∙ sym dropped)

-- a word alone names none
alone_names : (word : List ℕ) (command : Command) → SaysAlone word command → EndsInNames (word ∷ []) command
alone_names word Help asks = elim asks [
  | inl e ↦ ap (λ (w : List ℕ). names_after (w ∷ [])) e
  | inr short ↦ elim short [ inl e ↦ ap (λ (w : List ℕ). names_after (w ∷ [])) e | inr e ↦ ap (λ (w : List ℕ). names_after (w ∷ [])) e ]
]
alone_names word Version e = ap (λ (w : List ℕ). names_after (w ∷ [])) e
alone_names word _ e = absurd e

-- the names of a command line
pub line_names : (words : List (List ℕ)) (command : Command) → IsCommandLine words command → EndsInNames words command
line_names words command line = elim line [
  | inl has ↦ operand_names words command has
  | inr alone ↦ subst (λ (ws : List (List ℕ)). EndsInNames ws command) (sym alone.1) (alone_names alone.0 command alone.2)
]
