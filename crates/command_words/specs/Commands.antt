-- What the words of a command line say, and which word is refused.
use Rattle.std.specs.Prelude.{ℕ, ◌-◌, ◌*◌, ◌≡◌, ◌≤◌, ◌<◌, ◌^◌, ◌+◌, ◌⊎◌, Bool, true, false, IsTrue, nat_eq, nat_le, nat_lt, ◌&&◌, All, List, [], ◌∷◌, ◌++◌, length, map, take, drop, codes, if◌then◌else◌, unwrap_or, option_and_then, option_map, IfSome, MatchOption, Result, Ok, Err}
use Rattle.std.specs.List.{list_all}
use Rattle.std.specs.declared.option.Option.{Option}
use Rattle.std.specs.declared.option.Option.TheVariants.{None, Some}
use Rattle.std.specs.Str.{bytes_eq}
use Rattle.arrayvec.specs.ArrayVec.{ArrayVec}
use Rattle.raid_params.specs.declared.limits.TheConstants.{MOST}
use Rattle.raid_params.specs.declared.types.Bounds.{Bounds}
use Rattle.raid_params.specs.declared.types.Level.{Level}
use Rattle.raid_params.specs.declared.types.Level.TheVariants.{Raid0, Raid5, Raid6}
use Rattle.raid_params.specs.declared.types.Pattern.{Pattern}
use Rattle.raid_params.specs.declared.types.Pattern.TheVariants.{Plain, La, Ra, Ls, Rs, ParityFirst, ParityLast, NRestart, NContinue, La6, Ra6, Ls6, Rs6, ParityFirst6}
use Rattle.raid_params.specs.declared.types.Syndrome.{Syndrome}
use Rattle.raid_params.specs.declared.types.Syndrome.TheVariants.{NoQ, AfterQ, ByData, BySlot}
use Rattle.raid_params.specs.declared.wide.Wide.{Wide}
use Rattle.landmark_rules.specs.declared.marks.MarkTests.{MarkTests}
use Rattle.near_mirror.specs.Words.{HasNearWord}
use Rattle.near_mirror.specs.declared.types.CopyLayout.{CopyLayout}
use Rattle.near_mirror.specs.declared.types.Copying.TheVariants.{Near}
use Rattle.near_mirror.specs.declared.types.NearSet.{NearSet}
use Rattle.value_text.specs.Bounded.{AreChunks, AreMembers, ArePlaces, AreSectors}
use Rattle.value_text.specs.SetText.{HasWord}
use Rattle.landmark_rules.specs.Tests.{AreTests}
use Rattle.search_scope.specs.Scopes.{AreBounds}
use Rattle.mark_kinds.specs.declared.table.DropAt.{DropAt}
use Rattle.mark_kinds.specs.declared.table.Kinds.{Kinds}
use Rattle.mark_kinds.specs.Table.{usual_kinds, kinds_among, some_asked}
use Rattle.command_words.specs.Operands.{AreDrops, AreLayouts, AreOperands, operand_word, value_of}
use Rattle.command_words.specs.declared.command.Command.{Command}
use Rattle.command_words.specs.declared.command.Command.TheVariants.{Survey as SurveyCommand, List as ListCommand, Check as CheckCommand, Map as MapCommand, Write as WriteCommand, Rebuild as RebuildCommand, Sample as SampleCommand, Classes as ClassesCommand, Mirrors as MirrorsCommand, MirrorWrite as MirrorWriteCommand, Salvage as SalvageCommand, Relations as RelationsCommand, Help, Version}
use Rattle.command_words.specs.declared.command.Form.{Form}
use Rattle.command_words.specs.declared.command.Form.TheVariants.{Text}
use Rattle.command_words.specs.declared.command.RelationWords.{RelationWords}
use Rattle.command_words.specs.declared.command.SurveyWords.{SurveyWords}
use Rattle.command_words.specs.declared.command.Verb.{Verb}
use Rattle.command_words.specs.declared.command.Verb.TheVariants.{Survey, List as ListVerb, Check, Map, Write, Rebuild, Sample, Classes, Mirrors, MirrorWrite, Salvage, Relations}
use Rattle.command_words.specs.declared.operands.Operand.{Operand}
use Rattle.command_words.specs.declared.table.Name.TheVariants.{Levels as LevelsName, Members as MembersName, Patterns as PatternsName, Delays as DelaysName, Syndromes as SyndromesName, Chunks as ChunksName, Offsets as OffsetsName, Origins as OriginsName, Missing as MissingName, Foreign as ForeignName, Badrows as BadrowsName, Misfits as MisfitsName, Least as LeastName, Window as WindowName, End as EndName, Kinds as KindsName, Dropped as DropName, From as FromName, Size as SizeName, Span as SpanName, Pages as PagesName, Form as FormName, Set as SetName, Sector as SectorName, Slot as SlotName, Number as NumberName, Rows as RowsName, Marks as MarksName, Images as ImagesName, Mode as ModeName, Logical as LogicalName, Step as StepName, Layouts as LayoutsName}
use Rattle.command_words.specs.declared.values.Value.{Value}
use Rattle.command_words.specs.declared.values.Value.TheVariants.{Number, Levels, Members, Patterns, Delays, Syndromes, Chunks, Sectors, Places, Landmarks, Drops, Form as FormValue, Salvaged, Marks, Set, Mirror, Layouts, Mode, Logical}

-- the word of a command
abbrev pub verb_word : Verb → List ℕ
verb_word Survey = codes "survey"
verb_word ListVerb = codes "list"
verb_word Check = codes "check"
verb_word Map = codes "map"
verb_word Write = codes "write"
verb_word Rebuild = codes "rebuild"
verb_word Sample = codes "sample"
verb_word Classes = codes "classes"
verb_word Mirrors = codes "mirrors"
verb_word MirrorWrite = codes "mirrorwrite"
verb_word Salvage = codes "salvage"
verb_word Relations = codes "relations"

-- the values of operands that were given, and the defaults of those that were not
abbrev pub number_in : Option Value → Option ℕ
number_in (Some (Number n)) = Some n
number_in _ = None

abbrev pub set_in : Option Value → Option Wide
set_in (Some (Set set)) = Some set
set_in _ = None

abbrev pub mirror_in : Option Value → Option NearSet
mirror_in (Some (Mirror set)) = Some set
mirror_in _ = None

abbrev pub levels_or : Option Value → ArrayVec Level
levels_or (Some (Levels xs)) = xs
levels_or _ = record { items = Raid0 ∷ Raid5 ∷ Raid6 ∷ [] }

-- the layout of most mirrors: two near copies
abbrev pub near2 : CopyLayout
near2 = record { copying = Near; copies = 2 }

abbrev pub layouts_or : Option Value → ArrayVec CopyLayout
layouts_or (Some (Layouts xs)) = xs
layouts_or _ = record { items = near2 ∷ [] }

abbrev pub members_or : Option Value → ArrayVec ℕ
members_or (Some (Members ns)) = ns
members_or _ = record { items = [] }

abbrev pub patterns_or : Option Value → ArrayVec Pattern
patterns_or (Some (Patterns xs)) = xs
patterns_or _ = record { items = Plain ∷ La ∷ Ra ∷ Ls ∷ Rs ∷ ParityFirst ∷ ParityLast ∷ NRestart ∷ NContinue ∷ La6 ∷ Ra6 ∷ Ls6 ∷ Rs6 ∷ ParityFirst6 ∷ [] }

abbrev pub delays_or : Option Value → ArrayVec ℕ
delays_or (Some (Delays ns)) = ns
delays_or _ = record { items = 1 ∷ [] }

abbrev pub syndromes_or : Option Value → ArrayVec Syndrome
syndromes_or (Some (Syndromes xs)) = xs
syndromes_or _ = record { items = NoQ ∷ AfterQ ∷ ByData ∷ BySlot ∷ [] }

abbrev pub chunks_or : Option Value → ArrayVec ℕ
chunks_or (Some (Chunks ns)) = ns
chunks_or _ = record { items = 8 ∷ 16 ∷ 32 ∷ 64 ∷ 128 ∷ 256 ∷ 512 ∷ 1024 ∷ 2048 ∷ [] }

abbrev pub sectors_or : List ℕ → Option Value → ArrayVec ℕ
sectors_or others (Some (Sectors ns)) = ns
sectors_or others _ = record { items = others }

abbrev pub places_or : Option Value → ArrayVec ℕ
places_or (Some (Places ns)) = ns
places_or _ = record { items = [] }

abbrev pub drops_or : Option Value → ArrayVec DropAt
drops_or (Some (Drops ds)) = ds
drops_or _ = record { items = [] }

abbrev pub kinds_or : Option Value → Kinds
kinds_or (Some (Landmarks xs)) = kinds_among xs.items
kinds_or _ = usual_kinds

abbrev pub form_or : Option Value → Form
form_or (Some (FormValue form)) = form
form_or _ = Text

abbrev pub lost_or : Option Value → Bool
lost_or (Some (Salvaged lost)) = lost
lost_or _ = false

abbrev pub marks_or : Option Value → Bool
marks_or (Some (Marks xfs)) = xfs
marks_or _ = false

abbrev pub each_or : Option Value → Bool
each_or (Some (Mode each)) = each
each_or _ = false

abbrev pub large_or : Option Value → Bool
large_or (Some (Logical large)) = large
large_or _ = false

-- the sectors of a block
abbrev pub unit_of : Bool → ℕ
unit_of large = if large then 8 else 1

-- the offsets that are tried
abbrev pub offsets_or : Option Value → ArrayVec ℕ
offsets_or offsets = sectors_or (0 ∷ 2048 ∷ 262144 ∷ 264192 ∷ []) offsets

-- the number of the operand of a name
abbrev pub number_or : ℕ → Option Value → ℕ
number_or other value = unwrap_or (number_in value) other

-- what a survey is asked for. The numbers of members are none where they were not given
abbrev pub bounds_of : List Operand → Bounds
bounds_of operands = record {
  levels = levels_or (value_of LevelsName operands);
  members = members_or (value_of MembersName operands);
  patterns = patterns_or (value_of PatternsName operands);
  delays = delays_or (value_of DelaysName operands);
  syndromes = syndromes_or (value_of SyndromesName operands);
  chunks = chunks_or (value_of ChunksName operands);
  offsets = offsets_or (value_of OffsetsName operands);
  missing = number_or 0 (value_of MissingName operands);
  foreign = number_or 0 (value_of ForeignName operands);
}

abbrev pub tests_of : List Operand → MarkTests
tests_of operands = record {
  origins = sectors_or (0 ∷ 2048 ∷ []) (value_of OriginsName operands);
  misfits = number_or 0 (value_of MisfitsName operands);
  least = number_or 1 (value_of LeastName operands);
}

abbrev pub survey_of : List Operand → ℕ → SurveyWords
survey_of operands names = record {
  bounds = bounds_of operands;
  end = number_in (value_of EndName operands);
  badrows = number_or 0 (value_of BadrowsName operands);
  window = number_in (value_of WindowName operands);
  tests = tests_of operands;
  kinds = kinds_or (value_of KindsName operands);
  drops = drops_or (value_of DropName operands);
  each = each_or (value_of ModeName operands);
  unit = unit_of (large_or (value_of LogicalName operands));
  names = names;
}

-- what `survey` asks for where no operand is given
unfoldable pub plain_survey : SurveyWords
plain_survey = survey_of [] 2

-- the images of a survey can have offsets of their own, by its `mode`, `foreign` and `offsets`: none of them is
-- foreign, and all offsets are below 2^54. That is asked only where they are to
abbrev pub can_move : Option Value → Option Value → Option Value → Bool
can_move mode foreign offsets = if each_or mode then nat_eq (number_or 0 foreign) 0 && list_all (λ n. nat_lt n (2 ^ 54)) (offsets_or offsets).items else true

-- the page of mirrors that is asked for. The numbers of members are none where they were not given
abbrev pub mirrors_of : List Operand → ℕ → Command
mirrors_of operands names =
    MirrorsCommand (layouts_or (value_of LayoutsName operands)) (members_or (value_of MembersName operands)) (chunks_or (value_of ChunksName operands)) (offsets_or (value_of OffsetsName operands))
    (number_or 0 (value_of MissingName operands)) (number_or 0 (value_of ForeignName operands)) (number_or 0 (value_of BadrowsName operands))
    (number_in (value_of WindowName operands)) (number_in (value_of EndName operands))
    (number_or 0 (value_of FromName operands)) (number_or 100 (value_of SizeName operands)) (number_or (2 ^ 64 - 1) (value_of SpanName operands)) names

-- what `relations` is asked for
abbrev pub relations_of : List Operand → ℕ → RelationWords
relations_of operands names = record {
  from = number_or 0 (value_of FromName operands);
  end = number_in (value_of EndName operands);
  step = number_in (value_of StepName operands);
  offsets = places_or (value_of OffsetsName operands);
  form = form_or (value_of FormName operands);
  names = names;
}

-- the command with these operands and `names` words up to the names, unless an operand is missing that it
-- asks for. The images of a survey can have offsets of their own where they are to. A listing has 4,000,000 lines at most on all its pages together
abbrev pub command_of : Verb → List Operand → ℕ → Option Command
command_of Survey operands names =
    if can_move (value_of ModeName operands) (value_of ForeignName operands) (value_of OffsetsName operands) then Some (SurveyCommand (survey_of operands names)) else None
command_of ListVerb operands names =
    if nat_le (number_or 100 (value_of SizeName operands) * number_or 1 (value_of PagesName operands)) 4000000
    then Some (ListCommand (number_or 0 (value_of FromName operands)) (number_or 100 (value_of SizeName operands)) (number_or (2 ^ 64 - 1) (value_of SpanName operands)) (number_or 1 (value_of PagesName operands)) (form_or (value_of FormName operands)) names)
    else None
command_of Check operands names = option_map (λ set. CheckCommand set names) (set_in (value_of SetName operands))
command_of Map operands names =
    option_and_then (λ set. option_map (λ sector. MapCommand set sector (number_in (value_of EndName operands)) names) (number_in (value_of SectorName operands))) (set_in (value_of SetName operands))
command_of Write operands names = option_map (λ set. WriteCommand set (number_in (value_of EndName operands)) names) (set_in (value_of SetName operands))
command_of Rebuild operands names =
    option_and_then (λ set. option_map (λ slot. RebuildCommand set slot (number_in (value_of EndName operands)) names) (number_in (value_of SlotName operands))) (set_in (value_of SetName operands))
command_of Sample operands names =
    option_and_then (λ number. option_and_then (λ set. option_map (λ rows. SampleCommand number set rows (marks_or (value_of MarksName operands))) (number_in (value_of RowsName operands))) (set_in (value_of SetName operands))) (number_in (value_of NumberName operands))
command_of Classes operands names =
    option_and_then (λ images. option_map (λ end. ClassesCommand images end) (number_in (value_of EndName operands))) (number_in (value_of ImagesName operands))
command_of Mirrors operands names = Some (mirrors_of operands names)
command_of MirrorWrite operands names = option_map (λ set. MirrorWriteCommand set (number_in (value_of EndName operands)) names) (mirror_in (value_of SetName operands))
command_of Salvage operands names = option_map (λ set. SalvageCommand set (lost_or (value_of FormName operands)) (number_in (value_of EndName operands)) names) (set_in (value_of SetName operands))
command_of Relations operands names = Some (RelationsCommand (relations_of operands names))

-- names may follow the `--` of each command but `sample` and `classes`
abbrev pub takes_names : Verb → Bool
takes_names Sample = false
takes_names Classes = false
takes_names _ = true

abbrev pub MayFollow : List (List ℕ) → Verb → Type 0
MayFollow names verb = takes_names verb ≡ false → names ≡ []

-- a command, operands, `--` and names
abbrev pub line_of : Verb → List Operand → List (List ℕ) → List (List ℕ)
line_of verb operands names = verb_word verb ∷ (map operand_word operands ++ codes "--" ∷ names)

-- the words are a command with its operands, in any order, `--` and the names of the images
pub record HasOperands (words : List (List ℕ)) (command : Command) : Type 0 where
  pub verb : Verb
  pub operands : List Operand
  pub names : List (List ℕ)
  pub spelled : words ≡ line_of verb operands names
  pub are : AreOperands verb operands
  pub follow : MayFollow names verb
  pub says : command_of verb operands (length operands + 2) ≡ Some command

-- the word asks how the program is used
abbrev pub AsksHelp : List ℕ → Type 0
AsksHelp word = (word ≡ codes "--help") ⊎ (word ≡ codes "-h") ⊎ (word ≡ codes "help")

-- the word asks for this alone
abbrev pub SaysAlone : List ℕ → Command → Type 0
SaysAlone word Help = AsksHelp word
SaysAlone word Version = word ≡ codes "--version"
SaysAlone word _ = ⊥

abbrev pub IsAlone : List (List ℕ) → Command → Type 0
IsAlone words command = (word : List ℕ) × (words ≡ word ∷ []) × SaysAlone word command

-- the words are a command with what belongs to it, or one word that asks for something alone
abbrev pub IsCommandLine : List (List ℕ) → Command → Type 0
IsCommandLine words command = HasOperands words command ⊎ IsAlone words command

-- with some words after them, these are a command with what belongs to it
abbrev pub BeginsLine : List (List ℕ) → Type 0
BeginsLine start = (rest : List (List ℕ)) × (command : Command) × HasOperands (start ++ rest) command

-- word n, counted from 1, is the refused one: with those before it some command with what belongs to it begins, and with it
-- none. Where all begin one but are none, it is the word after the last. So a word that asks for something alone is refused where another
-- follows it
pub record IsRefusedWord (words : List (List ℕ)) (n : ℕ) : Type 0 where
  pub counted : (1 ≤ n) × (n ≤ length words + 1)
  pub begins : BeginsLine (take (n - 1) words)
  pub stops : n ≤ length words → BeginsLine (take n words) → ⊥
  pub none : (command : Command) → IsCommandLine words command → ⊥

-- what the words are: a command, or a list that is refused at a word
abbrev pub Reads : List (List ℕ) → Result Command ℕ → Type 0
Reads words (Ok command) = IsCommandLine words command
Reads words (Err n) = IsRefusedWord words n

-- the words after the first `--`: the names of the images
abbrev pub names_after : List (List ℕ) → List (List ℕ)
names_after [] = []
names_after (word ∷ words) = if bytes_eq word (codes "--") then words else names_after words

-- the names are the last words, from the one of this number on
abbrev pub EndFrom : List (List ℕ) → ℕ → Type 0
EndFrom words names = (names ≤ length words) × (names_after words ≡ drop names words)

-- how many words a command has up to the names of its images. `sample`, `classes` and what a word asks for alone have no names
abbrev pub names_of : Command → Option ℕ
names_of (SurveyCommand asked) = Some asked.names
names_of (ListCommand from size span pages form names) = Some names
names_of (CheckCommand set names) = Some names
names_of (MapCommand set sector end names) = Some names
names_of (WriteCommand set end names) = Some names
names_of (RebuildCommand set slot end names) = Some names
names_of (SampleCommand number set rows xfs) = None
names_of (ClassesCommand images end) = None
names_of (MirrorsCommand layouts members chunks offsets missing foreign badrows window end from size span names) = Some names
names_of (MirrorWriteCommand set end names) = Some names
names_of (SalvageCommand set lost end names) = Some names
names_of (RelationsCommand asked) = Some asked.names
names_of Help = None
names_of Version = None

-- the names of a command's images are the last words, from the one of this number on, or there are none
abbrev pub EndsInNames : List (List ℕ) → Command → Type 0
EndsInNames words command = MatchOption (names_of command) (names_after words ≡ []) (EndFrom words)

-- what a survey is asked for is within the limits of a plan, whatever numbers of members it then takes
pub record AreAsked (asked : SurveyWords) : Type 0 where
  pub bounds : (members : ArrayVec ℕ) → AreMembers members.items → AreBounds (record asked.bounds { members = members })
  pub members : (asked.bounds.members.items ≡ []) ⊎ AreMembers asked.bounds.members.items
  pub end : IfSome asked.end (λ n. n < 2 ^ 55)
  pub badrows : asked.badrows < 2 ^ 55
  pub window : IfSome asked.window (λ n. (1 ≤ n) × (n < 2 ^ 55))
  pub tests : AreTests asked.tests
  pub kinds : IsTrue (some_asked asked.kinds)
  pub drops : (asked.drops.items ≡ []) ⊎ AreDrops asked.drops.items
  pub each : asked.each ≡ true → (asked.bounds.foreign ≡ 0) × All (λ n. n < 2 ^ 54) asked.bounds.offsets.items
  pub unit : (asked.unit ≡ 1) ⊎ (asked.unit ≡ 8)

-- what mirrors are asked for is within the limits of the words
pub record AreMirrors (ways : List CopyLayout) (counts sizes places : List ℕ) (empty others torn : ℕ) (top last : Option ℕ) (lines ranks : ℕ) : Type 0 where
  pub layouts : AreLayouts ways
  pub members : (counts ≡ []) ⊎ AreMembers counts
  pub chunks : AreChunks sizes
  pub offsets : AreSectors 64 places
  pub missing : empty ≤ MOST - 1
  pub foreign : others ≤ MOST
  pub badrows : torn < 2 ^ 55
  pub window : IfSome top (λ n. (1 ≤ n) × (n < 2 ^ 55))
  pub end : IfSome last (λ n. n < 2 ^ 55)
  pub size : (1 ≤ lines) × (lines ≤ 1000000)
  pub span : 1 ≤ ranks

-- what relations are asked for is within the limits of the words
pub record AreRelations (asked : RelationWords) : Type 0 where
  pub from : asked.from < 2 ^ 55
  pub end : IfSome asked.end (λ n. n < 2 ^ 55)
  pub step : IfSome asked.step (λ n. (1 ≤ n) × (n < 2 ^ 55))
  pub offsets : (asked.offsets.items ≡ []) ⊎ ArePlaces asked.offsets.items

-- the values of a command are within the limits of its operands
abbrev pub IsWithin : Command → Type 0
IsWithin (SurveyCommand asked) = AreAsked asked
IsWithin (ListCommand from size span pages form names) = (1 ≤ size) × (size ≤ 1000000) × (1 ≤ span) × (1 ≤ pages) × (pages ≤ 1000000) × (size * pages ≤ 4000000)
IsWithin (CheckCommand set names) = HasWord set
IsWithin (MapCommand set sector end names) = HasWord set × IfSome end (λ n. n < 2 ^ 55)
IsWithin (WriteCommand set end names) = HasWord set × IfSome end (λ n. n < 2 ^ 55)
IsWithin (RebuildCommand set slot end names) = HasWord set × (slot < MOST) × IfSome end (λ n. n < 2 ^ 55)
IsWithin (SampleCommand number set rows xfs) = HasWord set × (1 ≤ rows) × (rows ≤ 65536)
IsWithin (ClassesCommand images end) = (1 ≤ images) × (images ≤ MOST) × (end < 2 ^ 55)
IsWithin (MirrorsCommand layouts members chunks offsets missing foreign badrows window end from size span names) = AreMirrors layouts.items members.items chunks.items offsets.items missing foreign badrows window end size span
IsWithin (MirrorWriteCommand set end names) = HasNearWord set × IfSome end (λ n. n < 2 ^ 55)
IsWithin (SalvageCommand set lost end names) = HasWord set × IfSome end (λ n. n < 2 ^ 55)
IsWithin (RelationsCommand asked) = AreRelations asked
IsWithin Help = Unit {0}
IsWithin Version = Unit {0}
