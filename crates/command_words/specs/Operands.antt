-- The operands of commands: their names, their values and limits, and how they are spelled.
use Rattle.std.specs.Prelude.{ℕ, ◌≡◌, ◌≤◌, ◌+◌, ◌^◌, ◌-◌, Bool, true, false, IsTrue, List, [], ◌∷◌, ◌++◌, length, map, All, Contains, codes, decimal, if◌then◌else◌}
use Rattle.std.specs.List.{IsDistinct}
use Rattle.std.specs.Str.{bytes_eq}
use Rattle.std.specs.declared.option.Option.{Option}
use Rattle.std.specs.declared.option.Option.TheVariants.{None, Some}
use Rattle.arrayvec.specs.ArrayVec.{ArrayVec}
use Rattle.raid_params.specs.declared.limits.TheConstants.{MOST, MOST_LEVELS, MOST_MISSING, MOST_PATTERNS, MOST_SYNDROMES}
use Rattle.raid_params.specs.declared.types.Level.{Level}
use Rattle.raid_params.specs.declared.types.Pattern.{Pattern}
use Rattle.raid_params.specs.declared.types.Syndrome.{Syndrome}
use Rattle.raid_params.specs.declared.wide.Wide.{Wide}
use Rattle.near_mirror.specs.Heads.{are_copies}
use Rattle.near_mirror.specs.Words.{HasNearWord, layout_name, near_word}
use Rattle.near_mirror.specs.declared.types.CopyLayout.{CopyLayout}
use Rattle.near_mirror.specs.declared.types.Copying.{Copying}
use Rattle.near_mirror.specs.declared.types.Copying.TheVariants.{Near, Far, Offset}
use Rattle.near_mirror.specs.declared.types.NearSet.{NearSet}
use Rattle.value_text.specs.SetText.{HasWord, set_word}
use Rattle.value_text.specs.Bounded.{AreChunks, AreDelays, AreMembers, ArePlaces, AreSectors}
use Rattle.value_text.specs.Spelling.{level_name, pattern_name, syndrome_name, commas, pluses}
use Rattle.landmark_text.specs.Names.{IsDrop, group_name, drop_name, drop_place}
use Rattle.raid_params.specs.Places.{level_place, pattern_place, syndrome_place, AreRising}
use Rattle.mark_kinds.specs.declared.table.DropAt.{DropAt}
use Rattle.mark_kinds.specs.Table.{group_place}
use Rattle.mark_kinds.specs.declared.table.TheConstants.{GROUP_COUNT}
use Rattle.command_words.specs.declared.command.Form.{Form}
use Rattle.command_words.specs.declared.command.Form.TheVariants.{Text, Json}
use Rattle.command_words.specs.declared.command.Verb.{Verb}
use Rattle.command_words.specs.declared.command.Verb.TheVariants.{Survey, List as ListVerb, Check, Map, Write, Rebuild, Sample, Classes, Mirrors, MirrorWrite, Salvage, Relations}
use Rattle.mark_kinds.specs.declared.table.GroupKind.{GroupKind}
use Rattle.command_words.specs.declared.operands.Operand.{Operand}
use Rattle.command_words.specs.declared.table.Name.{Name}
use Rattle.command_words.specs.declared.table.Name.TheVariants.{Levels as LevelsName, Members as MembersName, Patterns as PatternsName, Delays as DelaysName, Syndromes as SyndromesName, Chunks as ChunksName, Offsets as OffsetsName, Origins as OriginsName, Missing as MissingName, Foreign as ForeignName, Badrows as BadrowsName, Misfits as MisfitsName, Least as LeastName, Window as WindowName, End as EndName, Kinds as KindsName, Dropped as DropName, From as FromName, Size as SizeName, Span as SpanName, Pages as PagesName, Form as FormName, Set as SetName, Sector as SectorName, Slot as SlotName, Number as NumberName, Rows as RowsName, Marks as MarksName, Images as ImagesName, Mode as ModeName, Logical as LogicalName, Step as StepName, Layouts as LayoutsName}
use Rattle.command_words.specs.declared.table.ValueKind.{ValueKind}
use Rattle.command_words.specs.declared.table.ValueKind.TheVariants.{Number as NumberKind, Levels as LevelsKind, Members as MembersKind, Patterns as PatternsKind, Delays as DelaysKind, Syndromes as SyndromesKind, Chunks as ChunksKind, Sectors as SectorsKind, Places as PlacesKind, Landmarks as LandmarksKind, Drops as DropsKind, Form as FormKind, Salvaged as SalvagedKind, Marks as MarksKind, Set as SetKind, Mirror as MirrorKind, Layouts as LayoutsKind, Mode as ModeKind, Logical as LogicalKind}
use Rattle.command_words.specs.declared.values.Value.{Value}
use Rattle.command_words.specs.declared.values.Value.TheVariants.{Number, Levels, Members, Patterns, Delays, Syndromes, Chunks, Sectors, Places, Landmarks, Drops, Form as FormValue, Salvaged, Marks, Set, Mirror, Layouts, Mode, Logical}

abbrev pub name_text : Name → List ℕ
name_text LevelsName = codes "levels"
name_text MembersName = codes "members"
name_text PatternsName = codes "patterns"
name_text DelaysName = codes "delays"
name_text SyndromesName = codes "syndromes"
name_text ChunksName = codes "chunks"
name_text OffsetsName = codes "offsets"
name_text OriginsName = codes "origins"
name_text MissingName = codes "missing"
name_text ForeignName = codes "foreign"
name_text BadrowsName = codes "badrows"
name_text MisfitsName = codes "misfits"
name_text LeastName = codes "least"
name_text WindowName = codes "window"
name_text EndName = codes "end"
name_text KindsName = codes "kinds"
name_text DropName = codes "drop"
name_text FromName = codes "from"
name_text SizeName = codes "size"
name_text SpanName = codes "span"
name_text PagesName = codes "pages"
name_text FormName = codes "form"
name_text SetName = codes "set"
name_text SectorName = codes "sector"
name_text SlotName = codes "slot"
name_text NumberName = codes "number"
name_text RowsName = codes "rows"
name_text MarksName = codes "marks"
name_text ImagesName = codes "images"
name_text ModeName = codes "mode"
name_text LogicalName = codes "logical"
name_text StepName = codes "step"
name_text LayoutsName = codes "layouts"

-- the most empty slots: of a mirror all but one, since which of them leave each chunk a copy depends on its layout
abbrev pub most_missing : Verb → ℕ
most_missing Mirrors = MOST - 1
most_missing _ = MOST_MISSING

-- the largest `from`: that of `relations` is a row, which lies where a sector may; any other is a rank
abbrev pub most_from : Verb → ℕ
most_from Relations = 2 ^ 55 - 1
most_from _ = 2 ^ 64 - 1

-- what `offsets` are: `relations` takes one for each image, and not places to try
abbrev pub offsets_kind : Verb → ValueKind
offsets_kind Relations = PlacesKind
offsets_kind _ = SectorsKind

-- what a `set` is: `mirrorwrite` takes that of a mirror
abbrev pub set_kind : Verb → ValueKind
set_kind MirrorWrite = MirrorKind
set_kind _ = SetKind

-- what a `form` is: `salvage` has forms of its own
abbrev pub form_kind : Verb → ValueKind
form_kind Salvage = SalvagedKind
form_kind _ = FormKind

-- what values an operand of a command takes
abbrev pub kind_of : Verb → Name → ValueKind
kind_of _ LevelsName = LevelsKind
kind_of _ MembersName = MembersKind
kind_of _ PatternsName = PatternsKind
kind_of _ DelaysName = DelaysKind
kind_of _ SyndromesName = SyndromesKind
kind_of _ ChunksName = ChunksKind
kind_of verb OffsetsName = offsets_kind verb
kind_of _ OriginsName = SectorsKind
kind_of verb MissingName = NumberKind 0 (most_missing verb)
kind_of _ ForeignName = NumberKind 0 MOST
kind_of _ BadrowsName = NumberKind 0 (2 ^ 55 - 1)
kind_of _ MisfitsName = NumberKind 0 (2 ^ 55 - 1)
kind_of _ LeastName = NumberKind 0 (2 ^ 55 - 1)
kind_of _ WindowName = NumberKind 1 (2 ^ 55 - 1)
kind_of _ EndName = NumberKind 0 (2 ^ 55 - 1)
kind_of _ KindsName = LandmarksKind
kind_of _ DropName = DropsKind
kind_of verb FromName = NumberKind 0 (most_from verb)
kind_of _ SizeName = NumberKind 1 1000000
kind_of _ SpanName = NumberKind 1 (2 ^ 64 - 1)
kind_of _ PagesName = NumberKind 1 1000000
kind_of verb FormName = form_kind verb
kind_of verb SetName = set_kind verb
kind_of _ SectorName = NumberKind 0 (2 ^ 64 - 1)
kind_of _ SlotName = NumberKind 0 (MOST - 1)
kind_of _ NumberName = NumberKind 0 (2 ^ 64 - 1)
kind_of _ RowsName = NumberKind 1 65536
kind_of _ MarksName = MarksKind
kind_of _ ImagesName = NumberKind 1 MOST
kind_of _ ModeName = ModeKind
kind_of _ LogicalName = LogicalKind
kind_of _ StepName = NumberKind 1 (2 ^ 55 - 1)
kind_of _ LayoutsName = LayoutsKind

-- the operands that a command takes
abbrev pub operands_of : Verb → List Name
operands_of Survey = LevelsName ∷ MembersName ∷ PatternsName ∷ DelaysName ∷ SyndromesName ∷ ChunksName ∷ OffsetsName ∷ OriginsName ∷ MissingName ∷ ForeignName ∷ BadrowsName ∷ MisfitsName ∷ LeastName ∷ WindowName ∷ EndName ∷ KindsName ∷ DropName ∷ ModeName ∷ LogicalName ∷ []
operands_of ListVerb = FromName ∷ SizeName ∷ SpanName ∷ PagesName ∷ FormName ∷ []
operands_of Check = SetName ∷ []
operands_of Map = SetName ∷ SectorName ∷ EndName ∷ []
operands_of Write = SetName ∷ EndName ∷ []
operands_of Rebuild = SetName ∷ SlotName ∷ EndName ∷ []
operands_of Sample = NumberName ∷ SetName ∷ RowsName ∷ MarksName ∷ []
operands_of Classes = ImagesName ∷ EndName ∷ []
operands_of Mirrors = LayoutsName ∷ MembersName ∷ ChunksName ∷ OffsetsName ∷ MissingName ∷ ForeignName ∷ BadrowsName ∷ WindowName ∷ EndName ∷ FromName ∷ SizeName ∷ SpanName ∷ []
operands_of MirrorWrite = SetName ∷ EndName ∷ []
operands_of Salvage = SetName ∷ FormName ∷ EndName ∷ []
operands_of Relations = FromName ∷ EndName ∷ StepName ∷ OffsetsName ∷ FormName ∷ []

abbrev pub form_text : Form → List ℕ
form_text Text = codes "text"
form_text Json = codes "json"

-- what is salvaged: the volume, or the text of what of it is lost
abbrev pub salvaged_text : Bool → List ℕ
salvaged_text false = codes "data"
salvaged_text true = codes "lost"

-- the landmarks of a generated array: none, or those of an XFS file system
abbrev pub marks_text : Bool → List ℕ
marks_text false = codes "none"
marks_text true = codes "xfs"

-- whether each image has an offset of its own, or all images of a set share one
abbrev pub mode_text : Bool → List ℕ
mode_text false = codes "common"
mode_text true = codes "each"

-- whether blocks of partition tables have 4,096 bytes, or 512
abbrev pub logical_text : Bool → List ℕ
logical_text false = codes "512"
logical_text true = codes "4096"

-- a list of values: it rises strictly, and has `most` at most. Where their kind has no more, that says nothing
pub record IsList {A : Type 0} (place : A → ℕ) (most : ℕ) (xs : List A) : Type 0 where
  pub rising : AreRising (map place xs)
  pub few : length xs ≤ most

-- sectors of images
pub record AreDrops (drops : List DropAt) : Type 0 where
  pub list : IsList drop_place 64 drops
  pub all : All IsDrop drops

-- where a layout of copies stands among all: near2, near3, near4, far2, far3, far4, offset2, offset3, offset4
abbrev pub first_place : Copying → ℕ
first_place Near = 0
first_place Far = 3
first_place Offset = 6

abbrev pub layout_place : CopyLayout → ℕ
layout_place layout = first_place layout.copying + layout.copies

-- layouts of two to four copies
pub record AreLayouts (layouts : List CopyLayout) : Type 0 where
  pub list : IsList layout_place 9 layouts
  pub all : All (λ layout. IsTrue (are_copies layout.copies)) layouts

-- the values of a kind
abbrev pub IsValueOf : Value → ValueKind → Type 0
IsValueOf value (NumberKind least most) = (n : ℕ) × (value ≡ Number n) × (least ≤ n) × (n ≤ most)
IsValueOf value LevelsKind = (xs : ArrayVec Level) × (value ≡ Levels xs) × IsList level_place MOST_LEVELS xs.items
IsValueOf value MembersKind = (ns : ArrayVec ℕ) × (value ≡ Members ns) × AreMembers ns.items
IsValueOf value PatternsKind = (xs : ArrayVec Pattern) × (value ≡ Patterns xs) × IsList pattern_place MOST_PATTERNS xs.items
IsValueOf value DelaysKind = (ns : ArrayVec ℕ) × (value ≡ Delays ns) × AreDelays ns.items
IsValueOf value SyndromesKind = (xs : ArrayVec Syndrome) × (value ≡ Syndromes xs) × IsList syndrome_place MOST_SYNDROMES xs.items
IsValueOf value ChunksKind = (ns : ArrayVec ℕ) × (value ≡ Chunks ns) × AreChunks ns.items
IsValueOf value SectorsKind = (ns : ArrayVec ℕ) × (value ≡ Sectors ns) × AreSectors 64 ns.items
IsValueOf value PlacesKind = (ns : ArrayVec ℕ) × (value ≡ Places ns) × ArePlaces ns.items
IsValueOf value LandmarksKind = (xs : ArrayVec GroupKind) × (value ≡ Landmarks xs) × IsList group_place GROUP_COUNT xs.items
IsValueOf value DropsKind = (ds : ArrayVec DropAt) × (value ≡ Drops ds) × AreDrops ds.items
IsValueOf value FormKind = (form : Form) × (value ≡ FormValue form)
IsValueOf value SalvagedKind = (lost : Bool) × (value ≡ Salvaged lost)
IsValueOf value MarksKind = (xfs : Bool) × (value ≡ Marks xfs)
IsValueOf value SetKind = (set : Wide) × (value ≡ Set set) × HasWord set
IsValueOf value MirrorKind = (set : NearSet) × (value ≡ Mirror set) × HasNearWord set
IsValueOf value LayoutsKind = (xs : ArrayVec CopyLayout) × (value ≡ Layouts xs) × AreLayouts xs.items
IsValueOf value ModeKind = (each : Bool) × (value ≡ Mode each)
IsValueOf value LogicalKind = (large : Bool) × (value ≡ Logical large)

-- how a value is spelled
abbrev pub value_text : Value → List ℕ
value_text (Number n) = decimal n
value_text (Levels xs) = commas (map level_name xs.items)
value_text (Members ns) = commas (map decimal ns.items)
value_text (Patterns xs) = commas (map pattern_name xs.items)
value_text (Delays ns) = commas (map decimal ns.items)
value_text (Syndromes xs) = commas (map syndrome_name xs.items)
value_text (Chunks ns) = commas (map decimal ns.items)
value_text (Sectors ns) = commas (map decimal ns.items)
value_text (Places ns) = pluses (map decimal ns.items)
value_text (Landmarks xs) = commas (map group_name xs.items)
value_text (Drops ds) = commas (map drop_name ds.items)
value_text (FormValue form) = form_text form
value_text (Salvaged lost) = salvaged_text lost
value_text (Marks xfs) = marks_text xfs
value_text (Set set) = set_word set
value_text (Mirror set) = near_word set
value_text (Layouts xs) = commas (map layout_name xs.items)
value_text (Mode each) = mode_text each
value_text (Logical large) = logical_text large

-- an operand is spelled NAME=VALUE
unfoldable pub operand_word : Operand → List ℕ
operand_word operand = name_text operand.name ++ 61 ∷ value_text operand.value

-- the value is one that the command's operand takes
abbrev pub IsFitting : Verb → Operand → Type 0
IsFitting verb operand = IsValueOf operand.value (kind_of verb operand.name)

abbrev pub AreFitting : Verb → List Operand → Type 0
AreFitting verb operands = All (IsFitting verb) operands

-- the command takes the operand
pub record IsOperand (verb : Verb) (operand : Operand) : Type 0 where
  pub taken : Contains (operands_of verb) operand.name
  pub fitting : IsFitting verb operand

abbrev pub same_name : Name → Name → Bool
same_name a b = bytes_eq (name_text a) (name_text b)

-- operands of a command, each name at most once
pub record AreOperands (verb : Verb) (operands : List Operand) : Type 0 where
  pub each : All (IsOperand verb) operands
  pub once : IsDistinct same_name (map (λ operand. operand.name) operands)

-- the value of the operand of a name
abbrev pub value_of : Name → List Operand → Option Value
value_of name [] = None
value_of name (operand ∷ operands) = if same_name operand.name name then Some operand.value else value_of name operands
