-- Lists of parameter sets, as a listing prints them.
use Rattle.std.specs.Prelude.{ℕ, ◌≡◌, ◌≢◌, ◌+◌, ◌^◌, ◌<◌, ◌≤◌, List, [], ◌∷◌, ◌++◌, length, All, codes, decimal, Result, Ok, Err}
use Rattle.std.specs.List.{filter_map, flat_map}
use Rattle.std.specs.declared.option.Option.{Option}
use Rattle.std.specs.declared.option.Option.TheVariants.{None, Some}
use Rattle.raid_params.specs.Validity.{first_fault}
use Rattle.raid_params.specs.declared.types.Geometry.{Geometry}
use Rattle.volume_classes.specs.declared.fault.ClassFault.{ClassFault}
use Rattle.volume_classes.specs.declared.fault.ClassFault.TheVariants.{Line, Memory}
use Rattle.volume_classes.specs.declared.reading.Told.{Told}
use Rattle.volume_classes.specs.declared.reading.Told.TheVariants.{Set, Next}
use Rattle.value_text.specs.SetText.{HasWord, common, set_line}
use Rattle.value_text.specs.Spelling.{line}

-- what a line of a set list tells: a set with its rank, or how far of all ranks a listing went
pub data Entry : Type 0 where
  SetAt : (rank : ℕ) → (geo : Geometry) → Entry
  NextAt : (next total : ℕ) → Entry

-- NAME PART of WHOLE
abbrev pub share_line : List ℕ → ℕ → ℕ → List ℕ
share_line name part whole = line (name ++ (decimal part ++ (codes " of " ++ decimal whole)))

-- RANK SETWORD, or next A of B
abbrev pub entry_line : Entry → List ℕ
entry_line (SetAt rank geo) = set_line rank (common geo)
entry_line (NextAt next total) = share_line (codes "next ") next total

abbrev pub set_of : Entry → Option Geometry
set_of (SetAt rank geo) = Some geo
set_of (NextAt next total) = None

-- the sets, in order
abbrev pub sets_in : List Entry → List Geometry
sets_in entries = filter_map set_of entries

-- numbers are below 2 ^ 64, and a set breaks no rule over so many images, whose members end before the image sector `end`
abbrev pub IsEntry : ℕ → ℕ → Entry → Type 0
IsEntry images end (SetAt rank geo) = (rank < 2 ^ 64) × HasWord (common geo) × (first_fault geo images end ≡ None)
IsEntry images end (NextAt next total) = (next < 2 ^ 64) × (total < 2 ^ 64)

-- what a set list may tell: at most 1,024 sets
pub record AreEntries (images end : ℕ) (entries : List Entry) : Type 0 where
  pub each : All (IsEntry images end) entries
  pub few : length (sets_in entries) ≤ 1024

-- the text of a set list
abbrev pub list_text : List Entry → List ℕ
list_text entries = flat_map entry_line entries

-- a text is no set list from the line of this number on, counted from 1: the lines before it are those of entries, something
-- follows, and it begins with the line of no further entry
pub record IsRefusedLine (images end : ℕ) (text : List ℕ) (number : ℕ) : Type 0 where
  pub before : List Entry
  pub are : AreEntries images end before
  pub number_is : number ≡ length before + 1
  pub rest : List ℕ
  pub text_is : text ≡ list_text before ++ rest
  pub some : 1 ≤ length rest
  pub refused : (entry : Entry) (more : List ℕ) → AreEntries images end (before ++ entry ∷ []) → rest ≢ entry_line entry ++ more

-- of B
pub record IsWhole (text : List ℕ) : Type 0 where
  pub total : ℕ
  pub fits : total < 2 ^ 64
  pub is : text ≡ codes "of " ++ decimal total

-- A of B
pub record IsShare (text : List ℕ) : Type 0 where
  pub next : ℕ
  pub fits : next < 2 ^ 64
  pub rest : List ℕ
  pub is : text ≡ decimal next ++ 32 ∷ rest
  pub whole : IsWhole rest

-- the set that a line told
abbrev pub told_set : Told → Option Geometry
told_set (Set geo) = Some geo
told_set Next = None

-- what adding the line of this number answers: it is that of an entry, whose set was added where it has one, or of none
-- that may be added; memory may be wanting
abbrev pub Adds : ℕ → ℕ → ℕ → List ℕ → List Geometry → List Geometry → Result (Unit {0}) ClassFault → Type 0
Adds images end number text old new (Ok _) =
    (entry : Entry) × IsEntry images end entry × (text ++ 10 ∷ [] ≡ entry_line entry) × (new ≡ old ++ sets_in (entry ∷ [])) × (length new ≤ 1024)
Adds images end number text old new (Err (Line refused)) =
    (refused ≡ number) × ((entry : Entry) → IsEntry images end entry → length (old ++ sets_in (entry ∷ [])) ≤ 1024 → text ++ 10 ∷ [] ≢ entry_line entry)
Adds images end number text old new (Err Memory) = Unit {0}

-- what adding a set from the line of this number answers
abbrev pub AddsSet : ℕ → Geometry → List Geometry → List Geometry → Result (Unit {0}) ClassFault → Type 0
AddsSet number geo old new (Ok _) = (new ≡ old ++ geo ∷ []) × (length new ≤ 1024)
AddsSet number geo old new (Err (Line refused)) = (refused ≡ number) × (1024 ≤ length old)
AddsSet number geo old new (Err Memory) = Unit {0}

-- what reading a set list answers: the sets of its entries, or its first refused line; memory may be wanting
pub record AreRead (images end : ℕ) (text : List ℕ) (sets : List Geometry) : Type 0 where
  pub entries : List Entry
  pub are : AreEntries images end entries
  pub text_is : text ≡ list_text entries
  pub sets_are : sets ≡ sets_in entries

abbrev pub ReadsSets : ℕ → ℕ → List ℕ → Result (List Geometry) ClassFault → Type 0
ReadsSets images end text (Ok sets) = AreRead images end text sets
ReadsSets images end text (Err (Line number)) = IsRefusedLine images end text number
ReadsSets images end text (Err Memory) = Unit {0}
