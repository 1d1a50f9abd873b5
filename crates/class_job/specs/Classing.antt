-- What `classes` refuses and prints.
use Rattle.std.specs.Prelude.{ℕ, ◌≡◌, ◌≤◌, nat_lt, if◌then◌else◌, true, false, List, length}
use Rattle.std.specs.declared.option.Option.{Option}
use Rattle.std.specs.declared.option.Option.TheVariants.{None, Some}
use Rattle.run_ends.specs.Jobs.{Job}
use Rattle.run_ends.specs.Pieces.Pieces.{Sectors}
use Rattle.run_ends.specs.declared.stop.Refusal.{Refusal}
use Rattle.run_ends.specs.declared.stop.Refusal.TheVariants.{SetLine, SetsAreLong}
use Rattle.run_ends.specs.declared.stop.Stop.{Stop}
use Rattle.run_ends.specs.declared.stop.Stop.TheVariants.{Refused, OutOfMemory}
use Rattle.volume_classes.specs.Classes.{IsClassed}
use Rattle.volume_classes.specs.SetLists.{IsRefusedLine}

-- what a text says as a list of sets: the text of its classes, or that it is none, and the line from which on it is none
pub data ListReading : Type 0 where
  Classed : (answer : List ℕ) → ListReading
  NoList : (number : ℕ) → ListReading

-- the text says this, of sets of so many images whose members end before an image sector
abbrev pub IsListOf : ℕ → ℕ → List ℕ → ListReading → Type 0
IsListOf images end text (Classed answer) = IsClassed images end text answer
IsListOf images end text (NoList number) = IsRefusedLine images end text number

-- of a text that is too long nothing is said
abbrev pub SaysList : ℕ → ℕ → List ℕ → ListReading → Type 0
SaysList images end text list = length text ≤ 4194304 → IsListOf images end text list

-- what the source says: its text, and what that is as a list of sets
pub record ListSaid : Type 0 where
  pub text : List ℕ
  pub list : ListReading

abbrev pub line_refusal : ListReading → Option Refusal
line_refusal (Classed answer) = None
line_refusal (NoList number) = Some (SetLine number)

-- the first refusal: the length of the text, then its lines
unfoldable pub list_refusal : ListSaid → Option Refusal
list_refusal said = if nat_lt 4194304 (length said.text) then Some SetsAreLong else line_refusal said.list

abbrev pub classes_of : ListReading → Option (List ℕ)
classes_of (Classed answer) = Some answer
classes_of (NoList number) = None

-- `classes`, of so many images whose members end before an image sector. It leaves the images alone
abbrev pub classes_job : ℕ → ℕ → Job
classes_job images end = record {
  Said = ListSaid;
  Says = λ left said. (left ≡ Some said.text) × SaysList images end said.text said.list;
  most = Some 4194304;
  early = λ given. None;
  streams = false;
  pieces = Sectors;
  apart = true;
  refused = λ said given. list_refusal said;
  printed = λ said given. classes_of said.list;
  MayRead = λ said given cut before after. after ≤ before;
}

-- why a text gives no classes: it is no list of sets from a line on, or memory ran out
abbrev pub IsListless : ℕ → ℕ → List ℕ → Stop → Type 0
IsListless images end text (Refused refusal) = (number : ℕ) × (refusal ≡ SetLine number) × IsRefusedLine images end text number
IsListless images end text OutOfMemory = Unit {0}
IsListless images end text _ = ⊥

-- a text says one thing as a list of sets
abbrev pub ListsHaveOneReading : Type 0
ListsHaveOneReading = (images end : ℕ) (text : List ℕ) (one other : ListReading) → IsListOf images end text one → IsListOf images end text other → one ≡ other
