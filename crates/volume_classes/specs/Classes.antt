-- The classes of sets that give the same volume.
use Rattle.std.specs.Prelude.{ℕ, ◌≡◌, ◌<◌, ◌↔◌, List, [], ◌∷◌, ◌++◌, length, codes, slice_get, slice_index, Result, Ok, Err}
use Rattle.std.specs.declared.option.Option.TheVariants.{Some}
use Rattle.raid_params.specs.declared.types.Geometry.{Geometry}
use Rattle.value_text.specs.SetText.{common, set_line}
use Rattle.volume_classes.specs.Alike.{AreAlike}
use Rattle.volume_classes.specs.SetLists.{AreEntries, Entry, IsRefusedLine, list_text, sets_in, share_line}
use Rattle.volume_classes.specs.declared.fault.ClassFault.{ClassFault}
use Rattle.volume_classes.specs.declared.fault.ClassFault.TheVariants.{Line, Memory}

-- one of the first n numbers is this one
pub record StandsBelow (numbers : List ℕ) (n number : ℕ) : Type 0 where
  pub place : ℕ
  pub below : place < n
  pub is : slice_index numbers place ≡ number

-- the number of its class for each set: alike sets have the same number and others have not, a number comes first after all
-- below it, and there are `count` numbers
pub record AreClasses (images end : ℕ) (sets : List Geometry) (numbers : List ℕ) (count : ℕ) : Type 0 where
  pub many : length numbers ≡ length sets
  pub alike : (i j : ℕ) (one other : Geometry) → slice_get sets i ≡ Some one → slice_get sets j ≡ Some other →
      (slice_index numbers i ≡ slice_index numbers j) ↔ AreAlike one other images end
  pub in_order : (i number : ℕ) → i < length sets → number < slice_index numbers i → StandsBelow numbers i number
  pub count_is : (number : ℕ) → (number < count) ↔ StandsBelow numbers (length sets) number

-- a line for each set, with the number of its class
abbrev pub class_lines : List ℕ → List Geometry → List ℕ
class_lines (number ∷ numbers) (set ∷ sets) = set_line number (common set) ++ class_lines numbers sets
class_lines _ _ = []

-- the sets with their classes, and how many classes and sets there are
abbrev pub class_text : List Geometry → List ℕ → ℕ → List ℕ
class_text sets numbers count = class_lines numbers sets ++ share_line (codes "classes ") count (length sets)

-- the answer is that for the sets which the text of a set list tells
pub record IsClassed (images end : ℕ) (text answer : List ℕ) : Type 0 where
  pub entries : List Entry
  pub are : AreEntries images end entries
  pub text_is : text ≡ list_text entries
  pub numbers : List ℕ
  pub count : ℕ
  pub classes : AreClasses images end (sets_in entries) numbers count
  pub answer_is : answer ≡ class_text (sets_in entries) numbers count

-- the answer for a text: its sets with their classes, or its first refused line; memory may be wanting
abbrev pub Classes : ℕ → ℕ → List ℕ → Result (List ℕ) ClassFault → Type 0
Classes images end text (Ok answer) = IsClassed images end text answer
Classes images end text (Err (Line number)) = IsRefusedLine images end text number
Classes images end text (Err Memory) = Unit {0}
