-- Laws of rescue texts.
use Rattle.std.specs.Prelude.{ℕ, ◌≡◌, ◌<◌, List, [], ◌∷◌}
use Rattle.std.specs.declared.result.Result.TheVariants.{Ok}
use Rattle.rescue_text.specs.declared.section.Section.{Section}
use Rattle.rescue_text.specs.Good.{AreSections}
use Rattle.rescue_text.specs.RescueText.{rescue_sections}

-- sections of images above one, and below one
abbrev pub AreAbove : ℕ → List Section → Type 0
AreAbove image [] = Unit {0}
AreAbove image (section ∷ sections) = (image < section.image) × AreAbove image sections

abbrev pub AreBelow : ℕ → List Section → Type 0
AreBelow image [] = Unit {0}
AreBelow image (section ∷ sections) = (section.image < image) × AreBelow image sections

-- each section is of an image below those of the sections after it
abbrev pub Rise : List Section → Type 0
Rise [] = Unit {0}
Rise (section ∷ sections) = AreAbove section.image sections × Rise sections

-- no image has two sections, and they stand in the order of the images
abbrev pub SectionsRise : Type 0
SectionsRise = (images : ℕ) (text : List ℕ) (sections : List Section) → rescue_sections images text ≡ Ok sections → Rise sections

-- each image is there
abbrev pub SectionsAreOfImages : Type 0
SectionsAreOfImages = (images : ℕ) (text : List ℕ) (sections : List Section) → rescue_sections images text ≡ Ok sections → AreBelow images sections

-- no byte lies in two blocks of a section, or between two of them
abbrev pub BlocksLieSideBySide : Type 0
BlocksLieSideBySide = (images : ℕ) (text : List ℕ) (sections : List Section) → rescue_sections images text ≡ Ok sections → AreSections sections
