-- What `salvage` refuses and prints.
use Rattle.std.specs.Prelude.{ℕ, ◌+◌, ◌≡◌, ◌≤◌, Bool, true, false, not, nat_lt, length, if◌then◌else◌, List, [], ◌∷◌, Result, Ok, Err, IfSome}
use Rattle.std.specs.Option.{option_map}
use Rattle.std.specs.declared.option.Option.{Option}
use Rattle.std.specs.declared.option.Option.TheVariants.{None, Some}
use Rattle.outside.specs.Seen.{Image}
use Rattle.raid_params.specs.Size.{volume_sectors}
use Rattle.raid_params.specs.Wide.{wide_fault}
use Rattle.raid_params.specs.declared.wide.Wide.{Wide}
use Rattle.raid_params.specs.declared.wide.WideFault.{WideFault}
use Rattle.raid_params.specs.declared.wide.WideFault.TheVariants.{Geo, Bases as BadBases}
use Rattle.rescue_map.specs.LostText.{lost_text}
use Rattle.rescue_map.specs.Salvaged.{IsSalvaged, reads_for_all, salvaged}
use Rattle.rescue_text.specs.RescueText.{rescue_sections}
use Rattle.rescue_text.specs.declared.fault.RescueFault.{RescueFault}
use Rattle.rescue_text.specs.declared.fault.RescueFault.TheVariants.{Line, Memory}
use Rattle.rescue_text.specs.declared.section.Section.{Section}
use Rattle.run_ends.specs.Agreement.{end_of}
use Rattle.run_ends.specs.Jobs.{Job}
use Rattle.run_ends.specs.Pieces.Pieces.{Sectors}
use Rattle.run_ends.specs.Stops.{first_of}
use Rattle.run_ends.specs.declared.stop.Refusal.{Refusal}
use Rattle.run_ends.specs.declared.stop.Refusal.TheVariants.{Set, Bases, RescueLine, RescueIsLong}
use Rattle.run_ends.specs.declared.stop.Stop.{Stop}
use Rattle.run_ends.specs.declared.stop.Stop.TheVariants.{Refused, SourceFault, OutOfMemory}
use Rattle.salvage_job.specs.declared.salvaging.Ready.{Ready}
use Rattle.set_jobs.specs.Mapping.{images_refusal}
use Rattle.set_jobs.specs.Writing.{told_for}

-- a text is no rescue text from a line on
abbrev pub line_refusal : Result (List Section) RescueFault → Option Refusal
line_refusal (Ok sections) = None
line_refusal (Err (Line number)) = Some (RescueLine number)
line_refusal (Err Memory) = None

-- the text is too long, or no rescue text of so many images
unfoldable pub text_refusal : ℕ → List ℕ → Option Refusal
text_refusal names text = if nat_lt 4194304 (length text) then Some RescueIsLong else line_refusal (rescue_sections names text)

-- the rule that the set breaks; that on its bases is the last one
abbrev pub rule_refusal : WideFault → Refusal
rule_refusal (Geo fault) = Set fault
rule_refusal (BadBases count) = Bases count

-- the first refusal: the images, the text, then the rules of the set
unfoldable pub salvage_refusal : Wide → Option ℕ → List ℕ → ℕ → List Image → Option Refusal
salvage_refusal set end text names attached =
    first_of (images_refusal set end names attached
    ∷ text_refusal names text
    ∷ option_map rule_refusal (wide_fault set names (end_of end attached))
    ∷ [])

-- the text of what is lost, or the volume, over the bytes of the images where they are known
abbrev pub salvage_output : Wide → Bool → Option ℕ → List Image → Result (List Section) RescueFault → Option (List ℕ)
salvage_output set true end attached (Ok sections) = Some (lost_text sections set (end_of end attached))
salvage_output set false end attached (Ok sections) = option_map (λ images. salvaged images sections set (end_of end attached)) (told_for set attached)
salvage_output set lost end attached (Err fault) = None

-- the most sectors that are read: none for the text of what is lost; for the volume one for each sector that is there, the
-- known cells of its row for each that is found, and none for one that is lost
abbrev pub salvage_reads : Wide → Bool → Option ℕ → List Image → Result (List Section) RescueFault → ℕ
salvage_reads set true end attached (Ok sections) = 0
salvage_reads set false end attached (Ok sections) = reads_for_all sections set 0 (volume_sectors set.geo.head (end_of end attached))
salvage_reads set lost end attached (Err fault) = 0

-- `salvage`: it puts the volume as it reads; the text of what is lost it puts whole, and reads no image for it. The images are refused
-- before its source is touched
abbrev pub salvage_job : Wide → Bool → Option ℕ → Job
salvage_job set lost end = record {
  Said = List ℕ;
  Says = λ left said. left ≡ Some said;
  most = Some 4194304;
  early = λ given. images_refusal set end given.names given.attached;
  streams = not lost;
  pieces = Sectors;
  apart = false;
  refused = λ said given. salvage_refusal set end said given.names given.attached;
  printed = λ said given. salvage_output set lost end given.attached (rescue_sections given.names said);
  MayRead = λ said given cut before after. after ≤ before + salvage_reads set lost end given.attached (rescue_sections given.names said);
}

-- why work on the text that a source has left does not begin: the text is refused so, the source failed, or memory ran out
abbrev pub CannotBegin : (List ℕ → Option Refusal) → Option (List ℕ) → Stop → Type 0
CannotBegin refused left (Refused refusal) = IfSome left (λ text. refused text ≡ Some refusal)
CannotBegin refused left SourceFault = Unit {0}
CannotBegin refused left OutOfMemory = Unit {0}
CannotBegin refused left _ = ⊥

-- why a source gives no rescue of so many images
abbrev pub IsUnrescued : ℕ → Option (List ℕ) → Stop → Type 0
IsUnrescued names = CannotBegin (text_refusal names)

-- why a text gives none
abbrev pub IsUnreadable : ℕ → List ℕ → Stop → Type 0
IsUnreadable names text (Refused refusal) = line_refusal (rescue_sections names text) ≡ Some refusal
IsUnreadable names text OutOfMemory = Unit {0}
IsUnreadable names text _ = ⊥

-- nothing is refused: the end of the members, and what was read of the images
pub record IsReady (set : Wide) (end : Option ℕ) (names : ℕ) (attached : List Image) (left : Option (List ℕ)) (ready : Ready) : Type 0 where
  pub end_is : ready.end ≡ end_of end attached
  pub images : images_refusal set end names attached ≡ None
  pub allowed : IfSome left (λ text. salvage_refusal set end text names attached ≡ None)
  pub sections : IfSome left (λ text. rescue_sections names text ≡ Ok ready.rescue)
  pub salvaged : IsSalvaged set ready.end attached

-- why the work does not begin
abbrev pub IsUnready : Wide → Option ℕ → ℕ → List Image → Option (List ℕ) → Stop → Type 0
IsUnready set end names attached = CannotBegin (λ text. salvage_refusal set end text names attached)
