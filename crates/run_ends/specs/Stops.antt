-- What a stop says: its status and its line.
use Rattle.std.specs.Prelude.{ℕ, ◌≡◌, ◌<◌, if◌then◌else◌, List, [], ◌∷◌, ◌++◌, codes, decimal, length, IfSome}
use Rattle.std.specs.declared.option.Option.{Option}
use Rattle.std.specs.declared.option.Option.TheVariants.{None, Some}
use Rattle.raid_params.specs.declared.types.GeoFault.{GeoFault}
use Rattle.raid_params.specs.declared.types.GeoFault.TheVariants.{Members, Pattern, Syndrome, Chunk, Image, Repeat, Missing, NoRow, Delay}
use Rattle.near_mirror.specs.declared.types.NearRule.{NearRule}
use Rattle.near_mirror.specs.declared.types.NearRule.TheVariants.{Members as NearMembers, Chunk as NearChunk, Image as NearImage, Repeat as NearRepeat, Missing as NearMissing, NoRow as NearNoRow, NoCopy as NearNoCopy}
use Rattle.raid_params.specs.Places.{pattern_place, syndrome_place}
use Rattle.raid_params.specs.Validity.{has_delay}
use Rattle.raid_params.specs.declared.types.Head.{Head}
use Rattle.run_ends.specs.declared.agreement.Kind.{Kind}
use Rattle.run_ends.specs.declared.agreement.Kind.TheVariants.{Count, Length, End, Offsets, Rows, Long}
use Rattle.run_ends.specs.declared.stop.Refusal.{Refusal}
use Rattle.run_ends.specs.declared.stop.Refusal.TheVariants.{Word, PlanLine, PlanIsLong, SetLine, SetsAreLong, RescueLine, RescueIsLong, Images, Many, Cursor, Set, Bases, Near, Slot, ArraySectors, VolumeSectors, Sector}
use Rattle.run_ends.specs.declared.stop.Stop.{Stop}
use Rattle.run_ends.specs.declared.stop.Stop.TheVariants.{Refused, ImageFault, SourceFault, OutFault, OutOfMemory}

-- the number of a set rule. The delay is looked at after all else, also after what a command asks of its set beside these
-- rules, which has the numbers from 9 to 12
abbrev pub rule_of : GeoFault → ℕ
rule_of (Members n) = 1
rule_of (Pattern p) = 2
rule_of (Syndrome s) = 3
rule_of (Chunk n) = 4
rule_of (Image n) = 5
rule_of (Repeat n) = 6
rule_of (Missing n) = 7
rule_of (NoRow n) = 8
rule_of (Delay n) = 13

-- the value that breaks it; a pattern and an order of Q by their places among their kind, from 0
abbrev pub value_of : GeoFault → ℕ
value_of (Members n) = n
value_of (Pattern p) = pattern_place p
value_of (Syndrome s) = syndrome_place s
value_of (Chunk n) = n
value_of (Image n) = n
value_of (Repeat n) = n
value_of (Missing n) = n
value_of (NoRow n) = n
value_of (Delay n) = n

-- the number of a rule of mirrors, in the order of these rules, and the value that breaks it
abbrev pub near_rule_of : NearRule → ℕ
near_rule_of (NearMembers n) = 21
near_rule_of (NearChunk n) = 22
near_rule_of (NearImage n) = 23
near_rule_of (NearRepeat n) = 24
near_rule_of (NearMissing n) = 25
near_rule_of (NearNoRow n) = 26
near_rule_of (NearNoCopy n) = 25

abbrev pub near_value_of : NearRule → ℕ
near_value_of (NearMembers n) = n
near_value_of (NearChunk n) = n
near_value_of (NearImage n) = n
near_value_of (NearRepeat n) = n
near_value_of (NearMissing n) = n
near_value_of (NearNoRow n) = n
near_value_of (NearNoCopy n) = n

-- what of the images disagrees, as it is printed
abbrev pub kind_text : Kind → List ℕ
kind_text Count = codes "count"
kind_text (Length image) = codes "length " ++ decimal image
kind_text End = codes "end"
kind_text Offsets = codes "offsets"
kind_text Rows = codes "rows"
kind_text (Long image) = codes "long " ++ decimal image

-- the line of a broken rule
abbrev pub rule_line : ℕ → ℕ → List ℕ
rule_line rule value = codes "reraid: set rule " ++ decimal rule ++ codes " value " ++ decimal value ++ codes "\n"

-- the status of each refusal, and its line on the notes
abbrev pub refusal_notice : Refusal → ℕ × List ℕ
refusal_notice (Word number) = (1, codes "reraid: word " ++ decimal number ++ codes " is not understood\n")
refusal_notice (PlanLine number) = (2, codes "reraid: plan line " ++ decimal number ++ codes " is not understood\n")
refusal_notice PlanIsLong = (3, codes "reraid: plan is longer than 4194304 bytes\n")
refusal_notice (SetLine number) = (13, codes "reraid: set line " ++ decimal number ++ codes " is not understood\n")
refusal_notice SetsAreLong = (3, codes "reraid: set list is longer than 4194304 bytes\n")
refusal_notice (RescueLine number) = (9, codes "reraid: rescue line " ++ decimal number ++ codes " is not understood\n")
refusal_notice RescueIsLong = (3, codes "reraid: rescue text is longer than 4194304 bytes\n")
refusal_notice (Images fault) =
    (4, codes "reraid: images: " ++ kind_text fault.kind ++ codes " given " ++ decimal fault.given ++ codes " planned " ++ decimal fault.planned ++ codes "\n")
refusal_notice Many = (5, codes "reraid: the product has more than 18446744073709551615 sets\n")
refusal_notice (Cursor fault) = (6, codes "reraid: cursor " ++ decimal fault.from ++ codes " is past " ++ decimal fault.total ++ codes "\n")
refusal_notice (Set fault) = (7, rule_line (rule_of fault) (value_of fault))
refusal_notice (Near fault) = (7, rule_line (near_rule_of fault) (near_value_of fault))
refusal_notice (Slot slot) = (7, rule_line 9 slot)
refusal_notice (ArraySectors sectors) = (7, rule_line 10 sectors)
refusal_notice (VolumeSectors sectors) = (7, rule_line 11 sectors)
refusal_notice (Bases count) = (7, rule_line 12 count)
refusal_notice (Sector fault) = (8, codes "reraid: sector " ++ decimal fault.sector ++ codes " of " ++ decimal fault.size ++ codes "\n")

-- a delay that does not suit the pattern is refused
abbrev pub delay_refusal : Head → Option Refusal
delay_refusal head = if has_delay head.pattern head.delay then None else Some (Set (Delay head.delay))

-- the status with which the program ends at a stop, and its line on the notes
abbrev pub notice_of : Stop → ℕ × List ℕ
notice_of (Refused refusal) = refusal_notice refusal
notice_of ImageFault = (10, codes "reraid: image read fault\n")
notice_of SourceFault = (11, codes "reraid: plan read fault\n")
notice_of OutFault = (12, codes "reraid: output fault\n")
notice_of OutOfMemory = (20, codes "reraid: out of memory\n")

abbrev pub status_of : Stop → ℕ
status_of stop = (notice_of stop).0

abbrev pub note_of : Stop → List ℕ
note_of stop = (notice_of stop).1

-- the stop is this refusal, or its cause is the outside or memory
abbrev pub EndsBy : Option Refusal → Stop → Type 0
EndsBy refused (Refused refusal) = refused ≡ Some refusal
EndsBy refused _ = Unit {0}

-- why the text of a source is wanting: it is longer than `most` bytes, which is refused so; the source failed; or memory ran out
abbrev pub IsTextless : ℕ → Refusal → Option (List ℕ) → Stop → Type 0
IsTextless most long left (Refused refusal) = (refusal ≡ long) × IfSome left (λ text. most < length text)
IsTextless most long left SourceFault = Unit {0}
IsTextless most long left OutOfMemory = Unit {0}
IsTextless most long left _ = ⊥

-- a stop that comes before anything outside is touched: a refusal, or want of memory
abbrev pub IsEarly : Stop → Type 0
IsEarly (Refused refusal) = Unit {0}
IsEarly OutOfMemory = Unit {0}
IsEarly _ = ⊥

-- the first refusal, of these in the order of work
abbrev pub first_of : List (Option Refusal) → Option Refusal
first_of [] = None
first_of (None ∷ refusals) = first_of refusals
first_of (Some refusal ∷ refusals) = Some refusal
