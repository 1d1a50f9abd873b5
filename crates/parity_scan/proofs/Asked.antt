-- What is read for the tallies that ask.
use Rattle.std.proofs.Common.{◌≡◌, ℕ, ◌+◌, ◌*◌, ◌<◌, ◌≤◌, true, inl, inr, List, [], length, get_or, ap, subst, sym, ◌∙◌, arith, Option, Some, None, All, IfSome}
use Rattle.std.specs.Option.{is_none, is_some}
use Rattle.std.proofs.lemmas.Bool.{cases_lt}
use Rattle.std.proofs.lemmas.List.Sums.{count_by-le-length}
use Rattle.std.proofs.Math.ListN.{get_or-eq_default}
use Rattle.std.proofs.Math.Nat.{mul-le-mul_right}
use Rattle.outside.specs.Attached.{told_all}
use Rattle.outside.specs.Seen.{Image, Seen, OnlyReads}
use Rattle.outside.proofs.Reading.{reads_up}
use Rattle.raid_params.specs.declared.types.Geometry.{Geometry}
use Rattle.raid_terms.specs.Parity.{member_byte}
use Rattle.search_scope.specs.declared.scope.Scope.{Scope}
use Rattle.member_regions.specs.Members.{held}
use Rattle.member_regions.specs.Regions.{HoldRead, Room}
use Rattle.member_regions.proofs.IfTold.{if_told}
use Rattle.parity_scan.specs.ImageRows.{asks}
use Rattle.parity_scan.specs.Pass.{CanScan, HoldAsked}
use Rattle.parity_scan.specs.Wanted.{AreWanted}
use Rattle.parity_scan.specs.declared.runs.Run.{Run}
use Rattle.parity_scan.specs.declared.tally.Tally.{Tally}

-- a slot that holds an image is there
slot_there : (slots : List (Option ℕ)) (slot image : ℕ) → get_or slots slot None ≡ Some image → slot < length slots
slot_there slots slot image is =
    elim (cases_lt slot (length slots)) [
      | inl less ↦ less
      | inr more ↦ absurd (let none : get_or slots slot None ≡ None = get_or-eq_default slots None more in cc)
    ]

image_there : (slots : List (Option ℕ)) (n slot image : ℕ) → All (λ s. IfSome s (λ i. i < n)) slots → get_or slots slot None ≡ Some image → image < n
image_there slots n slot image all is =
    let below : IfSome (get_or slots slot None) (λ i. i < n) = all slot None (slot_there slots slot image is) in
    rw is at below

-- an image that an asking tally needs is wanted
stands_wanted : (scope : Scope) (sets : List Geometry) (tallies : List Tally) (run : Run) (slots : List (Option ℕ)) (n i slot image : ℕ) (d : Tally) (e : Geometry) →
    AreWanted scope sets tallies run slots n → image < n → i < length sets → asks scope (get_or sets i e) (get_or tallies i d) run ≡ true →
    get_or (get_or sets i e).slots.items slot None ≡ Some image → get_or slots image None ≡ Some image
stands_wanted scope sets tallies run slots n i slot image d e wanted below inside asking is =
    elim (wanted image below) [
      | inl stands ↦ stands.0
      | inr left ↦ absurd (left.1 i d e inside asking slot is)
    ]

-- the regions of the images that were read hold what the asking tallies need
hold_asked : (bytes : List (List ℕ)) (scope : Scope) (sets : List Geometry) (tallies : List Tally) (run : Run) (slots : List (Option ℕ)) (room : Room) →
    AreWanted scope sets tallies run slots (length slots) → All (λ geo. All (λ slot. IfSome slot (λ image. image < length slots)) geo.slots.items) sets →
    HoldRead bytes slots 0 room.stride run.first (512 * run.count) (length slots) room.bytes → HoldAsked bytes scope sets tallies run room
hold_asked bytes scope sets tallies run slots room are there hold = λ i d e inside asking slot image is y within.
    let below : image < length slots = image_there (get_or sets i e).slots.items (length slots) slot image (there i e inside) is in
    let stands = stands_wanted scope sets tallies run slots (length slots) i slot image d e are below inside asking is in
    let read = hold image y below within (ap is_none stands) in
    let place : 512 * (0 + run.first) + y ≡ 512 * run.first + y = omega arith in
    read ∙ ap (member_byte bytes 0 run.first y) stands ∙ ap (λ k. get_or (get_or bytes image []) k 0) place

-- so it is after a reading of the wanted images, where all bytes are known; the sets can be scanned over the images with which the scan began
pub wanted_held : (attached start : List Image) (scope : Scope) (sets : List Geometry) (tallies : List Tally) (run : Run) (wanted slots : List (Option ℕ)) (before room : Room) →
    CanScan scope sets start before → AreWanted scope sets tallies run wanted (length wanted) → length wanted ≡ length scope.lengths.items → slots ≡ wanted →
    IfSome (told_all attached) (λ bytes. HoldRead bytes slots 0 room.stride run.first (512 * run.count) (length slots) room.bytes) →
    IfSome (told_all attached) (λ bytes. HoldAsked bytes scope sets tallies run room)
wanted_held attached start scope sets tallies run wanted slots before room can are long same hold =
    let few : length wanted ≡ length start = long ∙ sym can.planned in
    let there : All (λ (geo : Geometry). All (λ (slot : Option ℕ). IfSome slot (λ image. image < length wanted)) geo.slots.items) sets =
    subst (λ (n : ℕ). All (λ (geo : Geometry). All (λ (slot : Option ℕ). IfSome slot (λ image. image < n)) geo.slots.items) sets) (sym few) can.there in
    let read : IfSome (told_all attached) (λ bytes. HoldRead bytes wanted 0 room.stride run.first (512 * run.count) (length wanted) room.bytes) =
    subst (λ (l : List (Option ℕ)). IfSome (told_all attached) (λ bytes. HoldRead bytes l 0 room.stride run.first (512 * run.count) (length l) room.bytes)) same hold in
    if_told (told_all attached) (λ bytes. HoldRead bytes wanted 0 room.stride run.first (512 * run.count) (length wanted) room.bytes)
    (λ bytes. HoldAsked bytes scope sets tallies run room) (λ bytes. hold_asked bytes scope sets tallies run wanted room are there) read

-- no more is read than of all images
pub reads_wanted : (old new : Seen) (slots : List (Option ℕ)) (images count : ℕ) → length slots ≡ images → OnlyReads old new (held slots * count) → OnlyReads old new (images * count)
unfolding held
reads_wanted old new slots images count few reads =
    let le : held slots ≤ images = omega (arith, count_by-le-length is_some slots) in
    reads_up old new reads (mul-le-mul_right count le)
