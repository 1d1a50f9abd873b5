-- What is read of a member.
use Rattle.std.proofs.Common.{◌≡◌, ℕ, zero, suc, ◌+◌, ◌-◌, ◌*◌, ◌<◌, ◌≤◌, List, [], ◌∷◌, length, get_or, drop, refl, ap, sym, false, ◌∙◌, arith, IfSome, IsSomeAnd, OnOk, Result, Ok, Err, slice_get, None, Some}
use Rattle.std.specs.Prelude.{option_and_then, slice_range}
use Rattle.std.specs.Option.{is_none}
use Rattle.std.specs.declared.option.Option.{Option}
use Rattle.std.proofs.lemmas.List.{get_or-take, get_or-drop}
use Rattle.std.proofs.lemmas.Option.{slice_get-get_or}
use Rattle.outside.specs.Attached.{told_all}
use Rattle.outside.specs.Seen.{Image, AreTold}
use Rattle.outside.proofs.Told.{told_all_at, told_all_length}
use Rattle.raid_terms.specs.Parity.{member_byte}
use Rattle.member_regions.specs.Members.{Reaches}

-- an attached image has a number below their count
inside : (attached : List Image) (i m : ℕ) → IsSomeAnd (slice_get attached i) (λ image. m ≤ image.sectors) → i < length attached
inside [] i m h = absurd h
inside (image ∷ attached) zero m h = omega arith
inside (image ∷ attached) (suc i) m h = let rest = inside attached i m h in omega arith

-- a byte of a part of a list
part_byte : (bs to : List ℕ) (a y : ℕ) → to ≡ slice_range bs a (a + length to) → y < length to → get_or to y 0 ≡ get_or bs (a + y) 0
part_byte bs to a y e below =
    ap (λ l. get_or l y 0) e
    ∙ get_or-take (a + length to - a) (drop a bs) y 0 (omega arith)
    ∙ get_or-drop a bs y 0

-- the bytes of an image that is known
told_bytes : (attached : List Image) (all : List (List ℕ)) (i sector : ℕ) (to : List ℕ) → told_all attached ≡ Some all → i < length attached →
    AreTold attached i sector to → to ≡ slice_range (get_or all i []) (512 * sector) (512 * sector + length to)
told_bytes attached all i sector to e below told =
    let within : i < length all = omega (arith, told_all_length attached all e) in
    let bytes : option_and_then (λ image. image.bytes) (slice_get attached i) ≡ Some (get_or all i []) = told_all_at attached all i e ∙ slice_get-get_or all i [] within in
    rw bytes at told

read_told : (attached : List Image) (told : Option (List (List ℕ))) (i offset first : ℕ) (to : List ℕ) → told_all attached ≡ told → i < length attached →
    AreTold attached i (offset + first) to → IfSome told (λ bytes. (y : ℕ) → y < length to → get_or to y 0 ≡ member_byte bytes offset first y (Some i))
read_told attached None i offset first to e below are = tt
read_told attached (Some all) i offset first to e below are =
    λ y short. part_byte (get_or all i []) to (512 * (offset + first)) y (told_bytes attached all i (offset + first) to e below are) short

-- where the slot is known to hold the image
there : (told : Option (List (List ℕ))) (i offset first : ℕ) (held : Option ℕ) (to : List ℕ) → held ≡ Some i →
    IfSome told (λ bytes. (y : ℕ) → y < length to → get_or to y 0 ≡ member_byte bytes offset first y (Some i)) →
    IfSome told (λ bytes. (y : ℕ) → y < length to → is_none held ≡ false → get_or to y 0 ≡ member_byte bytes offset first y held)
there None i offset first held to is are = tt
there (Some bytes) i offset first held to is are = λ y below some. are y below ∙ ap (λ (o : Option ℕ). member_byte bytes offset first y o) (sym is)

-- the bytes read of a member are its own, where they are known
pub member_read : {E : Type 0} (attached : List Image) (i m offset first : ℕ) (held : Option ℕ) (result : Result (Unit {0}) E) (to : List ℕ) →
    held ≡ Some i → Reaches attached m held → OnOk result (AreTold attached i (offset + first) to) →
    OnOk result (IfSome (told_all attached) (λ bytes. (y : ℕ) → y < length to → is_none held ≡ false → get_or to y 0 ≡ member_byte bytes offset first y held))
member_read attached i m offset first held (Err e) to is holds are = tt
member_read attached i m offset first held (Ok v) to is holds are =
    let inner : Reaches attached m (Some i) = rw is at holds in
    there (told_all attached) i offset first held to is (read_told attached (told_all attached) i offset first to refl (inside attached i m inner) are)
