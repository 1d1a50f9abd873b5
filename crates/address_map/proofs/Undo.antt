-- Places and homes undo each other.
use Rattle.std.proofs.Common.{◌≡◌, ℕ, ◌<◌, ◌⊎◌, inl, inr, sym, arith, ap, subst, ◌∙◌, refl, Option, Some, None, ◌/◌}
use Rattle.std.specs.Prelude.{IsTrue}
use Rattle.raid_params.specs.declared.types.Head.{Head}
use Rattle.raid_terms.specs.Address.{LiesAt, home_item}
use Rattle.raid_params.specs.Validity.{is_valid_head}
use Rattle.raid_terms.specs.Role.{HasRole, Item, P, Q}
use Rattle.raid_params.specs.Size.{area, volume_sectors}
use Rattle.raid_layouts.proofs.Levels.{just_item}
use Rattle.address_map.specs.Places.{IsPlace, IsHome, IsAt}
use Rattle.address_map.specs.Laws.{IsAtHome, PlacesAndHomesUndo, EachSectorHasOnePlace, EachSectorHasOneHome}
use Rattle.address_map.specs.declared.map.Home.{Home}
use Rattle.address_map.specs.declared.map.MemberPlace.{MemberPlace}
use Rattle.address_map.specs.declared.map.MemberPlace.TheVariants.{Outside, Parity, At}
use Rattle.address_map.proofs.Lies.{lies_on, lies_once, one_slot, slot_in, inside, inside_back}

-- what lies at a volume sector is not on parity
not_parity : (head : Head) (slot sector v : ℕ) → IsTrue (is_valid_head head) → LiesAt head slot sector v →
    (HasRole head (sector / head.chunk) slot P ⊎ HasRole head (sector / head.chunk) slot Q) → ⊥
not_parity head slot sector v valid lies (inl p) =
    let e : P ≡ Item (home_item head v) = just_item head (sector / head.chunk) slot (home_item head v) valid (lies_on head slot sector v valid lies) P p in
    (cc)
not_parity head slot sector v valid lies (inr q) =
    let e : Q ≡ Item (home_item head v) = just_item head (sector / head.chunk) slot (home_item head v) valid (lies_on head slot sector v valid lies) Q q in
    (cc)

pub one_place : EachSectorHasOnePlace
one_place head end slot sector Outside Outside valid a b = refl
one_place head end slot sector Outside Parity valid a b = absurd (omega arith)
one_place head end slot sector Outside (At v) valid a b = let k = b.0 in absurd (omega arith)
one_place head end slot sector Parity Outside valid a b = absurd (omega arith)
one_place head end slot sector Parity Parity valid a b = refl
one_place head end slot sector Parity (At v) valid a b = absurd (not_parity head slot sector v valid b.1 a.1)
one_place head end slot sector (At v) Outside valid a b = let k = a.0 in absurd (omega arith)
one_place head end slot sector (At v) Parity valid a b = absurd (not_parity head slot sector v valid a.1 b.1)
one_place head end slot sector (At v) (At w) valid a b = ap (λ (x : ℕ). At x) (lies_once head slot sector w v valid b.1 a.1)

same_home : (head : Head) (end v : ℕ) (home other : Home) → IsAt head end v home → IsAt head end v other → other ≡ home
same_home head end v home other a b =
    let both = one_slot head home.slot other.slot v home.sector other.sector a.lies b.lies in
    let make : ℕ → ℕ → ℕ → ℕ → Home = λ r i s t. record { row = r; item = i; slot = s; sector = t } in
    ap (λ (r : ℕ). make r other.item other.slot other.sector) (b.row ∙ sym a.row)
    ∙ ap (λ (i : ℕ). make home.row i other.slot other.sector) (b.item ∙ sym a.item)
    ∙ ap (λ (s : ℕ). make home.row home.item s other.sector) both.0
    ∙ ap (λ (t : ℕ). make home.row home.item home.slot t) both.1

pub one_home : EachSectorHasOneHome
one_home head end v home other valid a b =
    (slot_in head home.slot home.sector v valid a.lies, same_home head end v home other a b)

to_home : (head : Head) (end slot sector v : ℕ) (home : Option Home) → IsTrue (is_valid_head head) → sector < area head end → LiesAt head slot sector v →
    IsHome head end v home → IsAtHome home slot sector
to_home head end slot sector v None valid h lies none =
    let k : v < volume_sectors head end = inside head end slot sector v valid lies h in
    absurd (omega arith)
to_home head end slot sector v (Some home) valid h lies a =
    let both = one_slot head slot home.slot v sector home.sector lies a.lies in
    (home, refl, both.0, both.1)

to_place : (head : Head) (end slot sector v : ℕ) (place : MemberPlace) → IsTrue (is_valid_head head) → v < volume_sectors head end → LiesAt head slot sector v →
    IsPlace head end slot sector place → place ≡ At v
to_place head end slot sector v place valid h lies is =
    one_place head end slot sector (At v) place valid (inside_back head end slot sector v valid lies h, lies) is

from_place : (head : Head) (end slot sector v : ℕ) (place : MemberPlace) → place ≡ At v → IsPlace head end slot sector place → IsPlace head end slot sector (At v)
from_place head end slot sector v place e is = subst (λ (p : MemberPlace). IsPlace head end slot sector p) e is

at_home : (head : Head) (end slot sector v : ℕ) (home : Option Home) → IsAtHome home slot sector → IsHome head end v home →
    (v < volume_sectors head end) × LiesAt head slot sector v
at_home head end slot sector v home is has =
    let a : IsAt head end v is.0 = subst (λ (o : Option Home). IsHome head end v o) is.1 has in
    let on : LiesAt head slot is.0.sector v = subst (λ (s : ℕ). LiesAt head s is.0.sector v) is.2 a.lies in
    (a.within, subst (λ (t : ℕ). LiesAt head slot t v) is.3 on)

pub places_and_homes : PlacesAndHomesUndo
places_and_homes head end slot sector v place home valid is has = (
  λ e. let at : IsPlace head end slot sector (At v) = from_place head end slot sector v place e is in
      to_home head end slot sector v home valid at.0 at.1 has,
  λ h. let both = at_home head end slot sector v home h has in to_place head end slot sector v place valid both.0 both.1 is,
)
