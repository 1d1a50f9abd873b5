-- Whether a block of a slot is needed, by what it is in its row.
use Rattle.std.proofs.Common.{◌≡◌, ◌≢◌, ℕ, ◌/◌, get_or, true, false, Bool, ◌&&◌, ◌||◌, nat_le, refl, ap, sym, ◌∙◌, Option, Some, None}
use Rattle.std.specs.Option.{is_none, is_some}
use Rattle.std.specs.Prelude.{IsTrue}
use Rattle.pq_parity.specs.Needs.{is_p_lost, lost_data, needs}
use Rattle.raid_layouts.proofs.Parts.{part_beside, part_p, part_q}
use Rattle.raid_params.specs.Validity.{is_valid_head}
use Rattle.raid_params.specs.declared.types.Geometry.{Geometry}
use Rattle.raid_params.specs.declared.types.Part.{Part}
use Rattle.raid_params.specs.declared.types.Part.TheVariants.{P, Q}
use Rattle.raid_terms.specs.Cells.{part_of, row_cells}
use Rattle.raid_terms.specs.Role.{p_of, q_of}
use Rattle.lost_members.specs.Needs.{is_needed}

some_or : (o : Option ℕ) → is_none o ≡ false → is_some o ≡ true
some_or None e = sym e
some_or (Some i) e = refl

none_not : (o : Option ℕ) → is_none o ≡ true → is_some o ≡ false
none_not None e = refl
none_not (Some i) e = absurd cc

-- nothing of an empty slot is
pub not_there : (geo : Geometry) (slot t : ℕ) → is_none (get_or geo.slots.items slot None) ≡ true → false ≡ is_needed geo slot t
unfolding is_needed
not_there geo slot t empty =
    sym (ap (λ (b : Bool). b && needs (row_cells geo (t / geo.head.chunk)) (part_of geo.head (t / geo.head.chunk) slot)) (none_not (get_or geo.slots.items slot None) empty))

-- of one that holds an image, the block is needed as its part is
pub there_as : (geo : Geometry) (slot t : ℕ) (part : Part) → is_none (get_or geo.slots.items slot None) ≡ false → part_of geo.head (t / geo.head.chunk) slot ≡ part →
    is_needed geo slot t ≡ needs (row_cells geo (t / geo.head.chunk)) part
unfolding is_needed
there_as geo slot t part there is =
    ap (λ (b : Bool). b && needs (row_cells geo (t / geo.head.chunk)) (part_of geo.head (t / geo.head.chunk) slot)) (some_or (get_or geo.slots.items slot None) there)
    ∙ ap (λ (p : Part). needs (row_cells geo (t / geo.head.chunk)) p) is

-- P
pub needed_p : (geo : Geometry) (slot t lost : ℕ) → is_none (get_or geo.slots.items slot None) ≡ false → p_of geo.head (t / geo.head.chunk) ≡ Some slot →
    lost ≡ lost_data (row_cells geo (t / geo.head.chunk)) → nat_le 1 lost ≡ is_needed geo slot t
needed_p geo slot t lost there is few =
    ap (λ (n : ℕ). nat_le 1 n) few ∙ sym (there_as geo slot t P there (part_p geo.head (t / geo.head.chunk) slot is))

-- Q
pub needed_q : (geo : Geometry) (slot t lost : ℕ) (p_lost : Bool) → IsTrue (is_valid_head geo.head) → is_none (get_or geo.slots.items slot None) ≡ false →
    q_of geo.head (t / geo.head.chunk) ≡ Some slot → lost ≡ lost_data (row_cells geo (t / geo.head.chunk)) → p_lost ≡ is_p_lost (row_cells geo (t / geo.head.chunk)) →
    (nat_le 2 lost || nat_le 1 lost && p_lost) ≡ is_needed geo slot t
needed_q geo slot t lost p_lost valid there is few p =
    ap (λ (n : ℕ). nat_le 2 n || nat_le 1 n && p_lost) few
    ∙ ap (λ (b : Bool). nat_le 2 (lost_data (row_cells geo (t / geo.head.chunk))) || nat_le 1 (lost_data (row_cells geo (t / geo.head.chunk))) && b) p
    ∙ sym (there_as geo slot t Q there (part_q geo.head (t / geo.head.chunk) slot valid is))

-- and data
pub needed_data : (geo : Geometry) (slot t : ℕ) → is_none (get_or geo.slots.items slot None) ≡ false → p_of geo.head (t / geo.head.chunk) ≢ Some slot →
    q_of geo.head (t / geo.head.chunk) ≢ Some slot → true ≡ is_needed geo slot t
needed_data geo slot t there np nq = sym (there_as geo slot t _ there (part_beside geo.head (t / geo.head.chunk) slot np nq))
