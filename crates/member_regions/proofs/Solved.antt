-- The cells of empty slots, and the bytes of those that hold an image.
use Rattle.std.proofs.Common.{◌≡◌, ℕ, zero, suc, ◌+◌, ◌/◌, ◌<◌, List, [], ◌∷◌, length, get_or, refl, sym, ap, subst, arith, Option, None, Some, false, true, IfSome, slice_get, slice_index_or}
use Rattle.std.specs.Option.{is_none}
use Rattle.raid_params.specs.declared.types.Cell.{Cell}
use Rattle.raid_params.specs.declared.types.Geometry.{Geometry}
use Rattle.raid_params.specs.declared.types.Head.{Head}
use Rattle.raid_terms.specs.Cells.{cells_from, row_cells}
use Rattle.raid_terms.specs.Parity.{member_byte}
use Rattle.raid_terms.specs.Volume.{byte_in}

missing_from : (head : Head) (row a slot : ℕ) (slots : List (Option ℕ)) → slot < length slots → get_or slots slot None ≡ None →
    IfSome (slice_get (cells_from head row a slots) slot) (λ cell. cell.missing ≡ true)
missing_from head row a slot [] h e = absurd (omega arith)
missing_from head row a zero (held ∷ slots) h e = ap (λ (o : Option ℕ). is_none o) e
missing_from head row a (suc slot) (held ∷ slots) h e = missing_from head row (a + 1) slot slots (omega arith) e

-- the cell of an empty slot is missing
pub slot_missing : (geo : Geometry) (row slot : ℕ) (cells : List Cell) → cells ≡ row_cells geo row → slot < length geo.slots.items → slice_index_or geo.slots.items slot None ≡ None →
    IfSome (slice_get cells slot) (λ cell. cell.missing ≡ true)
slot_missing geo row slot cells are h e = subst (λ (cs : List Cell). IfSome (slice_get cs slot) (λ cell. cell.missing ≡ true)) (sym are) (missing_from geo.head row 0 slot geo.slots.items h e)

-- a byte of a member that is there
pub held_byte : (images : List (List ℕ)) (geo : Geometry) (t slot x : ℕ) (held : Option ℕ) → is_none held ≡ false → member_byte images geo.head.offset t x held ≡ byte_in images geo t slot x held
held_byte images geo t slot x None there = absurd (cc)
held_byte images geo t slot x (Some i) there = refl
