-- Images and columns of members are lists of bytes.
use Rattle.std.proofs.Common.{ap, length, suc, ◌≡◌, ℕ, ◌+◌, ◌*◌, ◌<◌, List, [], ◌∷◌, map, sym, ◌∙◌, arith, refl, All, IfSome, Option, None, Some}
use Rattle.std.specs.List.{AllByRecursion}
use Rattle.outside.specs.Attached.{told_all}
use Rattle.outside.specs.Seen.{Image, TellsBytes}
use Rattle.outside.proofs.Told.{told_below}
use Rattle.raid_params.specs.declared.types.Cell.{Cell}
use Rattle.raid_params.specs.declared.types.Geometry.{Geometry}
use Rattle.raid_terms.specs.Cells.{row_cells}
use Rattle.raid_terms.specs.Parity.{member_byte, member_column}
use Rattle.row_parity.specs.Syndromes.{AreColumns}
use Rattle.member_regions.specs.Members.{HoldBytes}
use Rattle.member_regions.proofs.Sets.{row_length}

-- a list has as many values as items
pub map_length : (f : Option ℕ → ℕ) (slots : List (Option ℕ)) → length (map f slots) ≡ length slots
map_length f [] = refl
map_length f (held ∷ slots) = ap (λ n. suc n) (map_length f slots)

byte_below : (images : List (List ℕ)) (offset t x : ℕ) (held : Option ℕ) → HoldBytes images → member_byte images offset t x held < 256
byte_below images offset t x None bytes = omega arith
byte_below images offset t x (Some i) bytes = bytes i (512 * (offset + t) + x)

column_below : (images : List (List ℕ)) (offset t x : ℕ) (slots : List (Option ℕ)) → HoldBytes images → AllByRecursion (λ b. b < 256) (map (member_byte images offset t x) slots)
column_below images offset t x [] bytes = tt
column_below images offset t x (held ∷ slots) bytes = (byte_below images offset t x held bytes, column_below images offset t x slots bytes)

-- one for each cell
pub member_columns : (images : List (List ℕ)) (geo : Geometry) (t row : ℕ) (cells : List Cell) → HoldBytes images → cells ≡ row_cells geo row → AreColumns cells (member_column images geo t)
member_columns images geo t row cells bytes are = λ x. (
  map_length (member_byte images geo.head.offset t x) geo.slots.items ∙ sym (row_length geo row cells are),
  column_below images geo.head.offset t x geo.slots.items bytes,
)

-- known images hold bytes
pub told_bytes : (attached : List Image) → All TellsBytes attached → IfSome (told_all attached) (λ bytes. HoldBytes bytes)
told_bytes attached tells = by_told (told_all attached) refl
  where
    by_told : (told : Option (List (List ℕ))) → told_all attached ≡ told → IfSome told (λ bytes. HoldBytes bytes)
    by_told None e = tt
    by_told (Some bytes) e = λ i k. told_below attached bytes i k tells e
