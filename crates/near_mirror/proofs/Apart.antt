-- Copies share no slot, and no sector.
use Rattle.std.proofs.Common.{◌≡◌, ℕ, ◌+◌, ◌*◌, ◌%◌, ◌/◌, ◌<◌, IsTrue, arith, ap, sym, ◌∙◌}
use Rattle.std.proofs.lemmas.Nat.{div-add-mod', div_below, mod_below, same_from_place}
use Rattle.near_mirror.specs.Copies.{chunks_of, near_rows, near_sectors, copy_cell, copy_row, copy_sector, copy_slot, row_of, slot_of}
use Rattle.near_mirror.specs.Heads.{is_valid_near}
use Rattle.near_mirror.specs.declared.types.Copying.{Copying}
use Rattle.near_mirror.specs.declared.types.Copying.TheVariants.{Near, Far, Offset}
use Rattle.near_mirror.specs.declared.types.NearHead.{NearHead}
use Rattle.near_mirror.proofs.Chunks.{valid_chunk}
use Rattle.near_mirror.proofs.Heads.{chunk_within, enough_members, some_members}
use Rattle.near_mirror.proofs.Turns.{same_in_row, same_step}

one_slot : (copying : Copying) (members copies one other chunk : ℕ) → one < members → other < members →
    slot_of copying members copies one chunk ≡ slot_of copying members copies other chunk → one ≡ other
one_slot Near members copies one other chunk p q e = same_step (copies * chunk) one other members p q e
one_slot Far members copies one other chunk p q e = same_step chunk one other members p q e
one_slot Offset members copies one other chunk p q e = same_step chunk one other members p q e

pub apart : (head : NearHead) (v one other : ℕ) → IsTrue (is_valid_near head) → one < head.layout.copies → other < head.layout.copies →
    copy_slot head one v ≡ copy_slot head other v → one ≡ other
apart head v one other h p q e =
    let enough = enough_members head h in
    one_slot head.layout.copying head.members head.layout.copies one other (v / head.chunk) (omega arith) (omega arith) e

-- a cell of the members is one copy of one chunk
one_cell : (copying : Copying) (members copies rows one other c d : ℕ) → 0 < members → one < copies → other < copies →
    c < chunks_of copying members copies rows → d < chunks_of copying members copies rows →
    slot_of copying members copies one c ≡ slot_of copying members copies other d → row_of copying members copies rows one c ≡ row_of copying members copies rows other d →
    (c ≡ d) × (one ≡ other)
one_cell Near members copies rows one other c d some p q below under slot row =
    let first : copy_cell copies c one / members * members + copy_cell copies c one % members ≡ copy_cell copies c one = div-add-mod' (copy_cell copies c one) members in
    let second : copy_cell copies d other / members * members + copy_cell copies d other % members ≡ copy_cell copies d other = div-add-mod' (copy_cell copies d other) members in
    let rows : copy_cell copies c one / members * members ≡ copy_cell copies d other / members * members = ap (λ (r : ℕ). r * members) row in
    let here : copies * c ≡ c * copies = grind arith in
    let there : copies * d ≡ d * copies = grind arith in
    same_from_place c one d other copies p q (omega arith)
one_cell Far members copies rows one other c d some p q below under slot row =
    let here : c / members < rows / copies = div_below c members (rows / copies) some below in
    let there : d / members < rows / copies = div_below d members (rows / copies) some under in
    let parts = same_from_place one (c / members) other (d / members) (rows / copies) here there (omega arith) in
    (same_in_row c d one members some parts.1 (slot ∙ ap (λ (j : ℕ). (d + j) % members) (sym parts.0)), parts.0)
one_cell Offset members copies rows one other c d some p q below under slot row =
    let here : copies * (c / members) ≡ c / members * copies = grind arith in
    let there : copies * (d / members) ≡ d / members * copies = grind arith in
    let parts = same_from_place (c / members) one (d / members) other copies p q (omega arith) in
    (same_in_row c d one members some parts.0 (slot ∙ ap (λ (j : ℕ). (d + j) % members) (sym parts.1)), parts.1)

pub share_none : (head : NearHead) (end v w one other : ℕ) → IsTrue (is_valid_near head) → v < near_sectors head end → w < near_sectors head end →
    one < head.layout.copies → other < head.layout.copies →
    copy_slot head one v ≡ copy_slot head other w → copy_sector head end one v ≡ copy_sector head end other w → (v ≡ w) × (one ≡ other)
share_none head end v w one other h within under p q slot sector =
    let some = some_members head h in
    let chunk = valid_chunk head h in
    let parts = same_from_place (copy_row head end one v) (v % head.chunk) (copy_row head end other w) (w % head.chunk) head.chunk (mod_below v head.chunk chunk) (mod_below w head.chunk chunk) sector in
    let cell = one_cell head.layout.copying head.members head.layout.copies (near_rows head end) one other (v / head.chunk) (w / head.chunk) (omega arith) p q
    (chunk_within head end v h within) (chunk_within head end w h under) slot parts.0 in
    let first : v / head.chunk * head.chunk + v % head.chunk ≡ v = div-add-mod' v head.chunk in
    let second : w / head.chunk * head.chunk + w % head.chunk ≡ w = div-add-mod' w head.chunk in
    let chunks : v / head.chunk * head.chunk ≡ w / head.chunk * head.chunk = ap (λ (c : ℕ). c * head.chunk) cell.0 in
    let places = parts.1 in
    (omega arith, cell.1)
