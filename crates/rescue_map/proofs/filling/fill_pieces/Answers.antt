use Rattle.std.proofs.Common.{ℕ, ◌≡◌, ◌∙◌, ◌+◌, ◌-◌, ◌*◌, ◌/◌, ◌%◌, ◌<◌, ◌≤◌, length, get_or, ap, sym, rules, arith}
use Rattle.std.proofs.lemmas.Nat.{mul-le}
use Rattle.rescue_map.specs.Salvaged.{column_at, filled_byte}
use Rattle.rescue_map.proofs.Blocks.{piece_whole, room_same}
use Rattle.rescue_map.proofs.filling.fill_pieces.Goals as goal

pub for_each_chunk_mut-requires-clause-accepts : goal.for_each_chunk_mut-requires-clause-accepts
for_each_chunk_mut-requires-clause-accepts g c κs within = λ start p chunk.
    let set = c.args.damage.now.set.now in
    let slots = length set.geo.slots.items in
    let total = length c.args.block.now in
    let w = piece_whole total start (length p.now) c.requires.block.whole chunk.start_is_multiple chunk.len chunk.in_bounds in
    let below = c.requires.block.within in
    let room = room_same slots 0 (total / 512) (total / 512) (length c.args.rows.now) c.requires.block.room (omega arith) in
    let part = w.2 in
    let most : 512 * slots * (start / 512 + length p.now / 512) ≤ 512 * slots * (total / 512) = mul-le (512 * slots) (start / 512 + length p.now / 512) (512 * slots) (total / 512) (omega arith) w.2 in
    (c.requires.set, record { whole = w.0; within = omega arith; room = omega arith })

pub returns : goal.returns
returns g c = record {
  long = search rules;
  filled = λ j below x inside.
      let damage = c.args.damage.now in
      let set = damage.set.now in
      let n = length set.geo.slots.items in
      let rows = c.args.rows.now in
      let total = length c.args.block.now in
      let whole = c.requires.block.whole in
      let h = (c.for_each_chunk_mut.ensures.by_index (512 * j + x) 0 (omega arith)).1 in
      let w = piece_whole total h.start (length h.argument.now) c.requires.block.whole h.argument_is.start_is_multiple h.argument_is.len h.argument_is.in_bounds in
      let begins : 512 * (h.start / 512) ≡ h.start = w.1 in
      let even : length h.argument.now % 512 ≡ 0 = w.0 in
      let sum : h.start + h.offset ≡ 512 * j + x = h.start_plus_offset in
      let less : h.offset < length h.argument.now = h.offset_in_chunk in
      let k = j - h.start / 512 in
      let place : h.start / 512 + k ≡ 0 + j = omega arith in
      let at : h.offset ≡ 512 * k + x = omega arith in
      let fits : k < length h.argument.now / 512 = omega arith in
      sym h.new_element
      ∙ ap (λ (o : ℕ). get_or h.after_call.now o 0) at
      ∙ h.call.filled k fits x inside
      ∙ ap (λ (t : ℕ). filled_byte damage.rescue.now set (c.args.first + t) (column_at n rows (512 * n * t) x) (get_or h.argument.now (512 * k + x) 0)) place
      ∙ ap (λ (b : ℕ). filled_byte damage.rescue.now set (c.args.first + (0 + j)) (column_at n rows (512 * n * (0 + j)) x) b) (ap (λ (o : ℕ). get_or h.argument.now o 0) (sym at) ∙ h.old_element);
}
