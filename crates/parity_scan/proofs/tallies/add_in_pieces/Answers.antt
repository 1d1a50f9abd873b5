use Rattle.std.proofs.Common.{◌≡◌, ◌+◌, arith}
use Rattle.parity_scan.proofs.Adding.{added_at}
use Rattle.parity_scan.proofs.tallies.add_in_pieces.Goals as goal

pub returns-clause-added : goal.returns-clause-added
returns-clause-added g c = λ i d e below.
    let h = (c.for_each_chunk_mut.ensures.by_index i d below).1 in
    let from : 0 + i ≡ i = omega arith in
    rw from (added_at c.args.scanned.now.scope.now c.args.scanned.now.sets.now h.start h.offset i c.args.run c.args.regions.now d _ _ e h.argument.now h.after_call.now h.start_plus_offset h.old_element h.new_element
    (h.call h.offset d e h.offset_in_chunk))
