use Rattle.std.proofs.Common.{ℕ, List, length, slice_index, ap, ◌∙◌, arith, bit_xor}
use Rattle.std.proofs.lemmas.List.{get_or-replicate}
use Rattle.gf256.specs.Field.{product}
use Rattle.pq_parity.proofs.Asked.{q_same}
use Rattle.pq_parity.proofs.LostColumns.{apart_there, lost_there}
use Rattle.pq_parity.proofs.solving.find_sector.Goals as goal

pub weights_of-weights-requires : goal.weights_of-weights-requires
weights_of-weights-requires c =
    apart_there c.args.cells.now c.args.place _ c.other_missing.result c.requires.cells c.requires.place c.requires.missing c.other_missing.ensures

pub returns-clause-lost : goal.returns-clause-lost
returns-clause-lost c column are by_p by_q x below =
    lost_there c.args.cells.now column c.args.place x _ c.other_missing.result c.weights_of-weights.result.p c.weights_of-weights.result.q
    (slice_index c.fill.new.self x) (slice_index c.add_weighed.new.to x) (slice_index c.add_weighed-2.new.to x)
    c.requires.cells are c.requires.place c.requires.missing c.other_missing.ensures c.weights_of-weights.ensures
    (ap (λ (s : List ℕ). slice_index s x) (c.fill.ensures.after (λ y e. e)) ∙ get_or-replicate {A = ℕ} (length c.args.to.now) x 0 0 (omega arith))
    (c.add_weighed.ensures.bytes x below ∙ ap (λ (v : ℕ). bit_xor (slice_index c.fill.new.self x) (product c.weights_of-weights.result.p v)) (by_p.bytes x below))
    (c.add_weighed-2.ensures.bytes x below ∙ ap (bit_xor (slice_index c.add_weighed.new.to x))
    (q_same c.args.cells.now c.args.place _ c.other_missing.result c.weights_of-weights.result.p c.weights_of-weights.result.q _ _ c.requires.place c.requires.missing c.other_missing.ensures c.weights_of-weights.ensures
    (omega arith) (λ asked. (by_q asked).bytes x below)))
