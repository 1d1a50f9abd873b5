use Rattle.std.proofs.Common.{◌≡◌, ◌+◌, ◌*◌, ℕ, List, length, arith, sym, ap, ◌∙◌}
use Rattle.std.specs.List.{slice_index}
use Rattle.xor_tables.proofs.Paces.{place_below}
use Rattle.prune_filters.specs.Paces.{pace_at, paces_of}
use Rattle.head_walk.proofs.Kept.{pace_found}
use Rattle.head_walk.proofs.row_tables.pace_place.Goals as goal

pub returns-clause-within : goal.returns-clause-within
returns-clause-within c =
    let chunk = c.number_place-chunk.ensures.within in
    let delay = c.number_place-delay.ensures.within in
    let chunks = ap length c.deref.ensures.0 in
    let delays = ap length c.deref-2.ensures.0 in
    let below = place_below c.args.plan.now c.number_place-chunk.result c.number_place-delay.result (omega arith) (omega arith) in
    let same : c.number_place-chunk.result * c.len.result ≡ c.number_place-chunk.result * length c.args.plan.now.bounds.delays.items = ap (λ (n : ℕ). c.number_place-chunk.result * n) c.len.ensures.value in
    omega arith

pub returns-clause-is : goal.returns-clause-is
returns-clause-is c =
    let chunk = c.number_place-chunk.ensures.within in
    let delay = c.number_place-delay.ensures.within in
    let chunks = ap length c.deref.ensures.0 in
    let delays = ap length c.deref-2.ensures.0 in
    ap (λ (n : ℕ). pace_at (paces_of c.args.plan.now) (c.number_place-chunk.result * n + c.number_place-delay.result)) c.len.ensures.value
    ∙ pace_found c.args.plan.now c.args.head.now c.number_place-chunk.result c.number_place-delay.result
    (omega arith) (ap (λ (l : List ℕ). slice_index l c.number_place-chunk.result) (sym c.deref.ensures.0) ∙ c.number_place-chunk.ensures.is)
    (omega arith) (ap (λ (l : List ℕ). slice_index l c.number_place-delay.result) (sym c.deref-2.ensures.0) ∙ c.number_place-delay.ensures.is)
