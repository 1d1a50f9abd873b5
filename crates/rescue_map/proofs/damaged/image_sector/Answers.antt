use Rattle.std.proofs.Common.{ℕ, ◌≡◌, ◌<◌, List, length, get_or, ap, ◌∙◌, arith}
use Rattle.rescue_map.proofs.Known.{all_below}
use Rattle.rescue_map.proofs.damaged.image_sector.Goals as goal

pub overflow_add-result : goal.overflow_add-result
overflow_add-result c =
    let set = c.args.set.now in
    let same : c.deref.result.now ≡ set.bases.items = c.deref.ensures.0 in
    let at : c.in-Some.base.now ≡ get_or set.bases.items c.args.image set.geo.head.offset =
    c.in-Some.ensures.lookup.3.1 set.geo.head.offset ∙ ap (λ (l : List ℕ). get_or l c.args.image set.geo.head.offset) same in
    let lengths : length c.deref.result.now ≡ length set.bases.items = ap (λ (l : List ℕ). length l) same in
    let within : c.args.image < length set.bases.items = let h = c.in-Some.ensures.lookup.3.0 in omega arith in
    let low = all_below set c.args.image set.geo.head.offset within in
    let near = c.requires.near in
    omega arith
