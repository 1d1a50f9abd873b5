use Rattle.std.proofs.Common.{ℕ, List, ◌≡◌, ◌≤◌, ◌+◌, ◌*◌, ◌∙◌, length, slice_index, ap, sym, arith}
use Rattle.std.proofs.lemmas.Simd.{get_or-zip2, length-zip2}
use Rattle.lane_kernels.specs.Formulas.{weighed_sum}
use Rattle.row_parity.proofs.Regions.{region_inside, mid_inside, mid_outside}
use Rattle.pq_parity.proofs.lost_data.fill.Goals as goal

pub returns-clause-bytes : goal.returns-clause-bytes
returns-clause-bytes c =
    let lies = region_inside c.args.stride c.args.finder.now.place c.args.members c.requires.place in
    let fits : c.args.stride * c.args.finder.now.place + 512 * c.args.j ≤ length c.args.sectors.now = let h = c.requires.j in let k = c.requires.sectors in omega arith in
    let long : length c.weigh.new.to ≡ length c.args.sums.now.p =
    ap (λ (l : List ℕ). length l) c.weigh.ensures
    ∙ length-zip2 (weighed_sum c.args.finder.now.by_p.factor c.args.finder.now.by_q.factor) c.args.sums.now.p c.args.sums.now.q (c.requires.by_p ∙ sym c.requires.by_q) in
    λ x inside.
    mid_inside (c.args.stride * c.args.finder.now.place + 512 * c.args.j) _ (c.args.stride * c.args.finder.now.place + (512 * c.args.j + x)) x c.args.sectors.now c.weigh.new.to
    (placed (c.args.stride * c.args.finder.now.place) (512 * c.args.j) x) (let h = c.requires.by_p in omega arith) fits
    ∙ ap (λ (l : List ℕ). slice_index l x) c.weigh.ensures
    ∙ get_or-zip2 (weighed_sum c.args.finder.now.by_p.factor c.args.finder.now.by_q.factor) c.args.sums.now.p c.args.sums.now.q x 0 0 0 (let h = c.requires.by_p in omega arith) (let h = c.requires.by_q in omega arith)
  where
    placed : (a b x : ℕ) → a + (b + x) ≡ a + b + x
    placed a b x = omega arith

pub returns-clause-others : goal.returns-clause-others
returns-clause-others c = λ p apart.
    let lies = region_inside c.args.stride c.args.finder.now.place c.args.members c.requires.place in
    let fits : c.args.stride * c.args.finder.now.place + 512 * c.args.j ≤ length c.args.sectors.now = let h = c.requires.j in let k = c.requires.sectors in omega arith in
    let long : length c.weigh.new.to ≡ length c.args.sums.now.p =
    ap (λ (l : List ℕ). length l) c.weigh.ensures
    ∙ length-zip2 (weighed_sum c.args.finder.now.by_p.factor c.args.finder.now.by_q.factor) c.args.sums.now.p c.args.sums.now.q (c.requires.by_p ∙ sym c.requires.by_q) in
    mid_outside (c.args.stride * c.args.finder.now.place + 512 * c.args.j) _ p c.args.sectors.now c.weigh.new.to
    (λ x inside e. apart x (omega arith) (omega arith)) fits (let h = c.requires.by_p in omega arith)
