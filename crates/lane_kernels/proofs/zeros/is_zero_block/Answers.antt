use Rattle.std.proofs.Common.{ℕ, ◌≡◌, ◌+◌, sym, ◌∙◌, arith, eqb, not, map, w8, get_or, drop, ◌<◌}
use Rattle.std.proofs.lemmas.Bool.{eqb-true, eqb-false, not-false}
use Rattle.std.proofs.lemmas.List.{get_or-drop, get_or-take}
use Rattle.std.proofs.lemmas.Simd.{bitmask_splat, none_from_empty_mask, length-chunk}
use lib.Lanes.{chunk, mask_l}
use Rattle.lane_kernels.proofs.Masks.{some_from_mask}
use Rattle.lane_kernels.proofs.zeros.is_zero_block.Goals as goal

pub returns-clause-zeros : goal.returns-clause-zeros
returns-clause-zeros c e k lo hi =
    let a = c.args.a.now in
    let at = c.args.at in
    let m : mask_l (map (λ (x : ℕ). not (eqb x 0)) (chunk c.args.at 32 c.args.a.now)) ≡ 0
    = sym (bitmask_splat w8 (λ x y. not (eqb x y)) (chunk at 32 a) 32 0 (length-chunk at 32 a c.requires) (omega arith)) ∙ eqb-true _ 0 e in
    eqb-true (get_or a k 0) 0 (not-false (eqb (get_or a k 0) 0) (none_from_empty_mask (λ x. not (eqb x 0)) a at 32 0 c.requires m k lo hi))

pub returns-clause-other : goal.returns-clause-other
returns-clause-other c e =
    let a = c.args.a.now in
    let at = c.args.at in
    let long = length-chunk at 32 a c.requires in
    let found = some_from_mask (chunk at 32 a) (λ z. eqb-false _ 0 e (bitmask_splat w8 (λ x y. not (eqb x y)) (chunk at 32 a) 32 0 long (omega arith) ∙ z)) in
    let below : found.0 < 32 = omega (arith, found.1, long) in
    let same : get_or (chunk at 32 a) found.0 0 ≡ get_or a (at + found.0) 0 = get_or-take 32 (drop at a) found.0 0 below ∙ get_or-drop at a found.0 0 in
    (at + found.0, omega arith, omega arith, λ z. found.2 (same ∙ z))
