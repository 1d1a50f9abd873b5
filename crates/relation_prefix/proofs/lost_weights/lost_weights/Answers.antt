use Rattle.std.proofs.Common.{ℕ, ◌≡◌, ◌<◌, arith, bit_xor}
use Rattle.gf256.specs.Field.{product}
use Rattle.relation_prefix.specs.declared.equation.Equation.TheVariants.{OfP, OfQ}
use Rattle.relation_prefix.specs.Equations.{weight_in_p, weight_in_q}
use Rattle.relation_prefix.specs.Joint.{HaveSums}
use Rattle.relation_prefix.proofs.Joints.{both_none}
use Rattle.relation_prefix.proofs.Sums.{weight_fits}
use Rattle.relation_prefix.proofs.lost_weights.lost_weights.Goals as goal

pub returns-in-Some-told : goal.returns-in-Some-told
returns-in-Some-told c =
    let left = c.in-Some-reduced.left in
    let values : (x : ℕ → ℕ) (a b : ℕ) → a < 256 → b < 256 → HaveSums c.args.ties.now c.args.weights.now c.args.slots.now x a b → bit_xor (product a left.q) (product b left.p) ≡ 0
    = λ x a b ha hb have. c.in-Some-reduced.ensures.values x a b ha hb (c.loop-slot.invariant.met x a b ha hb have) (c.in-Some.ensures.met x a b have) in
    record {
      whole = λ x y of_p of_q.
          let none = both_none left.p left.q (omega arith) (omega arith) (values x 0 1 (omega arith) (omega arith) of_p) (values y 1 0 (omega arith) (omega arith) of_q) in
          c.in-Some-told.ensures.some none.0 none.1;
      one = λ x part have. c.in-Some-told.ensures.lost part (values x (weight_in_p part) (weight_in_q part) (weight_fits OfP part) (weight_fits OfQ part) have);
    }
