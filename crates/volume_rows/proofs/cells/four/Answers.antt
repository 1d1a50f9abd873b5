use Rattle.std.proofs.Common.{ℕ, ◌≢◌, ◌<◌, ◌≤◌, Bool, [], ◌∷◌, count_by, nat_eq, refl, arith}
use Rattle.std.specs.List.{IsDistinct}
use Rattle.std.proofs.lemmas.Bool.{ne_eqb}
use Rattle.std.proofs.lemmas.List.Elements.{All-from_recursion}
use Rattle.raid_params.specs.declared.types.Part.TheVariants.{Block, P, Q}
use Rattle.raid_terms.specs.Parity.{IsRow}
use Rattle.volume_rows.proofs.cells.four.Goals as goal

two_apart : (i j : ℕ) → i ≢ j → IsDistinct nat_eq (i ∷ j ∷ [])
unfolding IsDistinct
two_apart i j ne = ((ne_eqb i j ne, tt), (tt, tt))

is_row : (i j : ℕ) (a b c d : Bool) → i < 255 → j < 255 → i ≢ j → count_by (λ m. m) (a ∷ b ∷ c ∷ d ∷ []) ≤ 2 →
    IsRow (record { part = Q; missing = a } ∷ record { part = Block i; missing = b } ∷ record { part = Block j; missing = c } ∷ record { part = P; missing = d } ∷ [])
is_row i j a b c d hi hj ne few = record {
  few = omega arith;
  most = omega arith;
  one_p = omega arith;
  one_q = omega arith;
  beside = λ h. refl;
  apart = λ h. two_apart i j ne;
  short = λ h. All-from_recursion (λ k. k < 255) (i ∷ j ∷ []) (hi, (hj, tt));
  missing = few;
}

pub returns : goal.returns
returns c =
    let e = c.requires.exponents in
    is_row c.args.i c.args.j c.args.q c.args.first c.args.second c.args.p e.0 e.1 e.2 c.requires.lost
