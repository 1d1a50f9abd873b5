use Rattle.std.proofs.Common.{◌<◌, [], ◌∷◌, nat_eq, refl, arith}
use Rattle.std.specs.List.{IsDistinct}
use Rattle.std.proofs.lemmas.List.Elements.{All-from_recursion}
use Rattle.volume_rows.proofs.cells.six.Goals as goal

apart : IsDistinct nat_eq (7 ∷ 200 ∷ 31 ∷ 254 ∷ [])
unfolding IsDistinct
apart = ((refl, (refl, (refl, tt))), ((refl, (refl, tt)), ((refl, tt), (tt, tt))))

pub returns : goal.returns
returns c = record {
  few = omega arith;
  most = omega arith;
  one_p = omega arith;
  one_q = omega arith;
  beside = λ h. refl;
  apart = λ h. apart;
  short = λ h. All-from_recursion (λ k. k < 255) (7 ∷ 200 ∷ 31 ∷ 254 ∷ []) (omega arith, (omega arith, (omega arith, (omega arith, tt))));
  missing = omega arith;
}
