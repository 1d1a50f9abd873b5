-- What is taken where the words name none, and where they do.
use Rattle.std.proofs.Common.{◌≡◌, ℕ, suc, ◌<◌, ◌≤◌, ◌^◌, Bool, cond, false, max, nat_eq, List, [], ◌∷◌, length, IfSome, Option, None, Some, ap, arith}
use Rattle.std.proofs.lemmas.Bool.Decides.{nat_tests}
use Rattle.asked_values.specs.Asked.{members_for, window_for}

not_none : (ns : List ℕ) → nat_eq (suc (length ns)) 0 ≡ false
not_none ns = grind (arith, nat_tests)

-- numbers that are asked for are tried
pub as_asked : (n : ℕ) (ns : List ℕ) (images : ℕ) → members_for (n ∷ ns) images ≡ n ∷ ns
as_asked n ns images = ap (λ (b : Bool). cond b (max images 2 ∷ []) (n ∷ ns)) (not_none ns)

-- a window is a number that the grammar knows
pub window_is : (window : Option ℕ) (end : ℕ) → end < 2 ^ 55 → IfSome window (λ n. (1 ≤ n) × (n < 2 ^ 55)) → (1 ≤ window_for window end) × (window_for window end < 2 ^ 55)
window_is None end near given = (omega arith, omega arith)
window_is (Some n) end near given = given
