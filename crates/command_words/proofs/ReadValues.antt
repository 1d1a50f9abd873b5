-- What it says of a number that its text was read, and it is out of bounds.
use Rattle.std.proofs.Common.{◌≡◌, ◌≢◌, ℕ, ◌≤◌, ◌<◌, ◌^◌, List, sym, ◌∙◌, arith, decimal}
use Rattle.std.proofs.lemmas.Fmt.{decimal_injective}

-- a number out of these bounds is none within them
pub out_of_bounds : (text : List ℕ) (low high number n : ℕ) → high < 2 ^ 64 → number < 2 ^ 64 → text ≡ decimal number → (low ≤ number → high < number) → low ≤ n → n ≤ high → text ≢ decimal n
out_of_bounds text low high number n top small is out above below e =
    let same : number ≡ n = decimal_injective number n small (omega arith) (sym is ∙ e) in
    let far = out (omega arith) in
    absurd (omega arith)
