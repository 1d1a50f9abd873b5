use Rattle.std.proofs.Common.{◌≡◌, ◌≢◌, ◌<◌, ◌^◌, ℕ, List, decimal, sym, ap, ◌∙◌, arith, Option, MatchOption, Result, Ok, Err}
use Rattle.std.specs.Result.{OkIff, result_ok}
use Rattle.std.proofs.lemmas.Fmt.{decimal_injective}
use Rattle.value_text.proofs.names.U8Spelled.read.Goals as goal

as_byte : {E : Type 0} (text : List ℕ) (n : ℕ) (r : Result ℕ E) (o : Option ℕ) → n < 2 ^ 64 → text ≡ decimal n → OkIff r (n < 256) n → o ≡ result_ok r → MatchOption o ((x : ℕ) → x < 256 → text ≢ decimal x) (λ x. (x < 256) × (text ≡ decimal x))
as_byte text n (Ok v) o small e fits same = rw same (omega (arith, fits.0, fits.1), e ∙ ap (λ (k : ℕ). decimal k) (sym fits.1))
as_byte text n (Err v) o small e fits same = rw same (λ x lt other. let equal = decimal_injective n x small (omega arith) (sym e ∙ other) in fits (omega (arith, equal)))

pub returns : goal.returns
returns c = as_byte c.args.text.now c.in_ok-read_number.field-0 c.try_from.result c.ok.result (omega arith) c.in_ok-read_number.ensures c.try_from.ensures c.ok.ensures.value
