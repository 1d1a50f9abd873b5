-- How large groups are.
use Rattle.std.proofs.Common.{◌≡◌, ℕ, ◌+◌, ◌-◌, ◌*◌, ◌%◌, ◌/◌, ◌<◌, ◌≤◌, inl, inr, ap, ◌∙◌, arith}
use Rattle.std.proofs.lemmas.Bool.{cases_lt}
use Rattle.std.proofs.lemmas.Nat.{div-add-mod', mod-mul-add, mod_below, mul-le}
use Rattle.sample_arrays.specs.Laws.{GroupsAreAsLargeAsMayBe}
use Rattle.sample_arrays.specs.Marks.{group_blocks}

-- no number above n of those that leave 1 is below
no_more : (p q r n : ℕ) → r < n → p * n + 1 ≤ q * n + r + 1 → p * n + 1 ≤ q * n + 1
no_more p q r n below most = elim (cases_lt q p) [
  | inl more ↦ (
      let next : (q + 1) * n ≤ p * n = mul-le (q + 1) n p n (omega arith) (omega arith) in
      let wide : (q + 1) * n ≡ q * n + n = grind arith in
      absurd (omega arith))
  | inr less ↦ (let le : p * n ≤ q * n = mul-le p n q n less (omega arith) in omega arith)
]

pub group_size : GroupsAreAsLargeAsMayBe
group_size sectors items large some =
    let split : (sectors / 512 - 1) / items * items + (sectors / 512 - 1) % items ≡ sectors / 512 - 1 = div-add-mod' (sectors / 512 - 1) items in
    let below : (sectors / 512 - 1) % items < items = mod_below (sectors / 512 - 1) items (omega arith) in
    let is : group_blocks sectors items ≡ (sectors / 512 - 1) / items * items + 1 = omega arith in
    record {
      few = omega arith;
      leaves = ap (λ (k : ℕ). k % items) is ∙ mod-mul-add ((sectors / 512 - 1) / items) items 1 (omega arith);
      greatest = λ other le one.
          let parts : other / items * items + other % items ≡ other = div-add-mod' other items in
          let h = no_more (other / items) ((sectors / 512 - 1) / items) ((sectors / 512 - 1) % items) items below (omega arith) in
          omega arith;
    }
