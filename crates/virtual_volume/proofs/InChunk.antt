-- Sectors that lie in one chunk.
use Rattle.std.proofs.Common.{◌≡◌, ℕ, ◌+◌, ◌*◌, ◌/◌, ◌%◌, ◌<◌, ap, ◌∙◌, arith}
use Rattle.std.proofs.lemmas.Nat.{div-add-mod', div-mul-add, mod-mul-add}

-- a sector further on in the chunk lies in it
pub same_chunk : (chunk v j : ℕ) → v % chunk + j < chunk → (v + j) / chunk ≡ v / chunk
same_chunk chunk v j h =
    let split : v / chunk * chunk + v % chunk ≡ v = div-add-mod' v chunk in
    let place : v + j ≡ v / chunk * chunk + (v % chunk + j) = omega arith in
    ap (λ (t : ℕ). t / chunk) place ∙ div-mul-add (v / chunk) chunk (v % chunk + j) h

pub later_place : (chunk v j : ℕ) → v % chunk + j < chunk → (v + j) % chunk ≡ v % chunk + j
later_place chunk v j h =
    let split : v / chunk * chunk + v % chunk ≡ v = div-add-mod' v chunk in
    let place : v + j ≡ v / chunk * chunk + (v % chunk + j) = omega arith in
    ap (λ (t : ℕ). t % chunk) place ∙ mod-mul-add (v / chunk) chunk (v % chunk + j) h
