-- The orders of Q tried on row 2 of left-asymmetric with four members, 0 P Q 1, and on longer rows.
use Rattle.std.proofs.Common.{◌≡◌, ℕ, List, [], ◌∷◌, map, refl}
use Rattle.raid_params.specs.declared.types.Head.{Head}
use Rattle.raid_params.specs.declared.types.Level.TheVariants.{Raid6}
use Rattle.raid_params.specs.declared.types.Pattern.{Pattern}
use Rattle.raid_params.specs.declared.types.Pattern.TheVariants.{La, Ls, NContinue}
use Rattle.raid_params.specs.declared.types.Syndrome.{Syndrome}
use Rattle.raid_params.specs.declared.types.Syndrome.TheVariants.{AfterQ, ByData, BySlot}
use Rattle.raid_terms.specs.Exponent.{walk, number_after_q, item_in, exponent_of}
use Rattle.raid_terms.specs.Role.{double_p, double_q}

abbrev of : Syndrome → Head
of syndrome = record { level = Raid6; members = 4; pattern = La; delay = 1; syndrome = syndrome; chunk = 1; offset = 0 }

the_walk : walk 4 2 ≡ 3 ∷ 0 ∷ 1 ∷ 2 ∷ []
the_walk = refl

d0_after_q : exponent_of (of AfterQ) 2 0 ≡ 1
d0_after_q = refl

d1_after_q : exponent_of (of AfterQ) 2 3 ≡ 0
d1_after_q = refl

d0_by_data : exponent_of (of ByData) 2 0 ≡ 0
unfolding item_in
d0_by_data = refl

d1_by_data : exponent_of (of ByData) 2 3 ≡ 1
unfolding item_in
d1_by_data = refl

d0_by_slot : exponent_of (of BySlot) 2 0 ≡ 0
d0_by_slot = refl

d1_by_slot : exponent_of (of BySlot) 2 3 ≡ 3
d1_by_slot = refl

-- the numbers of some slots of a row of six
abbrev numbers : Pattern → ℕ → List ℕ → List ℕ
numbers pattern row slots = map (number_after_q 6 (double_p pattern 6 row) (double_q pattern 6 row)) slots

-- left-symmetric, row 2: 1 2 3 P Q 0, where the walk from after Q meets the items in their order
symmetric : numbers Ls 2 (5 ∷ 0 ∷ 1 ∷ 2 ∷ []) ≡ 0 ∷ 1 ∷ 2 ∷ 3 ∷ []
symmetric = refl

-- N continue, row 2: 2 3 Q P 0 1, where the walk from after Q passes over P
continue : numbers NContinue 2 (4 ∷ 5 ∷ 0 ∷ 1 ∷ []) ≡ 0 ∷ 1 ∷ 2 ∷ 3 ∷ []
continue = refl
