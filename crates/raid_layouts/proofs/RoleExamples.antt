-- The tables of roles tried on rows 0 to 3 of four members.
use Rattle.std.proofs.Common.{◌≡◌, ℕ, List, [], ◌∷◌, map, refl, Option, Some, None}
use Rattle.std.specs.List.{range_with_len}
use Rattle.raid_params.specs.declared.types.Level.{Level}
use Rattle.raid_params.specs.declared.types.Level.TheVariants.{Raid0, Raid5, Raid6}
use Rattle.raid_params.specs.declared.types.Pattern.{Pattern}
use Rattle.raid_params.specs.declared.types.Pattern.TheVariants.{Plain, La, Ra, Ls, Rs, ParityFirst, ParityLast, NRestart, NContinue, La6, Ra6, Ls6, Rs6, ParityFirst6}
use Rattle.raid_terms.specs.Role.{p_at, q_at, item_at}

-- a row drawn by its slots: that of P, that of Q, and those of the items
record Drawn : Type 0 where
  p : Option ℕ
  q : Option ℕ
  items : List ℕ

abbrev single : ℕ → List ℕ → Drawn
single p items = record { p = Some p; q = None; items = items }

abbrev double : ℕ → ℕ → List ℕ → Drawn
double p q items = record { p = Some p; q = Some q; items = items }

abbrev four_rows : Level → Pattern → ℕ → List Drawn
four_rows level pattern data_items =
    map (λ row. record { p = p_at level pattern 4 row; q = q_at level pattern 4 row; items = map (item_at level pattern 4 row) (range_with_len 0 data_items) })
    (range_with_len 0 4)

-- 0 1 2 P | 0 1 P 2 | 0 P 1 2 | P 0 1 2
la : four_rows Raid5 La 3 ≡ single 3 (0 ∷ 1 ∷ 2 ∷ []) ∷ single 2 (0 ∷ 1 ∷ 3 ∷ []) ∷ single 1 (0 ∷ 2 ∷ 3 ∷ []) ∷ single 0 (1 ∷ 2 ∷ 3 ∷ []) ∷ []
la = refl

-- P 0 1 2 | 0 P 1 2 | 0 1 P 2 | 0 1 2 P
ra : four_rows Raid5 Ra 3 ≡ single 0 (1 ∷ 2 ∷ 3 ∷ []) ∷ single 1 (0 ∷ 2 ∷ 3 ∷ []) ∷ single 2 (0 ∷ 1 ∷ 3 ∷ []) ∷ single 3 (0 ∷ 1 ∷ 2 ∷ []) ∷ []
ra = refl

-- 0 1 2 P | 1 2 P 0 | 2 P 0 1 | P 0 1 2
ls : four_rows Raid5 Ls 3 ≡ single 3 (0 ∷ 1 ∷ 2 ∷ []) ∷ single 2 (3 ∷ 0 ∷ 1 ∷ []) ∷ single 1 (2 ∷ 3 ∷ 0 ∷ []) ∷ single 0 (1 ∷ 2 ∷ 3 ∷ []) ∷ []
ls = refl

-- P 0 1 2 | 2 P 0 1 | 1 2 P 0 | 0 1 2 P
rs : four_rows Raid5 Rs 3 ≡ single 0 (1 ∷ 2 ∷ 3 ∷ []) ∷ single 1 (2 ∷ 3 ∷ 0 ∷ []) ∷ single 2 (3 ∷ 0 ∷ 1 ∷ []) ∷ single 3 (0 ∷ 1 ∷ 2 ∷ []) ∷ []
rs = refl

-- Q 0 1 P | 0 1 P Q | 0 P Q 1 | P Q 0 1
la_6 : four_rows Raid6 La 2 ≡ double 3 0 (1 ∷ 2 ∷ []) ∷ double 2 3 (0 ∷ 1 ∷ []) ∷ double 1 2 (0 ∷ 3 ∷ []) ∷ double 0 1 (2 ∷ 3 ∷ []) ∷ []
la_6 = refl

-- P Q 0 1 | 0 P Q 1 | 0 1 P Q | Q 0 1 P
ra_6 : four_rows Raid6 Ra 2 ≡ double 0 1 (2 ∷ 3 ∷ []) ∷ double 1 2 (0 ∷ 3 ∷ []) ∷ double 2 3 (0 ∷ 1 ∷ []) ∷ double 3 0 (1 ∷ 2 ∷ []) ∷ []
ra_6 = refl

-- Q 0 1 P | 0 1 P Q | 1 P Q 0 | P Q 0 1
ls_6 : four_rows Raid6 Ls 2 ≡ double 3 0 (1 ∷ 2 ∷ []) ∷ double 2 3 (0 ∷ 1 ∷ []) ∷ double 1 2 (3 ∷ 0 ∷ []) ∷ double 0 1 (2 ∷ 3 ∷ []) ∷ []
ls_6 = refl

-- P Q 0 1 | 1 P Q 0 | 0 1 P Q | Q 0 1 P
rs_6 : four_rows Raid6 Rs 2 ≡ double 0 1 (2 ∷ 3 ∷ []) ∷ double 1 2 (3 ∷ 0 ∷ []) ∷ double 2 3 (0 ∷ 1 ∷ []) ∷ double 3 0 (1 ∷ 2 ∷ []) ∷ []
rs_6 = refl

-- 0 1 P Q | 0 P Q 1 | P Q 0 1 | Q 0 1 P
n_restart : four_rows Raid6 NRestart 2 ≡ double 2 3 (0 ∷ 1 ∷ []) ∷ double 1 2 (0 ∷ 3 ∷ []) ∷ double 0 1 (2 ∷ 3 ∷ []) ∷ double 3 0 (1 ∷ 2 ∷ []) ∷ []
n_restart = refl

-- 0 1 Q P | 1 Q P 0 | Q P 0 1 | P 0 1 Q
n_continue : four_rows Raid6 NContinue 2 ≡ double 3 2 (0 ∷ 1 ∷ []) ∷ double 2 1 (3 ∷ 0 ∷ []) ∷ double 1 0 (2 ∷ 3 ∷ []) ∷ double 0 3 (1 ∷ 2 ∷ []) ∷ []
n_continue = refl

-- 0 1 P Q | 0 P 1 Q | P 0 1 Q | 0 1 P Q
la_last : four_rows Raid6 La6 2 ≡ double 2 3 (0 ∷ 1 ∷ []) ∷ double 1 3 (0 ∷ 2 ∷ []) ∷ double 0 3 (1 ∷ 2 ∷ []) ∷ double 2 3 (0 ∷ 1 ∷ []) ∷ []
la_last = refl

-- P 0 1 Q | 0 P 1 Q | 0 1 P Q | P 0 1 Q
ra_last : four_rows Raid6 Ra6 2 ≡ double 0 3 (1 ∷ 2 ∷ []) ∷ double 1 3 (0 ∷ 2 ∷ []) ∷ double 2 3 (0 ∷ 1 ∷ []) ∷ double 0 3 (1 ∷ 2 ∷ []) ∷ []
ra_last = refl

-- 0 1 P Q | 1 P 0 Q | P 0 1 Q | 0 1 P Q
ls_last : four_rows Raid6 Ls6 2 ≡ double 2 3 (0 ∷ 1 ∷ []) ∷ double 1 3 (2 ∷ 0 ∷ []) ∷ double 0 3 (1 ∷ 2 ∷ []) ∷ double 2 3 (0 ∷ 1 ∷ []) ∷ []
ls_last = refl

-- P 0 1 Q | 1 P 0 Q | 0 1 P Q | P 0 1 Q
rs_last : four_rows Raid6 Rs6 2 ≡ double 0 3 (1 ∷ 2 ∷ []) ∷ double 1 3 (2 ∷ 0 ∷ []) ∷ double 2 3 (0 ∷ 1 ∷ []) ∷ double 0 3 (1 ∷ 2 ∷ []) ∷ []
rs_last = refl

abbrev four_times : Drawn → List Drawn
four_times row = row ∷ row ∷ row ∷ row ∷ []

-- the parity stays: P 0 1 2, 0 1 2 P, P Q 0 1, 0 1 P Q, P 0 1 Q
first_5 : four_rows Raid5 ParityFirst 3 ≡ four_times (single 0 (1 ∷ 2 ∷ 3 ∷ []))
first_5 = refl

last_5 : four_rows Raid5 ParityLast 3 ≡ four_times (single 3 (0 ∷ 1 ∷ 2 ∷ []))
last_5 = refl

first_6 : four_rows Raid6 ParityFirst 2 ≡ four_times (double 0 1 (2 ∷ 3 ∷ []))
first_6 = refl

last_6 : four_rows Raid6 ParityLast 2 ≡ four_times (double 2 3 (0 ∷ 1 ∷ []))
last_6 = refl

first_last : four_rows Raid6 ParityFirst6 2 ≡ four_times (double 0 3 (1 ∷ 2 ∷ []))
first_last = refl

-- 0 1 2 3
plain : four_rows Raid0 Plain 4 ≡ four_times (record { p = None; q = None; items = 0 ∷ 1 ∷ 2 ∷ 3 ∷ [] })
plain = refl
