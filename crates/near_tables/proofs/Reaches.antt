-- What is tested lies before the end of the members.
use Rattle.std.proofs.Common.{ℕ, zero, suc, ◌≡◌, ◌+◌, ◌-◌, ◌*◌, ◌/◌, ◌<◌, ◌≤◌, arith}
use Rattle.std.proofs.Math.Nat.{zero-mul, mul-zero}
use Rattle.std.proofs.lemmas.Nat.{mul-le}
use Rattle.near_mirror.specs.Copies.{near_chunks, near_rows}
use Rattle.near_mirror.specs.declared.types.Copying.{Copying}
use Rattle.near_mirror.specs.declared.types.Copying.TheVariants.{Near, Far, Offset}
use Rattle.near_mirror.specs.declared.types.NearHead.{NearHead}
use Rattle.near_tables.specs.Reading.{ReachesTo}
use Rattle.near_tables.specs.Torn.{part_rows, rows_tested, tested_below}
use Rattle.near_tables.proofs.Rows.{div_short, tested_fewer, whole_below}
use Rattle.near_mirror.proofs.Heads.{chunks_short}

-- the rows of a lane's part that are tested are among all rows
reach_rows : (copying : Copying) (n copies rows lane : ℕ) → lane < copies → lane * part_rows copying copies rows + rows_tested copying n copies rows ≤ rows
reach_rows Near n copies rows lane lt = let few = tested_fewer Near n copies rows in let none : lane * 0 ≡ 0 = mul-zero lane in omega arith
reach_rows Far n copies rows lane lt =
    let whole = whole_below rows copies in
    let most : (lane + 1) * (rows / copies) ≤ copies * (rows / copies) = mul-le (lane + 1) (rows / copies) copies (rows / copies) (omega arith) (omega arith) in
    let wide : (lane + 1) * (rows / copies) ≡ lane * (rows / copies) + rows / copies = grind arith in
    let turned : copies * (rows / copies) ≡ rows / copies * copies = grind arith in
    omega arith
reach_rows Offset n copies rows lane lt = let few = tested_fewer Offset n copies rows in let none : lane * 0 ≡ 0 = mul-zero lane in omega arith

in_rows : (lane p t rows chunk : ℕ) → lane * p + t ≤ rows → lane * (p * chunk) + t * chunk ≤ rows * chunk
in_rows lane p t rows chunk le =
    let most : (lane * p + t) * chunk ≤ rows * chunk = mul-le (lane * p + t) chunk rows chunk le (omega arith) in
    let wide : (lane * p + t) * chunk ≡ lane * (p * chunk) + t * chunk = grind arith in
    omega arith

-- without a row there is no chunk
some_rows : (rows members chunks : ℕ) → chunks ≤ rows * members → 1 ≤ chunks → 1 ≤ rows
some_rows zero members chunks few some = let none : zero * members ≡ 0 = zero-mul members in absurd (omega arith)
some_rows (suc rows) members chunks few some = omega arith

pub reaches_end : (head : NearHead) (end window : ℕ) → 1 ≤ near_chunks head end → ReachesTo head end (tested_below head end window) end
reaches_end head end window some = λ lane lt.
    let rows = some_rows (near_rows head end) head.members (near_chunks head end) (chunks_short head.layout.copying head.members head.layout.copies (near_rows head end)) some in
    let fits = in_rows lane (part_rows head.layout.copying head.layout.copies (near_rows head end)) (rows_tested head.layout.copying head.members head.layout.copies (near_rows head end)) (near_rows head end) head.chunk
    (reach_rows head.layout.copying head.members head.layout.copies (near_rows head end) lane lt) in
    let whole = whole_below (end - head.offset) head.chunk in
    let short = div_short (end - head.offset) head.chunk in
    omega arith
