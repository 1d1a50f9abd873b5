-- The sectors of a mirror's volume by the chunks of a group.
use Rattle.std.proofs.Common.{ℕ, zero, suc, ◌≡◌, ◌+◌, ◌-◌, ◌*◌, ◌/◌, ◌%◌, ◌<◌, ◌≤◌, sym, ap, ap₂, ◌∙◌, arith, zero-add, IsTrue}
use Rattle.std.specs.List.{sum_by, range_with_len}
use Rattle.std.proofs.Math.Nat.{zero-mul, mul-zero, suc-mul}
use Rattle.std.proofs.lemmas.Nat.{div-add-mod', div-mul-add, le-div, mod-mul-add, mod_below, mul-le}
use Rattle.near_mirror.specs.Copies.{copy_sector, copy_slot, near_chunks, near_rows, near_sectors, row_of, slot_of}
use Rattle.near_mirror.specs.Heads.{is_valid_near}
use Rattle.near_mirror.specs.declared.types.NearHead.{NearHead}
use Rattle.near_mirror.proofs.Chunks.{valid_chunk}
use Rattle.near_mirror.proofs.Heads.{chunks_short, enough_members, some_copies, some_members}
use Rattle.near_tables.specs.Tables.{copy_lane, group_rows, lane_depth, lane_row, lane_sector, row_sector}
use Rattle.near_tables.specs.Torn.{copy_depth, part_rows, part_start, rows_tested}
use Rattle.near_tables.proofs.Rows.{group_some, past_row, row_on_group, slot_on, start_same}
use Rattle.near_tables.proofs.Sums.{sum_both, sum_moved, sum_none, sum_parts, sum_split}

-- the volume sector of chunk number j of each group that is number u among these
abbrev pub pair_sector : ℕ → ℕ → ℕ → ℕ → ℕ
pair_sector n chunk j u = (n * (u / chunk) + j) * chunk + u % chunk

-- the sectors of that chunk in one group
one_chunk : (f : ℕ → ℕ) (n chunk q j : ℕ) → 0 < chunk →
    sum_by f (range_with_len (n * q * chunk + j * chunk) chunk) ≡ sum_by (λ u. f (pair_sector n chunk j u)) (range_with_len (q * chunk) chunk)
one_chunk f n chunk q j some =
    sum_moved f (λ u. f (pair_sector n chunk j u)) (n * q * chunk + j * chunk) (q * chunk) chunk
    (λ x lt. ap f (
    let row : (q * chunk + x) / chunk ≡ q = div-mul-add q chunk x lt in
    let rest : (q * chunk + x) % chunk ≡ x = mod-mul-add q chunk x lt in
    let e : n * q * chunk + j * chunk + x ≡ (n * q + j) * chunk + x = grind arith in
    e ∙ sym (ap₂ (λ (k r : ℕ). (n * k + j) * chunk + r) row rest)))

-- all sectors, chunk by chunk
pub by_pairs : (f : ℕ → ℕ) (n chunk q : ℕ) → 0 < chunk →
    sum_by f (range_with_len 0 (n * q * chunk)) ≡ sum_by (λ j. sum_by (λ u. f (pair_sector n chunk j u)) (range_with_len 0 (q * chunk))) (range_with_len 0 n)
by_pairs f n chunk zero some =
    let none : n * zero * chunk ≡ 0 = ap (λ (k : ℕ). k * chunk) (mul-zero n) ∙ zero-mul chunk in
    let empty : zero * chunk ≡ 0 = zero-mul chunk in
    ap (λ (k : ℕ). sum_by f (range_with_len 0 k)) none
    ∙ sym (sum_none (λ j. sum_by (λ u. f (pair_sector n chunk j u)) (range_with_len 0 (zero * chunk))) 0 n
    (λ j lt. ap (λ (k : ℕ). sum_by (λ u. f (pair_sector n chunk (0 + j) u)) (range_with_len 0 k)) empty))
by_pairs f n chunk (suc q) some =
    let long : n * suc q * chunk ≡ n * q * chunk + n * chunk = grind arith in
    let short : q * chunk + chunk ≡ suc q * chunk = omega (arith, suc-mul q chunk) in
    let start : 0 + n * q * chunk ≡ n * q * chunk = omega arith in
    ap (λ (k : ℕ). sum_by f (range_with_len 0 k)) long
    ∙ sum_split f 0 (n * q * chunk) (n * chunk)
    ∙ ap₂ (λ (x y : ℕ). x + y) (by_pairs f n chunk q some)
    (ap (λ (k : ℕ). sum_by f (range_with_len k (n * chunk))) start
    ∙ sum_parts f (n * q * chunk) n chunk
    ∙ sum_moved (λ j. sum_by f (range_with_len (n * q * chunk + j * chunk) chunk)) (λ j. sum_by (λ u. f (pair_sector n chunk j u)) (range_with_len (q * chunk) chunk)) 0 0 n
    (λ j lt. one_chunk f n chunk q (0 + j) some))
    ∙ sum_both (λ j. sum_by (λ u. f (pair_sector n chunk j u)) (range_with_len 0 (q * chunk))) (λ j. sum_by (λ u. f (pair_sector n chunk j u)) (range_with_len (q * chunk) chunk)) 0 n
    ∙ sum_moved (λ j. sum_by (λ u. f (pair_sector n chunk j u)) (range_with_len 0 (q * chunk)) + sum_by (λ u. f (pair_sector n chunk j u)) (range_with_len (q * chunk) chunk))
    (λ j. sum_by (λ u. f (pair_sector n chunk j u)) (range_with_len 0 (suc q * chunk))) 0 0 n
    (λ j lt. ap (λ (k : ℕ). sum_by (λ u. f (pair_sector n chunk (0 + j) u)) (range_with_len 0 (q * chunk)) + sum_by (λ u. f (pair_sector n chunk (0 + j) u)) (range_with_len k chunk)) (sym (zero-add (q * chunk))) ∙ sym (sum_split (λ u. f (pair_sector n chunk (0 + j) u)) 0 (q * chunk) chunk) ∙ ap (λ (k : ℕ). sum_by (λ u. f (pair_sector n chunk (0 + j) u)) (range_with_len 0 k)) short)

-- where the copies of these sectors lie
pub record IsCopyAt (head : NearHead) (end j copy u : ℕ) : Type 0 where
  pub slot : copy_slot head copy (pair_sector head.members head.chunk j u) ≡ slot_of head.layout.copying head.members head.layout.copies copy j
  pub sector : copy_sector head end copy (pair_sector head.members head.chunk j u) ≡ lane_sector head end (copy_lane head copy j) u
  pub depth : copy_depth head end copy (pair_sector head.members head.chunk j u) ≡ lane_depth head (copy_lane head copy j) u

spread : (a b c d k x : ℕ) → (a + b + c * d) * k + x ≡ c * (d * k) + ((a + b) * k + x)
spread a b c d k x = grind arith

pub pair_copy : (head : NearHead) (end j copy u : ℕ) → IsTrue (is_valid_near head) → j < head.members → IsCopyAt head end j copy u
pair_copy head end j copy u h lt =
    let n = head.members in
    let q = u / head.chunk in
    let rows = near_rows head end in
    let p = part_rows head.layout.copying head.layout.copies (near_rows head end) in
    let g = group_rows head.layout.copying head.layout.copies in
    let lane = copy_lane head copy j in
    let some = valid_chunk head h in
    let many = some_members head h in
    let below = mod_below u head.chunk some in
    let chunk : pair_sector head.members head.chunk j u / head.chunk ≡ head.members * (u / head.chunk) + j = div-mul-add (n * q + j) head.chunk (u % head.chunk) below in
    let rest : pair_sector head.members head.chunk j u % head.chunk ≡ u % head.chunk = mod-mul-add (n * q + j) head.chunk (u % head.chunk) below in
    let row = row_on_group head.layout.copying head.members head.layout.copies (near_rows head end) copy (u / head.chunk) j (omega arith) lt in
    let apart : copy_sector head end copy (pair_sector head.members head.chunk j u)
    ≡ copy * (part_rows head.layout.copying head.layout.copies (near_rows head end) * head.chunk) + lane_depth head (copy_lane head copy j) u
    = ap₂ (λ (c r : ℕ). row_of head.layout.copying head.members head.layout.copies (near_rows head end) copy c * head.chunk + r) chunk rest
    ∙ ap (λ (r : ℕ). r * head.chunk + u % head.chunk) row
    ∙ spread (g * q) (lane_row head.layout.copying lane) copy p head.chunk (u % head.chunk) in
    record {
      slot = ap (slot_of head.layout.copying head.members head.layout.copies copy) chunk ∙ slot_on head.layout.copying n head.layout.copies copy q j (omega arith);
      sector = apart ∙ ap (λ (s : ℕ). s + lane_depth head (copy_lane head copy j) u) (start_same head.layout.copying n head.layout.copies rows copy j head.chunk);
      depth = ap (λ (s : ℕ). s - part_start head end copy) apart ∙ less (part_start head end copy) (lane_depth head (copy_lane head copy j) u);
    }
  where
    less : (a b : ℕ) → a + b - a ≡ b
    less a b = omega arith

-- no later copy of a sector past the volume lies among those that are tested
pub past_volume : (head : NearHead) (end v copy : ℕ) → IsTrue (is_valid_near head) → 1 ≤ copy → near_sectors head end ≤ v →
    rows_tested head.layout.copying head.members head.layout.copies (near_rows head end) * head.chunk ≤ copy_depth head end copy v
past_volume head end v copy h later past =
    let t = rows_tested head.layout.copying head.members head.layout.copies (near_rows head end) in
    let p = part_rows head.layout.copying head.layout.copies (near_rows head end) in
    let r = row_of head.layout.copying head.members head.layout.copies (near_rows head end) copy (v / head.chunk) in
    let some = valid_chunk head h in
    let chunks : near_chunks head end ≤ v / head.chunk = le-div (near_chunks head end) v head.chunk some past in
    let row = past_row head.layout.copying head.members head.layout.copies (near_rows head end) copy (v / head.chunk) (some_copies head h) (enough_members head h) later chunks in
    past_by t p r copy head.chunk (v % head.chunk) row
  where
    drop : (a b c d : ℕ) → a + b ≤ c → a ≤ c + d - b
    drop a b c d le = omega arith

    past_by : (t p r i k x : ℕ) → t + i * p ≤ r → t * k ≤ r * k + x - i * (p * k)
    past_by t p r i k x le =
        let most : (t + i * p) * k ≤ r * k = mul-le (t + i * p) k r k le (omega arith) in
        let apart : (t + i * p) * k ≡ t * k + i * (p * k) = grind arith in
        drop (t * k) (i * (p * k)) (r * k) x (omega arith)

-- the volume is no longer than all chunks of all groups
pub volume_within : (head : NearHead) (end : ℕ) → near_sectors head end ≤ head.members * near_rows head end * head.chunk
volume_within head end =
    let few : near_chunks head end ≤ near_rows head end * head.members = chunks_short head.layout.copying head.members head.layout.copies (near_rows head end) in
    let times : near_chunks head end * head.chunk ≤ near_rows head end * head.members * head.chunk = mul-le (near_chunks head end) head.chunk (near_rows head end * head.members) head.chunk few (omega arith) in
    let turned : near_rows head end * head.members * head.chunk ≡ head.members * near_rows head end * head.chunk = grind arith in
    omega arith

-- number u among the sectors of a row of each group is no earlier sector
pub row_late : (step chunk row u : ℕ) → 1 ≤ step → u ≤ row_sector step chunk row u
row_late step chunk row u some =
    let split : u / chunk * chunk + u % chunk ≡ u = div-add-mod' u chunk in
    let more : 1 * (u / chunk) ≤ step * (u / chunk) = mul-le 1 (u / chunk) step (u / chunk) some (omega arith) in
    let wide : u / chunk * chunk ≤ (step * (u / chunk) + row) * chunk = mul-le (u / chunk) chunk (step * (u / chunk) + row) chunk (omega arith) (omega arith) in
    omega arith

pub lane_late : (head : NearHead) (lane u : ℕ) → IsTrue (is_valid_near head) → u ≤ lane_depth head lane u
lane_late head lane u h =
    let some = some_copies head h in
    row_late (group_rows head.layout.copying head.layout.copies) head.chunk (lane_row head.layout.copying lane) u (group_some head.layout.copying head.layout.copies (omega arith))
