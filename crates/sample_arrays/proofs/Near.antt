-- Sectors of the volume are numbered far below 64 bits.
use Rattle.std.proofs.Common.{◌≡◌, ℕ, ◌+◌, ◌*◌, ◌%◌, ◌/◌, ◌^◌, ◌<◌, ◌≤◌, refl, arith}
use Rattle.std.proofs.lemmas.Nat.{mul-le, mod_below}
use Rattle.std.specs.Prelude.{IsTrue}
use Rattle.raid_params.specs.Size.{data_blocks}
use Rattle.raid_params.specs.Validity.{is_valid_head}
use Rattle.raid_params.specs.declared.types.Head.{Head}
use Rattle.address_map.proofs.Heads.{few_data, short_chunk, some_chunk, whole_below}

near : (row d item c at : ℕ) → row * c < 2 ^ 32 → item < d → d ≤ 24 → at < c → c ≤ 32768 → (row * d + item) * c + at < 2 ^ 40
near row d item c at h k few below short =
    let wide : row * d ≤ row * 24 = mul-le row d row 24 (omega arith) few in
    let most : (row * d + item) * c ≤ (row * 24 + 23) * c = mul-le (row * d + item) c (row * 24 + 23) c (omega arith) (omega arith) in
    let turned : (row * 24 + 23) * c ≡ 24 * (row * c) + 23 * c = grind arith in
    omega arith

pub row_near : (head : Head) (sector item d : ℕ) → IsTrue (is_valid_head head) → sector < 2 ^ 32 → item < data_blocks head → d ≡ data_blocks head →
    (sector / head.chunk * d + item) * head.chunk + sector % head.chunk < 2 ^ 40
row_near head sector item d valid near_end below e =
    let whole = whole_below sector head.chunk (sector / head.chunk) refl in
    rw e (near (sector / head.chunk) (data_blocks head) item head.chunk (sector % head.chunk) (omega arith) below (few_data head valid) (mod_below sector head.chunk (some_chunk head valid)) (short_chunk head valid))
