-- Lists in blocks of 512.
use Rattle.std.proofs.Common.{◌≡◌, ℕ, ◌+◌, ◌-◌, ◌*◌, ◌≤◌, List, ◌++◌, length, take, refl, sym, ap, ◌∙◌, arith, slice_range}
use Rattle.std.specs.List.{flat_map, range_with_len}
use Rattle.std.proofs.lemmas.List.{take_all, take_at, drop_at}
use Rattle.virtual_volume.proofs.Ranges.{flat_split}
use Rattle.volume_device.specs.Lengths.{flat_long}

-- blocks of many
pub flat_slice : (f : ℕ → List ℕ) (total first n : ℕ) → ((v : ℕ) → length (f v) ≡ 512) → first + n ≤ total →
    slice_range (flat_map f (range_with_len 0 total)) (512 * first) (512 * first + 512 * n) ≡ flat_map f (range_with_len first n)
flat_slice f total first n each few =
    let a : List ℕ = flat_map f (range_with_len 0 first) in
    let b : List ℕ = flat_map f (range_with_len first n) in
    let c : List ℕ = flat_map f (range_with_len (first + n) (total - (first + n))) in
    let whole : flat_map f (range_with_len 0 total) ≡ a ++ (b ++ c) =
    flat_split f 0 first (total - first) total first (omega arith) (omega arith)
    ∙ ap (λ (l : List ℕ). a ++ l) (flat_split f first n (total - (first + n)) (total - first) (first + n) (omega arith) refl) in
    let size : 512 * first + 512 * n - 512 * first ≡ 512 * n = omega arith in
    ap (λ (l : List ℕ). slice_range l (512 * first) (512 * first + 512 * n)) whole
    ∙ ap (λ (l : List ℕ). take (512 * first + 512 * n - 512 * first) l) (drop_at a (b ++ c) (512 * first) (flat_long f 0 first each))
    ∙ ap (λ (k : ℕ). take k (b ++ c)) size ∙ take_at b c (512 * n) (flat_long f first n each)

-- all of a list
pub all_blocks : (xs bytes : List ℕ) (at n : ℕ) → at ≡ n → length xs ≡ 512 * n → take (512 * at) xs ≡ bytes → xs ≡ bytes
all_blocks xs bytes at n e long is = sym (take_all (512 * at) xs (omega arith)) ∙ is
