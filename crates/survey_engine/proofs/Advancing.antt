-- A step of a sweep.
use Rattle.std.proofs.Common.{◌≡◌, ℕ, ◌+◌, ◌-◌, ◌*◌, ◌<◌, ◌≤◌, true, nat_lt, List, [], ◌∷◌, length, take, drop, map, min, replicate, refl, ap, sym, subst, ◌∙◌, arith, IfSome, Some, None, Option, Result, Ok, Err, OnErr}
use Rattle.std.proofs.lemmas.Bool.Decides.{nat_tests}
use Rattle.outside.specs.Attached.{told_all}
use Rattle.outside.specs.Seen.{Image, Seen, OnlyReads}
use Rattle.outside.proofs.Told.{told_all_length}
use Rattle.outside.proofs.Reading.{reads_none, reads_up}
use Rattle.survey_engine.specs.Sweep.{GoesOn, Swept, blocks_in, next_count, sectors_of}
use Rattle.survey_engine.proofs.Blocks.{blocks_length, no_blocks}

no_sectors : (first : ℕ) (all : List (List ℕ)) → map (sectors_of first 0) all ≡ replicate (length all) []
no_sectors first [] = refl
no_sectors first (bytes ∷ all) =
    let none : 512 * (first + 0) - 512 * first ≡ 0 = omega arith in
    ap (λ (x : List ℕ). x ∷ map (sectors_of first 0) all) (ap (λ (n : ℕ). take n (drop (512 * first) bytes)) none) ∙ ap (λ (xs : List (List ℕ)). [] ∷ xs) (no_sectors first all)

none_of : (attached : List Image) (told : Option (List (List ℕ))) (images first : ℕ) (bytes : List ℕ) → told_all attached ≡ told → length attached ≡ images →
    IfSome told (λ all. blocks_in images 0 bytes ≡ map (sectors_of first 0) all)
none_of attached None images first bytes e long = tt
none_of attached (Some all) images first bytes e long =
    let same : images ≡ length all = omega (arith, told_all_length attached all e) in
    no_blocks images bytes ∙ ap (λ (n : ℕ). replicate n []) same ∙ sym (no_sectors first all)

-- where nothing is left, the blocks are empty
pub none_told : (attached : List Image) (images first : ℕ) (bytes : List ℕ) → length attached ≡ images →
    IfSome (told_all attached) (λ all. blocks_in images 0 bytes ≡ map (sectors_of first 0) all)
none_told attached images first bytes long = none_of attached (told_all attached) images first bytes refl long

-- and nothing is read
pub not_read : (s : Seen) (n : ℕ) → OnlyReads s s n
not_read s n = reads_up s s (reads_none s) (omega arith)

-- a sweep over `images` images, as it is kept
abbrev pub kept : ℕ → ℕ → ℕ → ℕ → List ℕ → Swept
kept images first count end bytes = record { first = first; count = count; end = end; blocks = blocks_in images count bytes }

-- it has a block of each image
pub images_are : (old : Swept) (images first count end n : ℕ) (bytes : List ℕ) → kept images first count end bytes ≡ old → n ≡ length old.blocks → n ≡ images
images_are old images first count end n bytes is long = long ∙ ap (λ (s : Swept). length s.blocks) (sym is) ∙ blocks_length images count bytes

-- how many sectors come next
pub none_next : (old : Swept) (images first count end : ℕ) (bytes : List ℕ) → kept images first count end bytes ≡ old → end ≤ first + count → 0 ≡ next_count old
none_next old images first count end bytes is past = subst (λ (s : Swept). 0 ≡ next_count s) is (omega arith)

pub some_next : (old : Swept) (images first count end sectors : ℕ) (bytes : List ℕ) → kept images first count end bytes ≡ old → sectors ≡ min (end - (first + count)) 256 → sectors ≡ next_count old
some_next old images first count end sectors bytes is fit = subst (λ (s : Swept). sectors ≡ next_count s) is (omega arith)

pub more_next : (old : Swept) (images first count end : ℕ) (bytes : List ℕ) → kept images first count end bytes ≡ old → first + count < end → true ≡ nat_lt 0 (next_count old)
more_next old images first count end bytes is before = subst (λ (s : Swept). true ≡ nat_lt 0 (next_count s)) is (tells (next_count (kept images first count end bytes)) (omega arith))
  where
    tells : (n : ℕ) → 0 < n → true ≡ nat_lt 0 n
    tells n some = grind (arith, nat_tests)

-- and the sweep goes on by them
pub went_on : (old : Swept) (images first count end sectors n : ℕ) (bytes new : List ℕ) → kept images first count end bytes ≡ old → sectors ≡ n →
    GoesOn old (kept images (first + count) sectors end new) n
went_on old images first count end sectors n bytes new is same = subst (λ (s : Swept). GoesOn s (kept images (first + count) sectors end new) n) is (record {
  first = refl;
  count = same;
  end = refl;
  images = blocks_length images sectors new ∙ sym (blocks_length images count bytes);
})

-- as many sectors are read
pub reads_as : (a b : Seen) (n images sectors m : ℕ) → OnlyReads a b (images * sectors) → n ≡ images → sectors ≡ m → OnlyReads a b (n * m)
reads_as a b n images sectors m reads long same = subst (λ (k : ℕ). OnlyReads a b k) (ap (λ (i : ℕ). i * sectors) (sym long) ∙ ap (λ (k : ℕ). n * k) same) reads

-- what holds in any case holds at an error
pub at_error : {A E P : Type 0} (r : Result A E) → P → OnErr r P
at_error (Ok x) holds = tt
at_error (Err e) holds = holds
