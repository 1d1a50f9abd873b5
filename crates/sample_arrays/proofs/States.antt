-- The states of the generator, and the sectors that its words fill.
use Rattle.std.proofs.Common.{◌≡◌, ℕ, zero, suc, ◌+◌, ◌*◌, ◌<◌, ◌%◌, ◌^◌, List, [], ◌++◌, refl, sym, ap, ◌∙◌, arith}
use Rattle.std.proofs.Math.Numerals.{add-one}
use Rattle.std.specs.Int.{w64, to_le_bytes}
use Rattle.std.specs.List.{flat_map, range_with_len}
use Rattle.rand_core.specs.Stream.{Stream, next_u64}
use Rattle.rand_core.specs.Steps.{stream_of}
use Rattle.rand_xoshiro.specs.SplitMix64.{next_state}
use Rattle.sample_arrays.proofs.Ranges.{flat_more}
use Rattle.sample_arrays.specs.Words.{answers, random_sector, state_after, word, word_of}

pub next_is : (x : ℕ) → next_u64 (answers x) ≡ (word x, answers (next_state x))
unfolding next_u64 stream_of word answers
next_is x = refl

pub word_is : (w x : ℕ) (new : Stream) → (let p : ℕ × Stream = (w, new) in p) ≡ next_u64 (answers x) → w ≡ word x
word_is w x new e = ap (λ (p : ℕ × Stream). p.0) (e ∙ next_is x)

pub rest_is : (w x : ℕ) (new : Stream) → (let p : ℕ × Stream = (w, new) in p) ≡ next_u64 (answers x) → new ≡ answers (next_state x)
rest_is w x new e = ap (λ (p : ℕ × Stream). p.1) (e ∙ next_is x)

pub answers_next : (x y : ℕ) → answers x ≡ answers y → answers (next_state x) ≡ answers (next_state y)
answers_next x y e = ap (λ (p : ℕ × Stream). p.1) (sym (next_is x) ∙ ap next_u64 e ∙ next_is y)

pub word_same : (x y : ℕ) → answers x ≡ answers y → word x ≡ word y
word_same x y e = ap (λ (p : ℕ × Stream). p.0) (sym (next_is x) ∙ ap next_u64 e ∙ next_is y)

pub state_more : (n x : ℕ) → state_after (n + 1) x ≡ next_state (state_after n x)
unfolding state_after
state_more n x = ap (λ (k : ℕ). state_after k x) (add-one n)

-- one step more, where the state is counted from a first one
stepped : (x a c : ℕ) → ((x + a % 2 ^ 64) % 2 ^ 64 + c) % 2 ^ 64 ≡ (x + (a + c) % 2 ^ 64) % 2 ^ 64
stepped x a c = omega arith

-- a step for each word
pub state_at : (number n : ℕ) → number < 2 ^ 64 → (number + n * 0x9e3779b97f4a7c15 % 2 ^ 64) % 2 ^ 64 ≡ state_after n number
unfolding state_after
state_at number zero small = omega arith
state_at number (suc n) small =
    let h = state_at number n small in
    let steps : suc n * 0x9e3779b97f4a7c15 ≡ n * 0x9e3779b97f4a7c15 + 0x9e3779b97f4a7c15 = omega arith in
    ap (λ (k : ℕ). (number + k % 2 ^ 64) % 2 ^ 64) steps ∙ sym (stepped number (n * 0x9e3779b97f4a7c15) 0x9e3779b97f4a7c15) ∙ ap next_state h

-- the words of a sector, one by one
unfoldable pub words_front : ℕ → ℕ → ℕ → List ℕ
words_front number first n = flat_map (λ k. to_le_bytes w64 (word_of number k)) (range_with_len first n)

pub no_words : (number first : ℕ) → words_front number first 0 ≡ []
unfolding words_front
no_words number first = refl

pub one_word_more : (number first n : ℕ) → words_front number first (n + 1) ≡ words_front number first n ++ to_le_bytes w64 (word (state_after (first + n) number))
unfolding words_front
one_word_more number first n = flat_more (λ k. to_le_bytes w64 (word_of number k)) first n (first + n) refl

pub all_words : (number sector : ℕ) → words_front number (64 * sector) 64 ≡ random_sector number sector
unfolding words_front random_sector
all_words number sector = refl

-- a turn of the loop that appends them
pub word_appended : (number first n w state : ℕ) (old bytes new : List ℕ) → old ≡ words_front number first n → answers state ≡ answers (state_after (first + n) number) → w ≡ word state →
    bytes ≡ to_le_bytes w64 w → new ≡ old ++ bytes → new ≡ words_front number first (n + 1)
word_appended number first n w state old bytes new so_far at is written grown =
    let same : w ≡ word (state_after (first + n) number) = is ∙ word_same state (state_after (first + n) number) at in
    grown ∙ ap (λ (xs : List ℕ). xs ++ bytes) so_far
    ∙ ap (λ (xs : List ℕ). words_front number first n ++ xs) (written ∙ ap (λ (x : ℕ). to_le_bytes w64 x) same)
    ∙ sym (one_word_more number first n)

pub state_moved : (number first n state new : ℕ) → answers state ≡ answers (state_after (first + n) number) → answers new ≡ answers (next_state state) →
    answers new ≡ answers (state_after (first + (n + 1)) number)
state_moved number first n state new at moved =
    let on : first + n + 1 ≡ first + (n + 1) = omega arith in
    moved ∙ answers_next state (state_after (first + n) number) at
    ∙ ap answers (sym (state_more (first + n) number) ∙ ap (λ (k : ℕ). state_after k number) on)
