-- The words of SplitMix64, and the sectors that they fill.
use Rattle.std.specs.Prelude.{ℕ, zero, suc, ◌*◌, List}
use Rattle.std.specs.Int.{w64, to_le_bytes}
use Rattle.std.specs.List.{flat_map, range_with_len}
use Rattle.rand_core.specs.Steps.{stream_of}
use Rattle.rand_core.specs.Stream.{Stream}
use Rattle.rand_xoshiro.specs.SplitMix64.{mix_u64, next_state, splitmix_steps}

-- the word that comes next at a state
unfoldable pub word : ℕ → ℕ
word state = (mix_u64 state).0

-- the state after n words, from this one on
unfoldable pub state_after : ℕ → ℕ → ℕ
state_after zero state = state
state_after (suc n) state = next_state (state_after n state)

-- word n of the generator that is made of a number, counted from 0
abbrev pub word_of : ℕ → ℕ → ℕ
word_of number n = word (state_after n number)

-- sector v where the words, each as eight bytes with the lowest first, stand one after the other from sector 0 on
unfoldable pub random_sector : ℕ → ℕ → List ℕ
random_sector number v = flat_map (λ n. to_le_bytes w64 (word_of number n)) (range_with_len (64 * v) 64)

-- what a generator will answer from a state on
unfoldable pub answers : ℕ → Stream
answers state = stream_of splitmix_steps state
