-- The word that stands first, by how long it is.
use Rattle.std.proofs.Common.{◌≡◌, ℕ, ◌≤◌, Bool, true, false, cond, List, [], ◌∷◌, length, take, drop, refl, ap, arith}
use Rattle.rescue_text.specs.Lines.{is_blank, past_word, word}

taken : (b : Bool) (byte : ℕ) (bytes : List ℕ) → take (length (word bytes)) bytes ≡ word bytes → take (length (cond b [] (byte ∷ word bytes))) (byte ∷ bytes) ≡ cond b [] (byte ∷ word bytes)
taken true byte bytes e = refl
taken false byte bytes e = ap (λ (cs : List ℕ). byte ∷ cs) e

-- it is so many bytes
pub word_is_taken : (text : List ℕ) → take (length (word text)) text ≡ word text
word_is_taken [] = refl
word_is_taken (byte ∷ bytes) = taken (is_blank byte) byte bytes (word_is_taken bytes)

left : (b : Bool) (byte : ℕ) (bytes : List ℕ) → drop (length (word bytes)) bytes ≡ past_word bytes → drop (length (cond b [] (byte ∷ word bytes))) (byte ∷ bytes) ≡ cond b (byte ∷ bytes) (past_word bytes)
left true byte bytes e = refl
left false byte bytes e = e

-- and the others follow it
pub past_word_is_left : (text : List ℕ) → drop (length (word text)) text ≡ past_word text
past_word_is_left [] = refl
past_word_is_left (byte ∷ bytes) = left (is_blank byte) byte bytes (past_word_is_left bytes)

fits : (b : Bool) (byte : ℕ) (bytes : List ℕ) → length (word bytes) ≤ length bytes → length (cond b [] (byte ∷ word bytes)) ≤ length (byte ∷ bytes)
fits true byte bytes few = omega arith
fits false byte bytes few = omega arith

-- which are no more than there are
pub word_fits : (text : List ℕ) → length (word text) ≤ length text
word_fits [] = omega arith
word_fits (byte ∷ bytes) = fits (is_blank byte) byte bytes (word_fits bytes)
