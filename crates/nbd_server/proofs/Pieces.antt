-- Taking bytes of a source, piece by piece.
use Rattle.std.proofs.Common.{◌≡◌, ℕ, ◌+◌, ◌<◌, ◌≤◌, List, [], ◌++◌, length, None, Some, Result, Ok, Err, max, take, drop, refl, sym, ap, arith, append_assoc, length-append, ◌∙◌}
use Rattle.std.proofs.lemmas.List.{length-take, length-take-le, length-drop, take-append-le, take-append-drop, take-take, drop-take, drop_at}
use Rattle.std.proofs.lemmas.Slice.{take-put_mid_below}
use borrow.Rule.Slice.PartMut.{put_mid, post_of}
use Rattle.std.specs.declared.option.Option.{Option}
use Rattle.std.specs.Io.{ReadsAtMost}
use Rattle.std.specs.Io.KnownBytes.{Consumes, IsAtEnd, Keeps, ReadConsumes}

-- what a buffer was filled with so far
pub record FilledSoFar (old now : Option (List ℕ)) (before after turns filled : ℕ) (to : List ℕ) : Type 0 where
  pub some : turns ≤ filled
  pub room : filled < max (length to) 1
  pub consumed : Consumes old now (take filled to)
  pub same : after ≡ before

-- what was let go so far
pub record SkippedSoFar (asked : ℕ) (old now : Option (List ℕ)) (before after turns taken : ℕ) : Type 0 where
  pub some : turns ≤ taken
  pub room : taken < max asked 1
  pub part : List ℕ
  pub consumed : Consumes old now part
  pub size : length part ≡ taken
  pub same : after ≡ before

pub consumes_none : (left : Option (List ℕ)) → Consumes left left []
consumes_none None = tt
consumes_none (Some xs) = refl

pub consumes_more : (old mid new : Option (List ℕ)) (xs ys : List ℕ) → Consumes old mid xs → Consumes mid new ys → Consumes old new (xs ++ ys)
consumes_more None mid new xs ys a b = tt
consumes_more (Some x) None new xs ys a b = absurd a
consumes_more (Some x) (Some y) None xs ys a b = absurd b
consumes_more (Some x) (Some y) (Some z) xs ys a b = rw (a, b) (sym (append_assoc xs ys z))

pub consumes_kept : (old mid new : Option (List ℕ)) (xs : List ℕ) → Consumes old mid xs → Keeps mid new → Consumes old new xs
consumes_kept None mid new xs a b = tt
consumes_kept (Some x) None new xs a b = absurd a
consumes_kept (Some x) (Some y) None xs a b = absurd b
consumes_kept (Some x) (Some y) (Some z) xs a b = rw b a

-- a front in two parts
pub take_split : (a n : ℕ) (xs : List ℕ) → take (a + n) xs ≡ take a xs ++ take n (drop a xs)
take_split a n xs =
    sym (take-append-drop a (take (a + n) xs))
    ∙ ap (λ (ys : List ℕ). ys ++ drop a (take (a + n) xs)) (take-take a (a + n) xs (omega arith))
    ∙ ap (λ (ys : List ℕ). take a xs ++ ys) (drop-take a n xs)

-- a buffer that was filled further
filled_more : (a k n : ℕ) (to front : List ℕ) → a ≤ length to → n ≤ length front → take (a + n) (put_mid a k to front) ≡ take a to ++ take n front
filled_more a k n to front within few =
    take_split a n (put_mid a k to front)
    ∙ ap (λ (ys : List ℕ). ys ++ take n (drop a (put_mid a k to front))) (take-put_mid_below a k to front a (omega arith) within)
    ∙ ap (λ (ys : List ℕ). take a to ++ take n ys) (drop_at (take a to) (front ++ post_of a k to) a (length-take-le a to within))
    ∙ ap (λ (ys : List ℕ). take a to ++ ys) (take-append-le n front (post_of a k to) few)

pub fills_more : (old mid new : Option (List ℕ)) (a k n : ℕ) (to front : List ℕ) → a ≤ length to → n ≤ length front → Consumes old mid (take a to) → Consumes mid new (take n front) → Consumes old new (take (a + n) (put_mid a k to front))
fills_more old mid new a k n to front within few before now = rw (filled_more a k n to front within few) (consumes_more old mid new (take a to) (take n front) before now)

-- what a take gives
pub took : {E : Type 0} (mid new : Option (List ℕ)) (front : List ℕ) (r : Result ℕ E) (n : ℕ) → r ≡ Ok n → ReadConsumes mid new r front → Consumes mid new (take n front)
took mid new front (Ok m) n is gave = let same : m ≡ n = cc in rw (← same) gave.0
took mid new front (Err e) n is gave = absurd (cc)

pub within_front : {E : Type 0} (r : Result ℕ E) (n : ℕ) (front : List ℕ) → r ≡ Ok n → ReadsAtMost r front → n ≤ length front
within_front (Ok m) n front is few = let same : m ≡ n = cc in omega arith
within_front (Err e) n front is few = absurd (cc)

-- nothing came, though there was room: the end
pub at_end : {E : Type 0} (mid new : Option (List ℕ)) (front : List ℕ) (r : Result ℕ E) (n : ℕ) → r ≡ Ok n → n ≡ 0 → 0 < length front → ReadConsumes mid new r front → IsAtEnd new
at_end mid new front (Ok m) n is none room gave = let same : m ≡ n = cc in gave.1 (same ∙ none) room
at_end mid new front (Err e) n is none room gave = absurd (cc)

-- a buffer keeps its length
pub filled_length : (a k : ℕ) (to front : List ℕ) → length front ≡ k → a + k ≡ length to → length (put_mid a k to front) ≡ length to
filled_length a k to front size whole =
    omega (arith, length-append (take a to) (front ++ post_of a k to), length-append front (post_of a k to), length-take a to, length-drop a to, length-drop k (drop a to))
