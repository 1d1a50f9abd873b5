-- Reading a source to its end.
use Rattle.std.proofs.Common.{◌≡◌, ℕ, ◌+◌, ◌<◌, ◌≤◌, List, [], ◌++◌, length, None, Some, Result, Ok, Err, IfSome, take, refl, sym, ap, subst, arith, append_assoc, append-nil, length-append, ◌∙◌}
use Rattle.std.proofs.lemmas.List.{length-take, take-append-le}
use Rattle.std.specs.Io.{ReadsAtMost}
use Rattle.std.specs.declared.option.Option.{Option}
use Rattle.std.specs.Io.KnownBytes.{Consumes, IsAtEnd, Keeps, ReadConsumes}
use Rattle.run_ends.specs.Source.{TakesFew}

-- what was read so far: no more than may be, and nothing failed
pub record ReadSoFar (most : ℕ) (old now : Option (List ℕ)) (before after turns : ℕ) (text : List ℕ) : Type 0 where
  pub some : turns ≤ length text
  pub few : length text ≤ most
  pub consumed : Consumes old now text
  pub same : after ≡ before

pub nothing_read : (left : Option (List ℕ)) → Consumes left left []
nothing_read None = tt
nothing_read (Some xs) = refl

pub consumes_more : (old mid new : Option (List ℕ)) (xs ys : List ℕ) → Consumes old mid xs → Consumes mid new ys → Consumes old new (xs ++ ys)
consumes_more None mid new xs ys a b = tt
consumes_more (Some x) None new xs ys a b = absurd a
consumes_more (Some x) (Some y) None xs ys a b = absurd b
consumes_more (Some x) (Some y) (Some z) xs ys a b = rw (a, b) (sym (append_assoc xs ys z))

-- at the end all is read
pub all_read : (old now : Option (List ℕ)) (text : List ℕ) → Consumes old now text → IsAtEnd now → IfSome old (λ left. text ≡ left)
all_read None now text a e = tt
all_read (Some x) None text a e = absurd a
all_read (Some x) (Some y) text a e = rw (a, e) (sym (append-nil text))

-- what was read was left
pub read_was_left : (old now : Option (List ℕ)) (text : List ℕ) (n : ℕ) → Consumes old now text → n < length text → IfSome old (λ left. n < length left)
read_was_left None now text n a l = tt
read_was_left (Some x) None text n a l = absurd a
read_was_left (Some x) (Some y) text n a l = rw a (omega (arith, length-append text y))

-- what was read so far, and a piece more or nothing
pub takes_read : (most : ℕ) (old now : Option (List ℕ)) (text : List ℕ) → length text ≤ most + 1 → Consumes old now text → TakesFew most old now
takes_read most old now text few consumed = (text, few, consumed)

pub takes_kept : (most : ℕ) (old mid new : Option (List ℕ)) (text : List ℕ) → length text ≤ most → Consumes old mid text → Keeps mid new → TakesFew most old new
takes_kept most None mid new text few consumed kept = (text, omega arith, tt)
takes_kept most (Some x) None new text few consumed kept = absurd consumed
takes_kept most (Some x) (Some y) None text few consumed kept = absurd kept
takes_kept most (Some x) (Some y) (Some z) text few consumed kept = (text, omega arith, rw kept consumed)

-- a piece was asked for, whatever came of it
pub takes_any : {E : Type 0} (most : ℕ) (old mid new : Option (List ℕ)) (text front : List ℕ) (r : Result ℕ E) → length text ≤ most → length text + length front ≤ most + 1 → Consumes old mid text → ReadConsumes mid new r front → TakesFew most old new
takes_any most old mid new text front (Ok n) few room consumed gave =
    takes_read most old new (text ++ take n front) (omega (arith, length-append text (take n front), length-take n front)) (consumes_more old mid new text (take n front) consumed gave.0)
takes_any most old mid new text front (Err e) few room consumed gave = takes_kept most old mid new text few consumed gave

-- nothing came, though there was room: the end
pub at_end : {E : Type 0} (mid new : Option (List ℕ)) (front : List ℕ) (r : Result ℕ E) (n : ℕ) → r ≡ Ok n → n ≡ 0 → 0 < length front → ReadConsumes mid new r front → IsAtEnd new
at_end mid new front (Ok m) n is none room gave = let same : m ≡ n = cc in gave.1 (same ∙ none) room
at_end mid new front (Err e) n is none room gave = absurd (cc)

-- a piece more was taken
pub takes_more : {E : Type 0} (old mid new : Option (List ℕ)) (text more : List ℕ) (r : Result ℕ E) (n : ℕ) (buffer : List ℕ) → Consumes old mid text → r ≡ Ok n → ReadConsumes mid new r buffer → more ≡ text ++ take n buffer →
    Consumes old new more
takes_more old mid new text more (Ok m) n buffer consumed is gave e =
    let same : m ≡ n = cc in
    rw e (consumes_more old mid new text (take n buffer) consumed (subst (λ (k : ℕ). Consumes mid new (take k buffer)) same gave.0))
takes_more old mid new text more (Err f) n buffer consumed is gave e = absurd (cc)

-- and then all is read
pub all_taken : {E : Type 0} (old mid new : Option (List ℕ)) (text front : List ℕ) (r : Result ℕ E) (n : ℕ) → r ≡ Ok n → n ≡ 0 → 0 < length front → Consumes old mid text → ReadConsumes mid new r front → IfSome old (λ left. text ≡ left)
all_taken old mid new text front r n is none room consumed gave =
    let same : text ++ take n front ≡ text = ap (λ (k : ℕ). text ++ take k front) none ∙ append-nil text in
    all_read old new text (subst (λ (xs : List ℕ). Consumes old new xs) same (takes_more old mid new text (text ++ take n front) r n front consumed is gave refl)) (at_end mid new front r n is none room gave)

-- the same of a buffer whose first bytes were filled
pub takes_front : {E : Type 0} (old mid new : Option (List ℕ)) (text front rest : List ℕ) (r : Result ℕ E) (n : ℕ) → Consumes old mid text → r ≡ Ok n → n ≤ length front → ReadConsumes mid new r front →
    Consumes old new (text ++ take n (front ++ rest))
takes_front old mid new text front rest r n consumed is le gave = takes_more old mid new text (text ++ take n (front ++ rest)) r n front consumed is gave (ap (λ (xs : List ℕ). text ++ xs) (take-append-le n front rest le))

-- as many bytes as were taken
pub length_taken : (text front rest : List ℕ) (n : ℕ) → n ≤ length front → length (text ++ take n (front ++ rest)) ≡ length text + n
length_taken text front rest n le = omega (arith, length-append text (take n (front ++ rest)), ap length (take-append-le n front rest le), length-take n front)

-- no more bytes than the buffer has
pub within_front : {E : Type 0} (r : Result ℕ E) (n : ℕ) (front : List ℕ) → r ≡ Ok n → ReadsAtMost r front → n ≤ length front
within_front (Ok m) n front is few = let same : m ≡ n = cc in omega arith
within_front (Err e) n front is few = absurd (cc)
