-- What a sink gains, part by part.
use Rattle.std.proofs.Common.{◌≡◌, ℕ, ◌+◌, ◌-◌, ◌*◌, ◌/◌, ◌%◌, ◌≤◌, List, [], ◌++◌, length, take, Option, None, Some, Result, Ok, Err, refl, sym, ap, ◌∙◌, subst, arith, append_assoc, length-append}
use Rattle.std.specs.Io.KnownBytes.{Appends}
use Rattle.std.specs.Result.{IsErr, IsErrAnd}
use Rattle.std.specs.Prelude.{MatchResult, IfSome, IsSomeAnd, IfErr, OnOk}
use Rattle.std.specs.List.{flat_map, range_with_len}
use Rattle.std.proofs.lemmas.List.{append-nil, take-append-le}
use Rattle.std.proofs.Math.Seq.{take-append-add, take-append_seam}
use Rattle.outside.specs.Streams.{AppendsFront, AppendsSectors, Puts}
use Rattle.virtual_volume.specs.Waiting.{Passed, Passes}
use Rattle.virtual_volume.proofs.Ranges.{flat_long, flat_split}

pub appends_none : (old : Option (List ℕ)) → Appends old old []
appends_none None = tt
appends_none (Some xs) = sym (append-nil xs)

pub appends_join : (a b c : Option (List ℕ)) (x y : List ℕ) → Appends a b x → Appends b c y → Appends a c (x ++ y)
appends_join None b c x y p q = tt
appends_join (Some xs) None c x y p q = absurd p
appends_join (Some xs) (Some ys) None x y p q = absurd q
appends_join (Some xs) (Some ys) (Some zs) x y p q = q ∙ ap (λ (l : List ℕ). l ++ y) p ∙ append_assoc xs x y

-- a front, by the list that it is
pub front_is : (old new : Option (List ℕ)) (all front rest : List ℕ) → all ≡ front ++ rest → Appends old new front → AppendsFront old new all
front_is old new all front rest e p =
    let long : length all ≡ length front + length rest = ap (λ (l : List ℕ). length l) e ∙ length-append front rest in
    let it : take (length front) all ≡ front = ap (λ (l : List ℕ). take (length front) l) e ∙ take-append_seam front rest in
    (length front, omega arith, subst (λ (l : List ℕ). Appends old new l) (sym it) p)

-- a front of whole sectors, by the list that it is
pub sectors_are : (old new : Option (List ℕ)) (all front rest : List ℕ) (n : ℕ) → length front ≡ 512 * n → all ≡ front ++ rest → Appends old new front → AppendsSectors old new all
sectors_are old new all front rest n long e p =
    let whole : length all ≡ length front + length rest = ap (λ (l : List ℕ). length l) e ∙ length-append front rest in
    let it : take (512 * n) all ≡ front = ap (λ (t : ℕ). take t all) (sym long) ∙ ap (λ (l : List ℕ). take (length front) l) e ∙ take-append_seam front rest in
    (n, omega arith, subst (λ (l : List ℕ). Appends old new l) (sym it) p)

-- a front of a part after a part
pub front_after : (a b c : Option (List ℕ)) (x y all : List ℕ) → all ≡ x ++ y → Appends a b x → AppendsFront b c y → AppendsFront a c all
front_after a b c x y all e p q =
    let long : length all ≡ length x + length y = ap (λ (l : List ℕ). length l) e ∙ length-append x y in
    let it : take (length x + q.0) all ≡ x ++ take q.0 y = ap (λ (l : List ℕ). take (length x + q.0) l) e ∙ take-append-add x y q.0 in
    let few = q.1 in
    (length x + q.0, omega arith, subst (λ (l : List ℕ). Appends a c l) (sym it) (appends_join a b c x (take q.0 y) p q.2))

-- a front of more
pub front_more : (old new : Option (List ℕ)) (x z all : List ℕ) → all ≡ x ++ z → AppendsFront old new x → AppendsFront old new all
front_more old new x z all e q =
    let long : length all ≡ length x + length z = ap (λ (l : List ℕ). length l) e ∙ length-append x z in
    let few = q.1 in
    let it : take q.0 all ≡ take q.0 x = ap (λ (l : List ℕ). take q.0 l) e ∙ take-append-le q.0 x z q.1 in
    (q.0, omega arith, subst (λ (l : List ℕ). Appends old new l) (sym it) q.2)

-- nothing passed
pub passes_none : (old : Option (List ℕ)) (waits : List ℕ) → Passes old old waits waits []
passes_none old waits = record { front = []; gained = appends_none old; sectors = refl; whole = append-nil waits }

-- parts that pass one after the other
pub passes_join : (a b c : Option (List ℕ)) (before between after x y all : List ℕ) → all ≡ x ++ y →
    Passes a b before between x → Passes b c between after y → Passes a c before after all
passes_join a b c before between after x y all e p q = record {
  front = p.front ++ q.front;
  gained = appends_join a b c p.front q.front p.gained q.gained;
  sectors = let one = p.sectors in let other = q.sectors in omega (arith, length-append p.front q.front);
  whole =
      ap (λ (l : List ℕ). before ++ l) e ∙ sym (append_assoc before x y) ∙ ap (λ (l : List ℕ). l ++ y) p.whole ∙ append_assoc p.front between y
      ∙ ap (λ (l : List ℕ). p.front ++ l) q.whole ∙ sym (append_assoc p.front q.front after);
}

-- a part that fails after one that passed
pub passes_cut : (a b c : Option (List ℕ)) (before between x y all : List ℕ) → all ≡ x ++ y →
    Passes a b before between x → AppendsFront b c (between ++ y) → AppendsFront a c (before ++ all)
passes_cut a b c before between x y all e p q =
    front_after a b c p.front (between ++ y) (before ++ all)
    (ap (λ (l : List ℕ). before ++ l) e ∙ sym (append_assoc before x y) ∙ ap (λ (l : List ℕ). l ++ y) p.whole ∙ append_assoc p.front between y)
    p.gained q

-- bytes that are put while none wait
pub put_through : {T E : Type 0} (a b c : Option (List ℕ)) (before between bytes : List ℕ) (result : Result T E) → between ≡ [] → length bytes % 512 ≡ 0 →
    Passes a b before between [] → Puts b c result bytes → Passed a c before between result bytes
put_through a b c before between bytes (Ok v) e whole p q =
    passes_join a b c before between between [] bytes bytes refl p (record { front = bytes; gained = q; sectors = whole; whole = ap (λ (l : List ℕ). l ++ bytes) e ∙ sym (append-nil bytes) ∙ ap (λ (l : List ℕ). bytes ++ l) (sym e) })
put_through a b c before between bytes (Err v) e whole p q =
    passes_cut a b c before between [] bytes bytes refl p (subst (λ (l : List ℕ). AppendsFront b c (l ++ bytes)) (sym e) q)

-- what passed is the first sectors of more
pub passes_sectors : (a b : Option (List ℕ)) (before between x y all : List ℕ) → all ≡ x ++ y → Passes a b before between x → AppendsSectors a b (before ++ all)
passes_sectors a b before between x y all e p =
    sectors_are a b (before ++ all) p.front (between ++ y) (length p.front / 512) (let whole = p.sectors in omega arith)
    (ap (λ (l : List ℕ). before ++ l) e ∙ sym (append_assoc before x y) ∙ ap (λ (l : List ℕ). l ++ y) p.whole ∙ append_assoc p.front between y)
    p.gained

-- nothing was put
pub front_none : (old : Option (List ℕ)) (all : List ℕ) → AppendsFront old old all
front_none old all = front_is old old all [] all refl (appends_none old)

-- a failed result, by the front that was put
pub passed_err : {T E : Type 0} (old new : Option (List ℕ)) (before after bytes : List ℕ) (result : Result T E) → IsErr result → AppendsFront old new (before ++ bytes) → Passed old new before after result bytes
passed_err old new before after bytes (Ok v) is q = absurd (cc)
passed_err old new before after bytes (Err e) is q = q

-- what is known of a call, where its error was turned into another
pub passed_as : {T E F : Type 0} (Q : E → F → Type 0) (old new : Option (List ℕ)) (before after bytes : List ℕ) (r : Result T E) (m : Result T F) →
    MatchResult r (λ x. m ≡ Ok x) (λ e. IsErrAnd m (Q e)) → Passed old new before after r bytes → Passed old new before after m bytes
passed_as Q old new before after bytes (Ok x) m is p = rw is p
passed_as Q old new before after bytes (Err x) (Ok v) is p = absurd is
passed_as Q old new before after bytes (Err x) (Err e) is p = p

-- all passed, and nothing waits
pub appends_all : (a b : Option (List ℕ)) (before after x : List ℕ) → after ≡ [] → Passes a b before after x → Appends a b (before ++ x)
appends_all a b before after x e p =
    let same : before ++ x ≡ p.front = p.whole ∙ ap (λ (l : List ℕ). p.front ++ l) e ∙ append-nil p.front in
    subst (λ (l : List ℕ). Appends a b l) (sym same) p.gained

-- a put that failed
pub puts_err : {T E : Type 0} (old new : Option (List ℕ)) (all : List ℕ) (result : Result T E) → IsErr result → AppendsFront old new all → Puts old new result all
puts_err old new all (Ok v) is q = absurd (cc)
puts_err old new all (Err e) is q = q

-- what was put, by the result
pub puts_written : {A T E : Type 0} (told : Option A) (f : A → List ℕ) (old new : Option (List ℕ)) (result : Result T E) →
    IfSome told (λ bytes. Puts old new result (f bytes)) → OnOk result (IfSome told (λ bytes. Appends old new (f bytes)))
puts_written told f old new (Ok v) p = p
puts_written told f old new (Err e) p = tt

pub puts_front : {A T E : Type 0} (told : Option A) (f : A → List ℕ) (old new : Option (List ℕ)) (result : Result T E) →
    IfSome told (λ bytes. Puts old new result (f bytes)) → IfErr result (λ _. IfSome told (λ bytes. AppendsFront old new (f bytes)))
puts_front told f old new (Ok v) p = tt
puts_front told f old new (Err e) p = p

-- nothing was put
pub none_front : {A T E : Type 0} (told : Option A) (f : A → List ℕ) (old : Option (List ℕ)) (result : Result T E) → IfErr result (λ _. IfSome told (λ bytes. AppendsFront old old (f bytes)))
none_front told f old (Ok v) = tt
none_front None f old (Err e) = tt
none_front (Some a) f old (Err e) = front_none old (f a)

-- what is known of a put, where its error was turned into another
pub puts_as : {T E F : Type 0} (Q : E → F → Type 0) (old new : Option (List ℕ)) (bytes : List ℕ) (r : Result T E) (m : Result T F) →
    MatchResult r (λ x. m ≡ Ok x) (λ e. IsErrAnd m (Q e)) → Puts old new r bytes → Puts old new m bytes
puts_as Q old new bytes (Ok x) m is p = rw is p
puts_as Q old new bytes (Err x) (Ok v) is p = absurd is
puts_as Q old new bytes (Err x) (Err e) is p = p

-- a sink that gained a front, and some of more, is longer by the front at least
pub gained_long : (Q : ℕ → ℕ → Type 0) (a b c : Option (List ℕ)) (front more : List ℕ) → Appends a b front → AppendsFront b c more →
    ((before after : ℕ) → before + length front ≤ after → Q before after) → IfSome a (λ old. IsSomeAnd c (λ new. Q (length old) (length new)))
gained_long Q None b c front more p q each = tt
gained_long Q (Some xs) None c front more p q each = absurd p
gained_long Q (Some xs) (Some ys) None front more p q each = absurd q.2
gained_long Q (Some xs) (Some ys) (Some zs) front more p q each =
    let grown : length ys ≡ length xs + length front = ap (λ (l : List ℕ). length l) p ∙ length-append xs front in
    let later : length zs ≡ length ys + length (take q.0 more) = ap (λ (l : List ℕ). length l) q.2 ∙ length-append ys (take q.0 more) in
    each (length xs) (length zs) (omega arith)

-- sectors that are put part by part: more of them
pub sectors_on : (f : ℕ → List ℕ) (first count : ℕ) (a b c : Option (List ℕ)) →
    Appends a b (flat_map f (range_with_len 0 first)) → Appends b c (flat_map f (range_with_len first count)) → Appends a c (flat_map f (range_with_len 0 (first + count)))
sectors_on f first count a b c p q =
    subst (λ (l : List ℕ). Appends a c l) (sym (flat_split f 0 first count (first + count) first refl (omega arith)))
    (appends_join a b c (flat_map f (range_with_len 0 first)) (flat_map f (range_with_len first count)) p q)

-- putting more of them failed
pub sectors_cut : (f : ℕ → List ℕ) (first count n : ℕ) (a b c : Option (List ℕ)) → first + count ≤ n →
    Appends a b (flat_map f (range_with_len 0 first)) → AppendsFront b c (flat_map f (range_with_len first count)) → AppendsFront a c (flat_map f (range_with_len 0 n))
sectors_cut f first count n a b c few p q =
    front_after a b c (flat_map f (range_with_len 0 first)) (flat_map f (range_with_len first (n - first))) (flat_map f (range_with_len 0 n))
    (flat_split f 0 first (n - first) n first (omega arith) (omega arith)) p
    (front_more b c (flat_map f (range_with_len first count)) (flat_map f (range_with_len (first + count) (n - (first + count)))) (flat_map f (range_with_len first (n - first)))
    (flat_split f first count (n - (first + count)) (n - first) (first + count) (omega arith) refl) q)

-- those that were put are the first of more
pub sectors_first : (f : ℕ → List ℕ) (first n : ℕ) (a b : Option (List ℕ)) → ((v : ℕ) → length (f v) ≡ 512) → first ≤ n →
    Appends a b (flat_map f (range_with_len 0 first)) → AppendsSectors a b (flat_map f (range_with_len 0 n))
sectors_first f first n a b each few p =
    sectors_are a b (flat_map f (range_with_len 0 n)) (flat_map f (range_with_len 0 first)) (flat_map f (range_with_len first (n - first))) first (omega (arith, flat_long f 512 0 first each))
    (flat_split f 0 first (n - first) n first (omega arith) (omega arith)) p
