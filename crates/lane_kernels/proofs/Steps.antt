-- The steps of a loop that changes a list place by place.
use Rattle.std.proofs.Common.{ℕ, ◌≡◌, ◌<◌, ◌≤◌, ◌+◌, List, [], ◌∷◌, ◌++◌, length, take, drop, get_or, map, subst, refl, sym, ap, ◌∙◌, arith, add-zero}
use Rattle.std.proofs.Math.ListN.{set, length-set}
use Rattle.std.proofs.Math.Seq.{take-add, drop-append-add}
use Rattle.std.proofs.lemmas.Slice.{drop-append-drop}
use Rattle.std.proofs.lemmas.List.{drop-drop, take_more_set, drop-set-lt, take_more, length-take-le, get_or-drop, take_all}
use Rattle.std.proofs.lemmas.Simd.{length-chunk, length-zip2, length-put_chunk, put_chunk_is, take_more_put_chunk}
use lib.Lanes.{zip2, put_chunk, chunk}

-- a is f of old and b below `at`, and old from there on
pub record Done (f : ℕ → ℕ → ℕ) (a old b : List ℕ) (at : ℕ) : Type 0 where
  pub front : take at a ≡ zip2 f (take at old) (take at b)
  pub rest : drop at a ≡ drop at old
  pub long : length a ≡ length old
  pub wide : length b ≡ length old
  pub within : at ≤ length old

pub zip2-append : (f : ℕ → ℕ → ℕ) (xs ys us vs : List ℕ) → length xs ≡ length us → zip2 f (xs ++ ys) (us ++ vs) ≡ zip2 f xs us ++ zip2 f ys vs
zip2-append f [] ys [] vs e = refl
zip2-append f [] ys (u ∷ us) vs e = absurd (omega arith)
zip2-append f (x ∷ xs) ys [] vs e = absurd (omega arith)
zip2-append f (x ∷ xs) ys (u ∷ us) vs e = ap (λ (t : List ℕ). f x u ∷ t) (zip2-append f xs ys us vs (omega arith))

pub done_start : (f : ℕ → ℕ → ℕ) (a b : List ℕ) → length b ≡ length a → Done f a a b 0
done_start f a b e = record { front = refl; rest = refl; long = refl; wide = e; within = omega arith }

pub done_block : (f : ℕ → ℕ → ℕ) (a old b : List ℕ) (at n : ℕ) → at + n ≤ length old → Done f a old b at →
    Done f (put_chunk at a (zip2 f (chunk at n a) (chunk at n b))) old b (at + n)
done_block f a old b at n h d =
    let ys = zip2 f (chunk at n a) (chunk at n b) in
    let la : length (chunk at n a) ≡ n = length-chunk at n a (omega (arith, d.long)) in
    let lb : length (chunk at n b) ≡ n = length-chunk at n b (omega (arith, d.wide)) in
    let ly : length ys ≡ n = length-zip2 f (chunk at n a) (chunk at n b) (la ∙ sym lb) ∙ la in
    let lt : length (take at a) ≡ at = length-take-le at a (omega (arith, d.long, d.within)) in
    let tail : List ℕ = ys ++ drop (length ys) (drop at a) in
    let rest_of : drop (at + n) (put_chunk at a ys) ≡ drop (at + n) old =
    ap (drop (at + n)) (put_chunk_is at a ys (omega (arith, d.long)))
    ∙ ap (λ (j : ℕ). drop (j + n) (take at a ++ tail)) (sym lt) ∙ drop-append-add (take at a) tail n
    ∙ drop-append-drop (length ys) (drop at a) ys n (omega arith) refl
    ∙ ap (drop n) d.rest ∙ drop-drop n at old in
    record {
      front = take_more_put_chunk at a ys (at + n) (omega arith) (omega (arith, d.long)) ∙ ap (λ (t : List ℕ). t ++ ys) d.front
          ∙ ap (λ (t : List ℕ). zip2 f (take at old) (take at b) ++ zip2 f (take n t) (chunk at n b)) d.rest
          ∙ sym (zip2-append f (take at old) (chunk at n old) (take at b) (chunk at n b) (length-take-le at old d.within ∙ sym (length-take-le at b (omega (arith, d.wide, d.within)))))
          ∙ ap (λ (t : List ℕ). zip2 f t (take at b ++ chunk at n b)) (sym (take-add at n old))
          ∙ ap (zip2 f (take (at + n) old)) (sym (take-add at n b));
      rest = rest_of;
      long = length-put_chunk at a ys ∙ d.long;
      wide = d.wide;
      within = h;
    }

pub done_one : (f : ℕ → ℕ → ℕ) (a old b : List ℕ) (at : ℕ) → at < length old → Done f a old b at →
    Done f (set a at (f (get_or a at 0) (get_or b at 0))) old b (at + 1)
done_one f a old b at h d =
    let y = f (get_or a at 0) (get_or b at 0) in
    let same : get_or a at 0 ≡ get_or old at 0 = ap (λ (k : ℕ). get_or a k 0) (sym (add-zero at)) ∙ sym (get_or-drop at a 0 0) ∙ ap (λ (t : List ℕ). get_or t 0 0) d.rest ∙ get_or-drop at old 0 0 ∙ ap (λ (k : ℕ). get_or old k 0) (add-zero at) in
    record {
      front = take_more_set a at y (omega (arith, d.long)) ∙ ap (λ (t : List ℕ). t ++ (y ∷ [])) d.front
          ∙ ap (λ (x : ℕ). zip2 f (take at old) (take at b) ++ (f x (get_or b at 0) ∷ [])) same
          ∙ sym (zip2-append f (take at old) (get_or old at 0 ∷ []) (take at b) (get_or b at 0 ∷ []) (length-take-le at old d.within ∙ sym (length-take-le at b (omega (arith, d.wide, d.within)))))
          ∙ ap (λ (t : List ℕ). zip2 f t (take at b ++ (get_or b at 0 ∷ []))) (sym (take_more old at 0 h))
          ∙ ap (zip2 f (take (at + 1) old)) (sym (take_more b at 0 (omega (arith, d.wide))));
      rest = drop-set-lt (at + 1) a at y (omega arith) ∙ next a old at d.rest;
      long = length-set a at y ∙ d.long;
      wide = d.wide;
      within = omega arith;
    }
  where
    next : (a old : List ℕ) (at : ℕ) → drop at a ≡ drop at old → drop (at + 1) a ≡ drop (at + 1) old
    next a old at e = sym (drop-drop 1 at a) ∙ ap (drop 1) e ∙ drop-drop 1 at old

pub done_all : (f : ℕ → ℕ → ℕ) (a old b : List ℕ) (at : ℕ) → length old ≤ at → Done f a old b at → a ≡ zip2 f old b
done_all f a old b at h d =
    sym (take_all at a (omega (arith, d.long))) ∙ d.front ∙ ap (λ (t : List ℕ). zip2 f t (take at b)) (take_all at old h) ∙ ap (zip2 f old) (take_all at b (omega (arith, d.wide)))

-- a loop over one list: both lists are the old one, and the second is not looked at

abbrev pub alone : (ℕ → ℕ) → ℕ → ℕ → ℕ
alone f x y = f x

zip2-alone : (f : ℕ → ℕ) (xs ys : List ℕ) → length xs ≡ length ys → zip2 (alone f) xs ys ≡ map f xs
zip2-alone f [] ys e = refl
zip2-alone f (x ∷ xs) [] e = absurd (omega arith)
zip2-alone f (x ∷ xs) (y ∷ ys) e = ap (λ (t : List ℕ). f x ∷ t) (zip2-alone f xs ys (omega arith))

pub done_start_alone : (f : ℕ → ℕ) (a : List ℕ) → Done (alone f) a a a 0
done_start_alone f a = done_start (alone f) a a refl

pub done_block_alone : (f : ℕ → ℕ) (a old : List ℕ) (at n : ℕ) → at + n ≤ length old → Done (alone f) a old old at →
    Done (alone f) (put_chunk at a (map f (chunk at n a))) old old (at + n)
done_block_alone f a old at n h d =
    let same : length (chunk at n a) ≡ length (chunk at n old) = length-chunk at n a (omega (arith, d.long)) ∙ sym (length-chunk at n old h) in
    subst (λ (t : List ℕ). Done (alone f) (put_chunk at a t) old old (at + n)) (zip2-alone f (chunk at n a) (chunk at n old) same) (done_block (alone f) a old old at n h d)

pub done_all_alone : (f : ℕ → ℕ) (a old : List ℕ) (at : ℕ) → length old ≤ at → Done (alone f) a old old at → a ≡ map f old
done_all_alone f a old at h d = done_all (alone f) a old old at h d ∙ zip2-alone f old old refl

-- a loop that writes a third list: below `at` it is f of p and q
pub record Written (f : ℕ → ℕ → ℕ) (to p q : List ℕ) (at : ℕ) : Type 0 where
  pub front : take at to ≡ zip2 f (take at p) (take at q)
  pub long : length to ≡ length p
  pub wide : length q ≡ length p
  pub within : at ≤ length p

pub written_none : (f : ℕ → ℕ → ℕ) (to p q : List ℕ) → length to ≡ length p → length to ≡ length q → Written f to p q 0
written_none f to p q e g = record { front = refl; long = e; wide = sym g ∙ e; within = omega arith }

-- what one more piece of both makes
more : (f : ℕ → ℕ → ℕ) (p q : List ℕ) (at n : ℕ) → at ≤ length p → length q ≡ length p → zip2 f (take at p) (take at q) ++ zip2 f (take n (drop at p)) (take n (drop at q)) ≡ zip2 f (take (at + n) p) (take (at + n) q)
more f p q at n h e =
    sym (zip2-append f (take at p) (take n (drop at p)) (take at q) (take n (drop at q)) (length-take-le at p h ∙ sym (length-take-le at q (omega arith))))
    ∙ ap (λ (t : List ℕ). zip2 f t (take at q ++ take n (drop at q))) (sym (take-add at n p))
    ∙ ap (zip2 f (take (at + n) p)) (sym (take-add at n q))

pub written_block : (f : ℕ → ℕ → ℕ) (to p q : List ℕ) (at n : ℕ) → at + n ≤ length p → Written f to p q at → Written f (put_chunk at to (zip2 f (chunk at n p) (chunk at n q))) p q (at + n)
written_block f to p q at n h w =
    let ys = zip2 f (chunk at n p) (chunk at n q) in
    let lp : length (chunk at n p) ≡ n = length-chunk at n p h in
    let lq : length (chunk at n q) ≡ n = length-chunk at n q (omega (arith, w.wide)) in
    let ly : length ys ≡ n = length-zip2 f (chunk at n p) (chunk at n q) (lp ∙ sym lq) ∙ lp in
    record {
      front = take_more_put_chunk at to ys (at + n) (omega arith) (omega (arith, w.long)) ∙ ap (λ (t : List ℕ). t ++ ys) w.front ∙ more f p q at n w.within w.wide;
      long = length-put_chunk at to ys ∙ w.long;
      wide = w.wide;
      within = h;
    }

pub written_one : (f : ℕ → ℕ → ℕ) (to p q : List ℕ) (at : ℕ) → at < length p → Written f to p q at → Written f (set to at (f (get_or p at 0) (get_or q at 0))) p q (at + 1)
written_one f to p q at h w =
    let y = f (get_or p at 0) (get_or q at 0) in
    record {
      front = take_more_set to at y (omega (arith, w.long)) ∙ ap (λ (t : List ℕ). t ++ (y ∷ [])) w.front
          ∙ sym (zip2-append f (take at p) (get_or p at 0 ∷ []) (take at q) (get_or q at 0 ∷ []) (length-take-le at p w.within ∙ sym (length-take-le at q (omega (arith, w.wide, w.within)))))
          ∙ ap (λ (t : List ℕ). zip2 f t (take at q ++ (get_or q at 0 ∷ []))) (sym (take_more p at 0 h))
          ∙ ap (zip2 f (take (at + 1) p)) (sym (take_more q at 0 (omega (arith, w.wide))));
      long = length-set to at y ∙ w.long;
      wide = w.wide;
      within = omega arith;
    }

pub written_all : (f : ℕ → ℕ → ℕ) (to p q : List ℕ) (at : ℕ) → length p ≤ at → Written f to p q at → to ≡ zip2 f p q
written_all f to p q at h w =
    sym (take_all at to (omega (arith, w.long))) ∙ w.front ∙ ap (λ (t : List ℕ). zip2 f t (take at q)) (take_all at p h) ∙ ap (zip2 f p) (take_all at q (omega (arith, w.wide)))
