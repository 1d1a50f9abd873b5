-- Images attached one by one.
use Rattle.std.proofs.Common.{◌≡◌, ℕ, zero, suc, ◌+◌, ◌<◌, ◌≤◌, List, [], ◌∷◌, ◌++◌, length, get_or, take, Ok, Err, refl, sym, ap, ◌∙◌, arith, append_assoc, append-nil, length-append}
use Rattle.outside.specs.declared.Failed.{Failed}
use Rattle.outside.specs.Seen.{Image, World, Seen, IsImageOf, Attaches}
use Rattle.outside.specs.Attached.{AreImagesOf, AttachesSome}

-- the first i names are attached, and nothing failed
pub record AttachedSoFar (old now : Seen) (names : List (List ℕ)) (i : ℕ) : Type 0 where
  pub some : AttachesSome old now names
  pub count : length now.attached ≡ length old.attached + i
  pub same : now.faults ≡ old.faults

one_more : (world : World) (names : List (List ℕ)) (images : List Image) (image : Image) (d : List ℕ) → AreImagesOf world names images → length images < length names → IsImageOf world (get_or names (length images) d) image → AreImagesOf world names (images ++ image ∷ [])
one_more world [] [] image d are lt is = absurd (omega arith)
one_more world [] (x ∷ images) image d are lt is = absurd are
one_more world (name ∷ names) [] image d are lt is = (is, tt)
one_more world (name ∷ names) (x ∷ images) image d are lt is = (are.0, one_more world names images image d are.1 (omega arith) is)

-- none yet
pub none_attached : (old : Seen) (names : List (List ℕ)) → AttachesSome old old names
none_attached old names = record { world = refl; unread = refl; attached = ([], tt, sym (append-nil old.attached)); faults = omega arith }

-- one more is attached
pub attached_more : (old mid new : Seen) (names : List (List ℕ)) (i n : ℕ) (d : List ℕ) → AttachesSome old mid names → length mid.attached ≡ length old.attached + i → i < length names → Attaches {E = Failed} mid new (get_or names i d) (Ok n) → mid.faults ≤ new.faults → AttachesSome old new names
attached_more old mid new names i n d some count lt step later = record {
  faults = let before = some.faults in omega arith;
  world = step.world ∙ some.world;
  unread = step.unread ∙ some.unread;
  attached =
      let images = some.attached.0 in
      let image = step.attached.0 in
      let at : length images ≡ i = omega (arith, ap length some.attached.2, length-append old.attached images) in
      let room : length images < length names = omega arith in
      let is : IsImageOf old.world (get_or names (length images) d) image = rw (at, ← some.world) step.attached.1 in
      (images ++ image ∷ [], one_more old.world names images image d some.attached.1 room is, step.attached.3 ∙ (ap (λ xs. xs ++ image ∷ []) some.attached.2 ∙ append_assoc old.attached images (image ∷ [])));
}

-- the next fails
pub attached_no_more : (old mid new : Seen) (names : List (List ℕ)) (name : List ℕ) (e : Failed) → AttachesSome old mid names → Attaches {E = Failed} mid new name (Err e) → mid.faults ≤ new.faults → AttachesSome old new names
attached_no_more old mid new names name e some step later = record {
  faults = let before = some.faults in omega arith;
  world = step.world ∙ some.world;
  unread = step.unread ∙ some.unread;
  attached = (some.attached.0, some.attached.1, step.attached ∙ some.attached.2);
}

-- one turn
pub so_far_more : (old mid new : Seen) (names : List (List ℕ)) (i n : ℕ) (name d : List ℕ) → AttachedSoFar old mid names i → i < length names → name ≡ get_or names i d → Attaches {E = Failed} mid new name (Ok n) → new.faults ≡ mid.faults → AttachedSoFar old new names (i + 1)
so_far_more old mid new names i n name d far lt at step same = record {
  some = attached_more old mid new names i n d far.some far.count lt (rw at at step) (omega arith);
  count =
      let before = far.count in
      let grown = ap length step.attached.3 in
      omega (arith, length-append mid.attached (step.attached.0 ∷ []));
  same = same ∙ far.same;
}

-- images of the first names are images of a prefix of them
front_of : (world : World) (names : List (List ℕ)) (n : ℕ) (images : List Image) → AreImagesOf world (take n names) images → AreImagesOf world names images
front_of world names n [] are = tt
front_of world [] zero (image ∷ images) are = are
front_of world [] (suc n) (image ∷ images) are = are
front_of world (name ∷ names) zero (image ∷ images) are = absurd are
front_of world (name ∷ names) (suc n) (image ∷ images) are = (are.0, front_of world names n images are.1)

pub attached_front : (old new : Seen) (names : List (List ℕ)) (n : ℕ) → AttachesSome old new (take n names) → AttachesSome old new names
attached_front old new names n some = record {
  world = some.world;
  unread = some.unread;
  attached = (some.attached.0, front_of old.world names n some.attached.0 some.attached.1, some.attached.2);
  faults = some.faults;
}
