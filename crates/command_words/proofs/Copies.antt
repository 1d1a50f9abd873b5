-- A copy of a set is the set.
use Rattle.std.proofs.Common.{◌≡◌, ℕ, true, IsTrue, List, Option, ap, subst}
use Rattle.std.proofs.Math.Bool.{Bool-set}
use Rattle.arrayvec.specs.ArrayVec.{ArrayVec}
use Rattle.raid_params.specs.Bases.{is_offset_of}
use Rattle.raid_params.specs.declared.types.Geometry.{Geometry}
use Rattle.raid_params.specs.declared.wide.Wide.{Wide}

wide_with : (geo : Geometry) (bases : ArrayVec ℕ) → IsTrue (is_offset_of bases.items geo.head.offset) → Wide
wide_with geo bases is = record { geo = geo; bases = bases; is_greatest = is }

-- a set is told by its geometry and its bases
same_wide : (g h : Geometry) (ms bs : ArrayVec ℕ) (p : IsTrue (is_offset_of ms.items g.head.offset)) (q : IsTrue (is_offset_of bs.items h.head.offset)) → g ≡ h → ms ≡ bs → wide_with g ms p ≡ wide_with h bs q
same_wide g h ms bs p q e f =
    let alone : (r : IsTrue (is_offset_of ms.items g.head.offset)) → wide_with g ms p ≡ wide_with g ms r = λ r. ap (λ (is : IsTrue (is_offset_of ms.items g.head.offset)). wide_with g ms is) (Bool-set (is_offset_of ms.items g.head.offset) true p r) in
    let others : (r : IsTrue (is_offset_of bs.items g.head.offset)) → wide_with g ms p ≡ wide_with g bs r =
    subst (λ (ks : ArrayVec ℕ). (r : IsTrue (is_offset_of ks.items g.head.offset)) → wide_with g ms p ≡ wide_with g ks r) f alone in
    subst (λ (k : Geometry). (r : IsTrue (is_offset_of bs.items k.head.offset)) → wide_with g ms p ≡ wide_with k bs r) e others q

pub copied : (set : Wide) (slots : ArrayVec (Option ℕ)) (bases : ArrayVec ℕ) (is : IsTrue (is_offset_of bases.items set.geo.head.offset)) → slots.items ≡ set.geo.slots.items → bases.items ≡ set.bases.items →
    record { geo = record { head = set.geo.head; slots = slots }; bases = bases; is_greatest = is } ≡ set
unfolding wide_with
copied set slots bases is e f =
    same_wide (record { head = set.geo.head; slots = slots }) set.geo bases set.bases is set.is_greatest
    (ap (λ (l : List (Option ℕ)). record { head = set.geo.head; slots = record { items = l } }) e) (ap (λ (l : List ℕ). record { items = l }) f)
