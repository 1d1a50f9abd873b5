-- What a call over padded images did to the images within, for the crates above.
use Rattle.std.proofs.Common.{◌≡◌, ℕ, ◌-◌, ◌*◌, List, [], ◌∷◌, ◌++◌, length, get_or, drop, replicate, Some, None, refl, sym, ap, subst, ◌∙◌, arith}
use Rattle.std.proofs.Math.Seq.{drop-append_seam}
use Rattle.std.specs.Option.{option_map}
use Rattle.std.specs.declared.option.Option.{Option}
use Rattle.outside.specs.Seen.{Image, World, Seen, OnlyReads}
use Rattle.image_padding.specs.Padded.{greatest_base, padded, padded_to, seen_padded}

-- images that are the same once they are padded alike are the same
same_image : (sectors : ℕ) (one other : Image) → padded sectors one ≡ padded sectors other → one ≡ other
same_image sectors one other same =
    let long : one.sectors ≡ other.sectors = omega (arith, ap (λ (i : Image). i.sectors) same) in
    let told : one.bytes ≡ other.bytes = same_bytes one.bytes other.bytes (ap (λ (i : Image). i.bytes) same) in
    λ i. record { sectors = long i; bytes = told i }
  where
    zeros : List ℕ
    zeros = replicate (512 * sectors) 0

    same_bytes : (bytes others : Option (List ℕ)) → option_map (λ bs. zeros ++ bs) bytes ≡ option_map (λ bs. zeros ++ bs) others → bytes ≡ others
    same_bytes None None is = refl
    same_bytes None (Some others) is = absurd cc
    same_bytes (Some bytes) None is = absurd cc
    same_bytes (Some bytes) (Some others) is =
        let all : zeros ++ bytes ≡ zeros ++ others = cc in
        ap Some (sym (drop-append_seam zeros bytes) ∙ ap (λ (bs : List ℕ). drop (length zeros) bs) all ∙ drop-append_seam zeros others)

-- and so are lists of them
same_images : (greatest : ℕ) (bases : List ℕ) (images others : List Image) → padded_to greatest bases images ≡ padded_to greatest bases others → images ≡ others
same_images greatest [] images others same = same
same_images greatest (base ∷ bases) [] [] same = refl
same_images greatest (base ∷ bases) [] (other ∷ others) same = absurd cc
same_images greatest (base ∷ bases) (image ∷ images) [] same = absurd cc
same_images greatest (base ∷ bases) (image ∷ images) (other ∷ others) same =
    let first : image ≡ other = same_image (greatest - base) image other (ap (λ (l : List Image). get_or l 0 (padded (greatest - base) image)) same) in
    let rest : images ≡ others = same_images greatest bases images others (ap (λ (l : List Image). drop 1 l) same) in
    rw (first, rest) refl

-- what only read padded images kept the reference, and only read the images within, as many sectors at most
pub reads_within : (reference other : ℕ) (bases others : List ℕ) (old new : Seen) (sectors : ℕ) → OnlyReads (seen_padded reference bases old) (seen_padded other others new) sectors → (other ≡ reference) × OnlyReads old new sectors
reads_within reference other bases others old new sectors reads =
    let kept : others ≡ bases = ap (λ (w : World). get_or w.fixed 0 []) reads.world in
    let images : padded_to (greatest_base bases) bases new.attached ≡ padded_to (greatest_base bases) bases old.attached
    = subst (λ (bs : List ℕ). padded_to (greatest_base bs) bs new.attached ≡ padded_to (greatest_base bases) bases old.attached) kept reads.attached in (
      ap (λ (w : World). get_or (get_or w.fixed 1 []) 0 0) reads.world,
      record {
        world = ap (λ (w : World). record w { fixed = drop 2 w.fixed }) reads.world;
        attached = same_images (greatest_base bases) bases new.attached old.attached images;
        sectors_read = reads.sectors_read;
        sectors_later = reads.sectors_later;
        faults = reads.faults;
      },
    )
