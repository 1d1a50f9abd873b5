-- The known bytes of padded images, and tests over them.
use Rattle.std.proofs.Common.{◌≡◌, ◌*◌, ◌-◌, ◌++◌, ℕ, List, [], ◌∷◌, None, Some, Option, Result, Ok, Err, IfErr, IfOk, IfSome, length, refl, arith, subst, replicate}
use Rattle.std.specs.Prelude.{option_and_then}
use Rattle.std.specs.Option.{option_map}
use Rattle.outside.specs.Attached.{told_all}
use Rattle.outside.specs.Seen.{Image, Seen}
use Rattle.image_padding.specs.Padded.{greatest_base, padded_images, padded_to, seen_padded}
use Rattle.padded_images.specs.Plans.{padded_plan}
use Rattle.image_padding.proofs.Images.{padded_length}
use Rattle.image_padding.proofs.Within.{reads_within}
use Rattle.raid_params.specs.declared.types.Geometry.{Geometry}
use Rattle.parity_scan.specs.Scan.{read_rows}
use Rattle.search_plan.specs.declared.plan.Plan.{Plan}
use Rattle.run_ends.specs.Cuts.{CutsShort}
use Rattle.run_ends.specs.declared.stop.Stop.{Stop}
use Rattle.run_ends.specs.declared.stop.Stop.TheVariants.{Refused, ImageFault, SourceFault, OutFault, OutOfMemory}
use Rattle.wide_product.specs.Sets.{bytes_to, padded_bytes}
use Rattle.plan_jobs.specs.Checking.{tested_reads, tests_text}
use Rattle.plan_jobs.specs.Testing.{Tests}

-- the known bytes of padded images are those of the images, padded
told_to : (greatest : ℕ) (bases : List ℕ) (images : List Image) → length bases ≡ length images → told_all (padded_to greatest bases images) ≡ option_map (bytes_to greatest bases) (told_all images)
told_to greatest [] images same = none (told_all images)
  where
    none : (told : Option (List (List ℕ))) → told ≡ option_map (bytes_to greatest []) told
    none None = refl
    none (Some bytes) = refl
told_to greatest (base ∷ bases) [] same = absurd (omega (arith, same))
told_to greatest (base ∷ bases) (image ∷ images) same = rw (told_to greatest bases images (omega (arith, same))) (more image.bytes (told_all images))
  where
    more : (first : Option (List ℕ)) (others : Option (List (List ℕ))) →
        option_and_then (λ bytes. option_map (λ rest. bytes ∷ rest) (option_map (bytes_to greatest bases) others)) (option_map (λ bytes. replicate (512 * (greatest - base)) 0 ++ bytes) first)
        ≡ option_map (bytes_to greatest (base ∷ bases)) (option_and_then (λ bytes. option_map (λ rest. bytes ∷ rest) others) first)
    more None others = refl
    more (Some bytes) None = refl
    more (Some bytes) (Some rest) = refl

told_padded : (bases : List ℕ) (images : List Image) → length bases ≡ length images → told_all (padded_images bases images) ≡ option_map (padded_bytes bases) (told_all images)
told_padded bases images same = told_to (greatest_base bases) bases images same

-- a text over these bytes
text_told : (told : Option (List (List ℕ))) (pads : List (List ℕ) → List (List ℕ)) (content : List (List ℕ) → List ℕ) (text : List ℕ) → IfSome (option_map pads told) (λ bytes. text ≡ content bytes) → IfSome told (λ bytes. text ≡ content (pads bytes))
text_told None pads content text h = tt
text_told (Some bytes) pads content text h = h

text_within : (told : Option (List (List ℕ))) (pads : List (List ℕ) → List (List ℕ)) (content : List (List ℕ) → List ℕ) (answer : Result (List ℕ) Stop) → IfOk answer (λ text. IfSome (option_map pads told) (λ bytes. text ≡ content bytes)) →
    IfOk answer (λ text. IfSome told (λ bytes. text ≡ content (pads bytes)))
text_within told pads content (Ok text) h = text_told told pads content text h
text_within told pads content (Err stop) h = tt

-- work over padded images is cut short where that over the images within is
cut_within : (reference other : ℕ) (bases others : List ℕ) (old new : Seen) (answer : Result (List ℕ) Stop) → IfErr answer (CutsShort (seen_padded reference bases old) (seen_padded other others new)) → IfErr answer (CutsShort old new)
cut_within reference other bases others old new (Ok text) h = tt
cut_within reference other bases others old new (Err (Refused refusal)) h = h
cut_within reference other bases others old new (Err ImageFault) h = h
cut_within reference other bases others old new (Err SourceFault) h = h
cut_within reference other bases others old new (Err OutFault) h = h
cut_within reference other bases others old new (Err OutOfMemory) h = h

-- tests over padded images are tests over the images within
pub tests_within : (reference other : ℕ) (bases others : List ℕ) (most : ℕ) (content : List (List ℕ) → List ℕ) (old new : Seen) (answer : Result (List ℕ) Stop) → length bases ≡ length old.attached →
    Tests most content (told_all (padded_images bases old.attached)) (seen_padded reference bases old) (seen_padded other others new) answer →
    (other ≡ reference) × Tests most (λ bytes. content (padded_bytes bases bytes)) (told_all old.attached) old new answer
tests_within reference other bases others most content old new answer same tests =
    let within = reads_within reference other bases others old new most tests.reads in (
      within.0,
      record {
        text = text_within (told_all old.attached) (padded_bytes bases) content answer
            (subst (λ (told : Option (List (List ℕ))). IfOk answer (λ text. IfSome told (λ bytes. text ≡ content bytes))) (told_padded bases old.attached same) tests.text);
        reads = within.1;
        quiet = tests.quiet;
        ends = cut_within reference other bases others old new answer tests.ends;
      },
    )

-- the tests of a set with bases
pub tests_based : (reference other : ℕ) (bases used others : List ℕ) (rank : Option ℕ) (set : Geometry) (plan moved : Plan) (old new : Seen) (answer : Result (List ℕ) Stop) → used ≡ bases → moved ≡ padded_plan bases plan → length bases ≡ length old.attached →
    Tests (tested_reads set (padded_images used old.attached) moved) (λ bytes. tests_text rank bytes moved set) (told_all (padded_images used old.attached)) (seen_padded reference used old) (seen_padded other others new) answer →
    (other ≡ reference) × Tests (tested_reads set old.attached plan) (λ bytes. tests_text rank (padded_bytes bases bytes) (padded_plan bases plan) set) (told_all old.attached) old new answer
tests_based reference other bases used others rank set plan moved old new answer same is each tests =
    let P : List ℕ → Type 0 = λ bs. Tests (tested_reads set (padded_images bs old.attached) moved) (λ bytes. tests_text rank bytes moved set) (told_all (padded_images bs old.attached)) (seen_padded reference bs old) (seen_padded other others new) answer in
    let over_bases = subst P same tests in
    let Q : Plan → Type 0 = λ p. Tests (tested_reads set (padded_images bases old.attached) p) (λ bytes. tests_text rank bytes p set) (told_all (padded_images bases old.attached)) (seen_padded reference bases old) (seen_padded other others new) answer in
    let over_plan = subst Q is over_bases in
    let within = tests_within reference other bases others (tested_reads set (padded_images bases old.attached) (padded_plan bases plan)) (λ bytes. tests_text rank bytes (padded_plan bases plan) set) old new answer each over_plan in
    let R : ℕ → Type 0 = λ n. Tests (n * read_rows set plan.end plan.limits.window) (λ bytes. tests_text rank (padded_bytes bases bytes) (padded_plan bases plan) set) (told_all old.attached) old new answer in
    (within.0, subst R (padded_length (greatest_base bases) bases old.attached) within.1)
