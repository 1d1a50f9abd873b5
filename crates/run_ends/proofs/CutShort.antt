-- Work over the images that has an answer, or is cut short.
use Rattle.std.proofs.Common.{◌≡◌, ℕ, None, Option, Result, Ok, Err, IfErr, OnOk, IsErrOf, refl, subst, false}
use Rattle.outside.specs.Seen.{OnlyReads, Seen}
use Rattle.run_ends.proofs.Printed.{rises, stays}
use Rattle.run_ends.specs.Counts.{Raises}
use Rattle.run_ends.specs.Cuts.{CutsShort}
use Rattle.run_ends.specs.Jobs.{MayHaveRead, Refuses}
use Rattle.run_ends.specs.declared.stop.Refusal.{Refusal}
use Rattle.run_ends.specs.declared.stop.Stop.{Stop}
use Rattle.run_ends.specs.declared.stop.Stop.TheVariants.{Refused, ImageFault, SourceFault, OutFault, OutOfMemory}

-- the images' count of faults
pub cut_images : {T : Type 0} (old new : Seen) (n : ℕ) (answer : Result T Stop) → OnlyReads old new n → OnOk answer (new.faults ≡ old.faults) → IfErr answer (CutsShort old new) → Raises ImageFault old.faults new.faults answer
cut_images old new n (Ok text) reads quiet ends = stays ImageFault old.faults new.faults (Ok text) quiet (λ e. absurd (cc))
cut_images old new n (Err (Refused refusal)) reads quiet ends = absurd ends
cut_images old new n (Err ImageFault) reads quiet ends = rises ImageFault old.faults new.faults ends reads.faults
cut_images old new n (Err SourceFault) reads quiet ends = absurd ends
cut_images old new n (Err OutFault) reads quiet ends = absurd ends
cut_images old new n (Err OutOfMemory) reads quiet ends = stays ImageFault old.faults new.faults (Err OutOfMemory) ends (λ e. absurd (cc))

-- no other fault is the answer
pub cut_other : {T : Type 0} (old new : Seen) (answer : Result T Stop) (fault : Stop) → IfErr answer (CutsShort old new) → (CutsShort old new fault → ⊥) → IsErrOf answer fault → ⊥
cut_other old new (Ok text) fault ends none f = absurd (cc)
cut_other old new (Err stop) fault ends none f =
    let g = f in let e : stop ≡ fault = cc in
    let P : Stop → Type 0 = λ s. CutsShort old new s in none (subst P e ends)

-- nothing is refused
pub cut_ends : {T : Type 0} (old new : Seen) (answer : Result T Stop) (refused : Option Refusal) → refused ≡ None → IfErr answer (CutsShort old new) → Refuses refused answer
cut_ends old new (Ok text) refused none ends = record { ends = tt; passes = none }
cut_ends old new (Err (Refused refusal)) refused none ends = absurd ends
cut_ends old new (Err ImageFault) refused none ends = record { ends = tt; passes = tt }
cut_ends old new (Err SourceFault) refused none ends = absurd ends
cut_ends old new (Err OutFault) refused none ends = absurd ends
cut_ends old new (Err OutOfMemory) refused none ends = record { ends = tt; passes = tt }

-- sectors may have been read
pub cut_read : {T : Type 0} (old new : Seen) (answer : Result T Stop) → IfErr answer (CutsShort old new) → IfErr answer (λ stop. (MayHaveRead false stop → ⊥) → new.sectors_read ≡ old.sectors_read)
cut_read old new (Ok text) ends = tt
cut_read old new (Err (Refused refusal)) ends = absurd ends
cut_read old new (Err ImageFault) ends = λ h. absurd (h tt)
cut_read old new (Err SourceFault) ends = absurd ends
cut_read old new (Err OutFault) ends = absurd ends
cut_read old new (Err OutOfMemory) ends = λ h. absurd (h refl)
