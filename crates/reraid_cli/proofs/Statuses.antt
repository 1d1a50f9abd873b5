-- Statuses, their lines and their causes.
use Rattle.std.proofs.Common.{IsErrOf, ◌≡◌, ◌≢◌, ◌==◌, ◌||◌, ℕ, List, [], length, None, Some, Option, Result, Ok, Err, refl, sym, ap, ◌∙◌, subst, arith, true, false, Bool}
use Rattle.std.proofs.lemmas.List.{append-nil, take_all}
use Rattle.std.specs.Io.KnownBytes.{Appends}
use Rattle.outside.specs.Causes.{HasCause}
use Rattle.outside.specs.Streams.{Puts}
use Rattle.run_ends.proofs.Printed.{front_of_nothing}
use Rattle.run_ends.specs.declared.stop.Refusal.{Refusal}
use Rattle.run_ends.specs.declared.stop.Refusal.TheVariants.{Word, PlanLine, PlanIsLong, SetLine, SetsAreLong, RescueLine, RescueIsLong, Images, Many, Cursor, Set, Bases, Near, Slot, ArraySectors, VolumeSectors, Sector}
use Rattle.run_ends.specs.declared.stop.Stop.{Stop}
use Rattle.run_ends.specs.declared.stop.Stop.TheVariants.{Refused, ImageFault, SourceFault, OutFault, OutOfMemory}
use Rattle.run_ends.specs.Jobs.{IsOwn, MayHavePut, MayHaveRead, is_cut}
use Rattle.run_ends.specs.Stops.{EndsBy, note_of, status_of}
use Rattle.reraid_cli.specs.Answers.{IsExact, IsNoted, is_cut_status, note_by, status_by}

-- the statuses of success, of the faults and of want of memory
is_free : ℕ → Bool
is_free status = (status == 0) || (status == 10) || (status == 11) || (status == 12) || (status == 20)

-- no refusal has one of them
refusal_bound : (refused : Refusal) → (is_free (status_of (Refused refused)) ≡ false) × (is_cut_status (status_of (Refused refused)) ≡ false)
unfolding is_free
refusal_bound (Word number) = (refl, refl)
refusal_bound (PlanLine number) = (refl, refl)
refusal_bound PlanIsLong = (refl, refl)
refusal_bound (SetLine number) = (refl, refl)
refusal_bound SetsAreLong = (refl, refl)
refusal_bound (RescueLine number) = (refl, refl)
refusal_bound RescueIsLong = (refl, refl)
refusal_bound (Images fault) = (refl, refl)
refusal_bound Many = (refl, refl)
refusal_bound (Cursor fault) = (refl, refl)
refusal_bound (Set fault) = (refl, refl)
refusal_bound (Bases count) = (refl, refl)
refusal_bound (Near fault) = (refl, refl)
refusal_bound (Slot slot) = (refl, refl)
refusal_bound (ArraySectors sectors) = (refl, refl)
refusal_bound (VolumeSectors sectors) = (refl, refl)
refusal_bound (Sector fault) = (refl, refl)

not_refusal : (refused : Refusal) (status : ℕ) → status_of (Refused refused) ≡ status → is_free status ≡ true → ⊥
not_refusal refused status is free = let e : true ≡ false = sym free ∙ sym (ap is_free is) ∙ (refusal_bound refused).0 in cc

free_zero : is_free 0 ≡ true
unfolding is_free
free_zero = refl

free_ten : is_free 10 ≡ true
unfolding is_free
free_ten = refl

free_eleven : is_free 11 ≡ true
unfolding is_free
free_eleven = refl

free_twelve : is_free 12 ≡ true
unfolding is_free
free_twelve = refl

free_twenty : is_free 20 ≡ true
unfolding is_free
free_twenty = refl

-- no stop has the status of success
pub status_some : (stop : Stop) → status_of stop ≢ 0
status_some (Refused refused) e = not_refusal refused 0 e free_zero
status_some ImageFault e = absurd (omega arith)
status_some SourceFault e = absurd (omega arith)
status_some OutFault e = absurd (omega arith)
status_some OutOfMemory e = absurd (omega arith)

-- unless a fault or want of memory is the cause, the status is that of the refusal
pub by_refusal : (refused : Option Refusal) (stop : Stop) (status : ℕ) → status ≡ status_of stop → IsExact status → EndsBy refused stop → status ≡ status_by refused
by_refusal refused (Refused refusal) status is exact ends = is ∙ ap status_by (sym ends)
by_refusal refused ImageFault status is exact ends = absurd (exact.no_image_fault is)
by_refusal refused SourceFault status is exact ends = absurd (exact.no_source_fault is)
by_refusal refused OutFault status is exact ends = absurd (exact.no_out_fault is)
by_refusal refused OutOfMemory status is exact ends = absurd (exact.no_want is)

-- so it is the command's own
pub own_by : (stop : Stop) (status : ℕ) → status ≡ status_of stop → IsExact status → IsOwn {T = Unit {0}} (Err stop)
own_by (Refused refusal) status is exact = tt
own_by ImageFault status is exact = absurd (exact.no_image_fault is)
own_by SourceFault status is exact = absurd (exact.no_source_fault is)
own_by OutFault status is exact = absurd (exact.no_out_fault is)
own_by OutOfMemory status is exact = absurd (exact.no_want is)

-- and so is the line
pub noted_by : (refused : Option Refusal) (now : ℕ) (old new : Option (List ℕ)) (stop : Stop) (status : ℕ) → status ≡ status_of stop → IsExact status → EndsBy refused stop → IsNoted now old new (note_of stop) → IsNoted now old new (note_by refused)
noted_by refused now old new (Refused refusal) status is exact ends noted = let P : List ℕ → Type 0 = λ line. IsNoted now old new line in subst P (sym (ap note_by ends)) noted
noted_by refused now old new ImageFault status is exact ends noted = absurd (exact.no_image_fault is)
noted_by refused now old new SourceFault status is exact ends noted = absurd (exact.no_source_fault is)
noted_by refused now old new OutFault status is exact ends noted = absurd (exact.no_out_fault is)
noted_by refused now old new OutOfMemory status is exact ends noted = absurd (exact.no_want is)

-- what a put leaves on the notes
pub noted : {T E : Type 0} (old new : Option (List ℕ)) (before now : ℕ) (put : Result T E) (line : List ℕ) → Puts old new put line → HasCause before now put → before ≡ 0 → IsNoted now old new line
noted old new before now (Ok x) line puts cause none = record {
  front = (length line, omega arith, rw (take_all (length line) line (omega arith)) puts);
  whole = λ e. puts;
}
noted old new before now (Err x) line puts cause none = record {
  front = puts;
  whole = λ e. absurd (let rose = cause.failed in omega arith);
}

-- a stop of another status has put nothing, and read nothing
pub put_nothing : (streams : Bool) (stop : Stop) (status : ℕ) → status ≡ status_of stop → status ≢ 10 → status ≢ 12 → MayHavePut streams stop → ⊥
put_nothing streams (Refused refused) status is ten twelve h = h
put_nothing streams ImageFault status is ten twelve h = ten is
put_nothing streams SourceFault status is ten twelve h = h
put_nothing streams OutFault status is ten twelve h = twelve is
put_nothing streams OutOfMemory status is ten twelve h = h

pub put_before : (stop : Stop) (status : ℕ) → status ≡ status_of stop → status ≡ 10 → MayHavePut false stop → ⊥
put_before (Refused refused) status is ten h = h
put_before ImageFault status is ten h = absurd (cc)
put_before SourceFault status is ten h = h
put_before OutFault status is ten h = absurd (omega arith)
put_before OutOfMemory status is ten h = h

pub read_nothing : (streams : Bool) (stop : Stop) (status : ℕ) → status ≡ status_of stop → status ≢ 10 → status ≢ 12 → status ≢ 20 → MayHaveRead streams stop → ⊥
read_nothing streams (Refused refused) status is ten twelve twenty h = h
read_nothing streams ImageFault status is ten twelve twenty h = ten is
read_nothing streams SourceFault status is ten twelve twenty h = h
read_nothing streams OutFault status is ten twelve twenty h = twelve is
read_nothing streams OutOfMemory status is ten twelve twenty h = twenty is

-- a job that puts as it reads has not read where memory is wanting
pub read_no_memory : (stop : Stop) (status : ℕ) → status ≡ status_of stop → status ≡ 20 → MayHaveRead true stop → ⊥
read_no_memory (Refused refused) status is twenty h = h
read_no_memory ImageFault status is twenty h = absurd (omega arith)
read_no_memory SourceFault status is twenty h = h
read_no_memory OutFault status is twenty h = absurd (omega arith)
read_no_memory OutOfMemory status is twenty h = absurd (cc)

-- only faults of the images and of the output have their statuses
pub ten_is : (stop : Stop) (status : ℕ) → status ≡ status_of stop → status ≡ 10 → stop ≡ ImageFault
ten_is (Refused refused) status is ten = absurd (not_refusal refused 10 (sym is ∙ ten) free_ten)
ten_is ImageFault status is ten = refl
ten_is SourceFault status is ten = absurd (omega arith)
ten_is OutFault status is ten = absurd (omega arith)
ten_is OutOfMemory status is ten = absurd (omega arith)

pub eleven_is : (stop : Stop) (status : ℕ) → status ≡ status_of stop → status ≡ 11 → stop ≡ SourceFault
eleven_is (Refused refused) status is eleven = absurd (not_refusal refused 11 (sym is ∙ eleven) free_eleven)
eleven_is ImageFault status is eleven = absurd (omega arith)
eleven_is SourceFault status is eleven = refl
eleven_is OutFault status is eleven = absurd (omega arith)
eleven_is OutOfMemory status is eleven = absurd (omega arith)

pub twelve_is : (stop : Stop) (status : ℕ) → status ≡ status_of stop → status ≡ 12 → stop ≡ OutFault
twelve_is (Refused refused) status is twelve = absurd (not_refusal refused 12 (sym is ∙ twelve) free_twelve)
twelve_is ImageFault status is twelve = absurd (omega arith)
twelve_is SourceFault status is twelve = absurd (omega arith)
twelve_is OutFault status is twelve = refl
twelve_is OutOfMemory status is twelve = absurd (omega arith)

pub is_fault : (stop fault : Stop) → stop ≡ fault → IsErrOf {T = Unit {0}} (Err stop) fault
is_fault stop fault e = ap (λ (s : Stop). Err s) e

pub fault_is : (stop fault : Stop) → IsErrOf {T = Unit {0}} (Err stop) fault → stop ≡ fault
fault_is stop fault e = let f = e in cc

-- the work was cut short by its status as by its stop
pub cut_by : (stop : Stop) (status : ℕ) → status ≡ status_of stop → is_cut {T = Unit {0}} (Err stop) ≡ is_cut_status status
cut_by (Refused refused) status is = sym (ap is_cut_status is ∙ (refusal_bound refused).1)
cut_by ImageFault status is = sym (ap is_cut_status is)
cut_by SourceFault status is = sym (ap is_cut_status is)
cut_by OutFault status is = sym (ap is_cut_status is)
cut_by OutOfMemory status is = sym (ap is_cut_status is)

-- nothing was put on the notes where nothing is refused
pub noted_none : (refused : Option Refusal) (now : ℕ) (notes : Option (List ℕ)) → refused ≡ None → IsNoted now notes notes (note_by refused)
noted_none refused now notes none =
    let P : Option Refusal → Type 0 = λ r. IsNoted now notes notes (note_by r) in
    subst P (sym none) (record { front = front_of_nothing notes []; whole = λ e. appends_nothing notes })
  where
    appends_nothing : (notes : Option (List ℕ)) → Appends notes notes []
    appends_nothing None = tt
    appends_nothing (Some xs) = sym (append-nil xs)
