-- Answers that come before anything outside is touched.
use Rattle.std.proofs.Common.{◌≡◌, List, None, Some, Option, Result, Ok, Err, IfErr, IfOk, IfSome, IsErrOf, refl, subst, ℕ, true, false}
use Rattle.std.specs.Option.{is_none}
use Rattle.raid_params.specs.declared.types.GeoFault.{GeoFault}
use Rattle.raid_params.specs.declared.types.Geometry.{Geometry}
use Rattle.raid_params.specs.Validity.{first_fault, is_shaped, shape_fault, row_fault}
use Rattle.outside.specs.Streams.{Stream}
use Rattle.run_ends.specs.Jobs.{Answers, Around, Does, HasCauses, Heeds, Job, MayHaveRead, Named, Orders, Refuses, Takes, is_cut}
use Rattle.run_ends.specs.Stops.{IsEarly}
use Rattle.run_ends.specs.declared.stop.Refusal.{Refusal}
use Rattle.run_ends.specs.declared.stop.Stop.{Stop}
use Rattle.run_ends.specs.declared.stop.Stop.TheVariants.{Refused, ImageFault, SourceFault, OutFault}
use Rattle.run_ends.proofs.Printed.{ends_unput, keeps_itself, no_raise}

-- an early stop is no fault of the outside
no_fault : {T : Type 0} (r : Result T Stop) (fault : Stop) → IfErr r IsEarly → (IsEarly fault → ⊥) → IsErrOf r fault → ⊥
no_fault (Ok x) fault early none e = absurd (cc)
no_fault (Err stop) fault early none e = let f = e in let g : stop ≡ fault = cc in none (subst IsEarly g early)

-- nothing was touched
unread_by : {T : Type 0} (r : Result T Stop) (read : ℕ) → IfErr r (λ stop. (MayHaveRead false stop → ⊥) → read ≡ read)
unread_by (Ok x) read = tt
unread_by (Err stop) read = λ h. refl

pub nothing_touched : {T : Type 0} (before : Around) (r : Result T Stop) → IfErr r IsEarly → HasCauses before before r
nothing_touched before r early = record {
  images = no_raise ImageFault before.images.faults r (no_fault r ImageFault early (λ h. h));
  source = no_raise SourceFault before.source.faults r (no_fault r SourceFault early (λ h. h));
  unput = no_fault r OutFault early (λ h. h);
  unread = unread_by r before.images.sectors_read;
}

takes_nothing : {T : Type 0} (most : Option ℕ) (source : Stream) (r : Result T Stop) → most ≡ None → Takes most source source r
takes_nothing None source r none = refl
takes_nothing (Some most) source r none = absurd (cc)

pub heeds_nothing : {T : Type 0} (job : Job) (most : Option ℕ) (given : Named) (old new : Stream) (r : Result T Stop) → most ≡ None → Heeds job most given old new r
heeds_nothing job None given old new r none = tt
heeds_nothing job (Some most) given old new r none = absurd (cc)

early_order : {T : Type 0} (refused : Option Refusal) (read : ℕ) (r : Result T Stop) → Refuses refused r → IfErr r IsEarly → Orders refused read read None None r
early_order refused read (Ok x) refuses early refusal e = absurd (let none : refused ≡ None = refuses.passes in cc)
early_order refused read (Err stop) refuses early refusal e = record {
  unread = refl;
  unput = tt;
  no_image_fault = no_fault (Err stop) ImageFault early (λ h. h);
  no_out_fault = no_fault (Err stop) OutFault early (λ h. h);
}

-- an answer for which nothing outside is touched
pub early_answers : (job : Job) (given : Named) (before : Around) (answer : Result (List ℕ) Stop) → job.most ≡ None → IfErr answer IsEarly → ((said : job.Said) → Refuses (job.refused said given) answer) →
    ((said : job.Said) → IfOk answer (λ text. IfSome (job.printed said given) (λ printed. text ≡ printed))) → ((said : job.Said) → job.MayRead said given (is_cut answer) before.images.sectors_read before.images.sectors_read) →
    Answers job given before before answer
early_answers job given before answer textless early refuses text reads = record {
  refuses = λ said says. refuses said;
  text = λ said says. text said;
  order = λ said says. early_order (job.refused said given) before.images.sectors_read answer (refuses said) early;
  reads = λ said says. reads said;
  takes = takes_nothing job.most before.source answer textless;
  heeds = heeds_nothing job job.most given before.source before.source answer textless;
  causes = nothing_touched before answer early;
  apart = λ e. refl;
  world = refl;
}

-- what is refused before anything outside is touched
pub does_refused : {T : Type 0} (job : Job) (given : Named) (before : Around) (out : Stream) (refusal : Refusal) → job.most ≡ None → ((said : job.Said) → job.refused said given ≡ Some refusal) →
    ((said : job.Said) → job.MayRead said given false before.images.sectors_read before.images.sectors_read) → Does {T = T} job given before before out out (Err (Refused refusal))
does_refused job given before out refusal textless refused reads = record {
  ends = λ said says. ends_unput job.pieces (job.refused said given) (job.printed said given) out.known (Refused refusal) (refused said);
  order = λ said says all other is. record { unread = refl; unput = keeps_itself out.known; no_image_fault = λ e. absurd (cc); no_out_fault = λ e. absurd (cc) };
  reads = λ said says. reads said;
  takes = takes_nothing job.most before.source (Err (Refused refusal)) textless;
  heeds = heeds_nothing job job.most given before.source before.source (Err (Refused refusal)) textless;
  leaves = record {
    images = no_raise ImageFault before.images.faults (Err (Refused refusal)) (λ e. absurd (cc));
    source = no_raise SourceFault before.source.faults (Err (Refused refusal)) (λ e. absurd (cc));
    out = no_raise OutFault out.faults (Err (Refused refusal)) (λ e. absurd (cc));
    unput = λ h. keeps_itself out.known;
    unread = λ h. refl;
  };
  apart = λ e. refl;
  world = refl;
}
