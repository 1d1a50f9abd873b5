-- A run, by what was shown once the images were attached.
use Rattle.std.proofs.Common.{◌≡◌, ℕ, ◌≤◌, ◌<◌, ◌^◌, min, List, [], ◌∷◌, length, ◌++◌, All, Option, Result, Ok, Err, IfSome, IsErrOf, ◌⊎◌, inl, inr, refl, sym, ap, ◌∙◌, subst, arith}
use Rattle.std.proofs.lemmas.List.Elements.{All-cons, All-nil}
use Rattle.block_device.specs.Reading.{Asked, Counts, counts_of}
use Rattle.command_words.specs.declared.command.Command.{Command}
use Rattle.nbd_server.specs.Served.{Serves}
use Rattle.nbd_server.specs.Turns.{wire}
use Rattle.nbd_text.specs.Dialogue.{dialogue}
use Rattle.outside.specs.Attached.{AreImagesOf, AttachesSome}
use Rattle.outside.specs.Causes.{HasCause, Rose}
use Rattle.outside.specs.Seen.{Image, Seen, World}
use Rattle.outside.specs.Streams.{AppendsFront, Puts, Stream}
use Rattle.outside.specs.declared.Failed.{Failed}
use Rattle.std.specs.Io.KnownBytes.{Appends}
use Rattle.run_ends.specs.Jobs.{named}
use Rattle.run_ends.specs.declared.stop.Refusal.{Refusal}
use Rattle.run_ends.specs.declared.stop.Refusal.TheVariants.{Word}
use Rattle.reraid_nbd_cli.specs.Runs.{AreImages, Ends, HasImages, Runs, Shows, cost as cost_of, costing, place, refusal, sectors, volume}
use Rattle.reraid_nbd_cli.specs.declared.ends.NbdEnd.{NbdEnd}
use Rattle.reraid_nbd_cli.specs.declared.ends.NbdEnd.TheVariants.{Refused, ImageFault, MapsFault, Long, Stopped}

-- attaching comes before, reads nothing and meets no fault
pub same_counts : (a b : Seen) → a.faults ≡ b.faults → a.sectors_read ≡ b.sectors_read → counts_of a ≡ counts_of b
same_counts a b faults read = rw (faults, read) refl

pub ends_before : (refused : Option Refusal) (size : ℕ) (content : Option (List ℕ)) (cost : Asked → Option ℕ) (seen mid new : Seen) (source left out put : Stream) (r : Result (Unit {0}) NbdEnd) → mid.faults ≡ seen.faults → mid.sectors_read ≡ seen.sectors_read →
    Ends refused size content cost (place mid source out) (place new left put) r → Ends refused size content cost (place seen source out) (place new left put) r
ends_before refused size content cost seen mid new source left out put (Ok done) faults read ends =
    let P : Counts → Type 0 = λ c. IfSome content (λ bytes. Serves (costing cost) (dialogue bytes) (wire source.known out.known c) (wire left.known put.known (counts_of new)) (Ok done)) in
    record { allowed = ends.allowed; short = ends.short; serves = subst P (same_counts mid seen faults read) ends.serves }
ends_before refused size content cost seen mid new source left out put (Err (Stopped stop)) faults read ends =
    let P : Counts → Type 0 = λ c. IfSome content (λ bytes. Serves (costing cost) (dialogue bytes) (wire source.known out.known c) (wire left.known put.known (counts_of new)) (Err stop)) in
    record { allowed = ends.allowed; short = ends.short; serves = subst P (same_counts mid seen faults read) ends.serves }
ends_before refused size content cost seen mid new source left out put (Err (Long n)) faults read ends =
    (ends.0, ends.1, ends.2, record { source = ends.3.source; out = ends.3.out; unread = ends.3.unread ∙ read }, ends.4 ∙ faults)
ends_before refused size content cost seen mid new source left out put (Err (Refused why)) faults read ends =
    (ends.0, record { source = ends.1.source; out = ends.1.out; unread = ends.1.unread ∙ read }, ends.2 ∙ faults)
ends_before refused size content cost seen mid new source left out put (Err ImageFault) faults read ends =
    (record { source = ends.0.source; out = ends.0.out; unread = ends.0.unread ∙ read }, subst (λ (n : ℕ). Rose n new.faults) faults ends.1)
ends_before refused size content cost seen mid new source left out put (Err MapsFault) faults read ends = absurd ends

pub has_images : (names : ℕ) (attached : List Image) (r : Result (Unit {0}) NbdEnd) → (IsErrOf r ImageFault → ⊥) → length attached ≡ min names 65536 → HasImages (named names attached) r
has_images names attached (Ok done) none all = all
has_images names attached (Err (Refused why)) none all = all
has_images names attached (Err (Long n)) none all = all
has_images names attached (Err (Stopped stop)) none all = all
has_images names attached (Err MapsFault) none all = all
has_images names attached (Err ImageFault) none all = absurd (none refl)

pub ran : (command : Command) (names : ℕ) (seen mid new : Seen) (source left out put : Stream) (r : Result (Unit {0}) NbdEnd) → mid.faults ≡ seen.faults → mid.sectors_read ≡ seen.sectors_read → mid.world ≡ seen.world → length mid.attached ≡ min names 65536 →
    Shows (refusal (Ok command) (named names mid.attached)) (sectors (Ok command) (named names mid.attached)) (volume (Ok command) (named names mid.attached)) (cost_of (Ok command)) (place mid source out) (place new left put) r →
    Runs (Ok command) (named names new.attached) (place seen source out) (place new left put) r
ran command names seen mid new source left out put r faults read world all shows =
    let P : List Image → Type 0 = λ attached. Ends (refusal (Ok command) (named names attached)) (sectors (Ok command) (named names attached)) (volume (Ok command) (named names attached)) (cost_of (Ok command)) (place seen source out) (place new left put) r in
    record {
      ends = subst P (sym shows.attached) (ends_before (refusal (Ok command) (named names mid.attached)) (sectors (Ok command) (named names mid.attached)) (volume (Ok command) (named names mid.attached)) (cost_of (Ok command)) seen mid new source left out put r faults read shows.ends);
      leaves = record { source = shows.leaves.source; out = shows.leaves.out; later = subst (λ (n : ℕ). n ≤ new.faults) faults shows.leaves.later; world = shows.leaves.world ∙ world };
      images = has_images names new.attached r shows.attaches (ap (λ (images : List Image). length images) shows.attached ∙ all);
      none = tt;
    }

-- an image could not be attached
pub cut : (command : Command) (names : ℕ) (seen new : Seen) (source out : Stream) → length new.attached < min names 65536 → Rose seen.faults new.faults → seen.faults ≤ new.faults → new.sectors_read ≡ seen.sectors_read → new.world ≡ seen.world →
    Runs (Ok command) (named names new.attached) (place seen source out) (place new source out) (Err ImageFault)
cut command names seen new source out fewer rose later unread world = record {
  ends = (record { source = refl; out = refl; unread = unread }, rose);
  leaves = record {
    source = record { rose = λ e. absurd (cc); stays = λ none. refl; later = omega arith };
    out = record { rose = λ e. absurd (cc); stays = λ none. refl; later = omega arith };
    later = later;
    world = world;
  };
  images = fewer;
  none = tt;
}

-- the words are refused
pub wordless : (number names : ℕ) (seen : Seen) (source out : Stream) → Runs (Err number) (named names seen.attached) (place seen source out) (place seen source out) (Err (Refused (Word number)))
wordless number names seen source out = record {
  ends = (refl, record { source = refl; out = refl; unread = refl }, refl);
  leaves = record {
    source = record { rose = λ e. absurd (cc); stays = λ none. refl; later = omega arith };
    out = record { rose = λ e. absurd (cc); stays = λ none. refl; later = omega arith };
    later = omega arith;
    world = refl;
  };
  images = tt;
  none = refl;
}

-- images that were attached are below 2^55 sectors
pub images_small : (world : World) (names : List (List ℕ)) (images : List Image) → AreImagesOf world names images → All (λ image. image.sectors < 2 ^ 55) images
images_small world names [] are = All-nil (λ (image : Image). image.sectors < 2 ^ 55)
images_small world [] (image ∷ images) are = absurd are
images_small world (name ∷ names) (image ∷ images) are =
    All-cons (λ (one : Image). one.sectors < 2 ^ 55) image images are.0.small (images_small world names images are.1)

-- all are attached
pub are_images : (names : List (List ℕ)) (seen new : Seen) → seen.attached ≡ [] → AttachesSome seen new names → length new.attached ≡ min (length names) 65536 → AreImages (length names) new.attached
are_images names seen new fresh some all =
    let own : new.attached ≡ some.attached.0 = some.attached.2 ∙ ap (λ (images : List Image). images ++ some.attached.0) fresh in
    record { many = all; small = subst (λ (images : List Image). All (λ image. image.sectors < 2 ^ 55) images) (sym own) (images_small seen.world names some.attached.0 some.attached.1) }

-- what the notes gained by one put
pub noted : (old new : Stream) (r : Result (Unit {0}) Failed) (put line : List ℕ) → put ≡ line → Puts old.known new.known r put → HasCause old.faults new.faults r → Appends old.known new.known line ⊎ (AppendsFront old.known new.known line × Rose old.faults new.faults)
noted old new (Ok done) put line same puts cause = inl (subst (λ (text : List ℕ). Appends old.known new.known text) same puts)
noted old new (Err failed) put line same puts cause = inr (subst (λ (text : List ℕ). AppendsFront old.known new.known text) same puts, cause.failed)
