-- How a volume is shown: over the end of its members, where the set is refused, and over padded images.
use Rattle.std.proofs.Common.{◌≡◌, ℕ, List, Option, None, Some, Result, Ok, Err, refl, sym, subst, arith}
use Rattle.block_device.specs.Reading.{Asked}
use Rattle.nbd_server.specs.declared.stop.NbdStop.TheVariants.{SourceFault, OutFault}
use Rattle.outside.specs.Seen.{OnlyReads, Seen}
use Rattle.outside.specs.Streams.{Stream}
use Rattle.image_padding.specs.Padded.{seen_padded}
use Rattle.image_padding.proofs.Within.{reads_within}
use Rattle.run_ends.specs.Counts.{Raises}
use Rattle.run_ends.specs.declared.stop.Refusal.{Refusal}
use Rattle.reraid_nbd_cli.specs.Runs.{Ends, IsUntouched, Leaves, Place, Shows, place}
use Rattle.reraid_nbd_cli.specs.declared.ends.NbdEnd.{NbdEnd}
use Rattle.reraid_nbd_cli.specs.declared.ends.NbdEnd.TheVariants.{Refused, ImageFault, MapsFault, Long, Stopped}

-- a count that stayed at an end that is no fault of its object
calm : (fault end : NbdEnd) (count : ℕ) → (end ≡ fault → ⊥) → Raises {T = Unit {0}} fault count count (Err end)
calm fault end count other = record { rose = λ e. absurd (other (cc)); stays = λ none. refl; later = omega arith }

-- over the end of the members, of a set that is not refused
pub allowed_shown : (refused : Option Refusal) (size : ℕ → ℕ) (content : ℕ → Option (List ℕ)) (cost : Asked → Option ℕ) (last end : ℕ) (old new : Place) (r : Result (Unit {0}) NbdEnd) → refused ≡ None → last ≡ end →
    Shows None (size last) (content last) cost old new r → Shows refused (size end) (content end) cost old new r
allowed_shown refused size content cost last end old new r none is shows =
    let P : ℕ → Type 0 = λ n. Shows None (size n) (content n) cost old new r in
    let Q : Option Refusal → Type 0 = λ f. Shows f (size end) (content end) cost old new r in
    subst Q (sym none) (subst P is shows)

-- nothing was done
pub still : (old : Place) (end : NbdEnd) → (end ≡ Stopped SourceFault → ⊥) → (end ≡ Stopped OutFault → ⊥) → Leaves old old (Err end)
still old end source out = record {
  source = calm (Stopped SourceFault) end old.source.faults source;
  out = calm (Stopped OutFault) end old.out.faults out;
  later = omega arith;
  world = refl;
}

pub untouched : (old : Place) → IsUntouched old old
untouched old = record { source = refl; out = refl; unread = refl }

-- what is refused
pub shown_refused : (refused : Option Refusal) (refusal : Refusal) (size : ℕ) (content : Option (List ℕ)) (cost : Asked → Option ℕ) (old : Place) → refused ≡ Some refusal → Shows refused size content cost old old (Err (Refused refusal))
shown_refused refused refusal size content cost old is = record {
  ends = (is, untouched old, refl);
  attaches = λ e. absurd (cc);
  leaves = still old (Refused refusal) (λ e. absurd (cc)) (λ e. absurd (cc));
  attached = refl;
}

-- what was shown of padded images was shown of those within
calmed : Seen → Seen
calmed seen = record seen { faults = 0; sectors_read = 0 }

ends_within : (reference other : ℕ) (bases others : List ℕ) (size : ℕ) (content : Option (List ℕ)) (cost : Asked → Option ℕ) (old new : Seen) (source left out put : Stream) (r : Result (Unit {0}) NbdEnd) →
    Ends None size content cost (place (seen_padded reference bases old) source out) (place (seen_padded other others new) left put) r → Ends None size content cost (place old source out) (place new left put) r
ends_within reference other bases others size content cost old new source left out put (Ok done) ends = record { allowed = ends.allowed; short = ends.short; serves = ends.serves }
ends_within reference other bases others size content cost old new source left out put (Err (Stopped stop)) ends = record { allowed = ends.allowed; short = ends.short; serves = ends.serves }
ends_within reference other bases others size content cost old new source left out put (Err (Long n)) ends =
    (ends.0, ends.1, ends.2, record { source = ends.3.source; out = ends.3.out; unread = ends.3.unread }, ends.4)
ends_within reference other bases others size content cost old new source left out put (Err (Refused refusal)) ends =
    (ends.0, record { source = ends.1.source; out = ends.1.out; unread = ends.1.unread }, ends.2)
ends_within reference other bases others size content cost old new source left out put (Err ImageFault) ends =
    (record { source = ends.0.source; out = ends.0.out; unread = ends.0.unread }, ends.1)
ends_within reference other bases others size content cost old new source left out put (Err MapsFault) ends = absurd ends

pub shows_within : (reference other : ℕ) (bases others : List ℕ) (size : ℕ) (content : Option (List ℕ)) (cost : Asked → Option ℕ) (old new : Seen) (source left out put : Stream) (r : Result (Unit {0}) NbdEnd) →
    Shows None size content cost (place (seen_padded reference bases old) source out) (place (seen_padded other others new) left put) r → (other ≡ reference) × Shows None size content cost (place old source out) (place new left put) r
unfolding calmed
shows_within reference other bases others size content cost old new source left out put r shows =
    let reads : OnlyReads (seen_padded reference bases (calmed old)) (seen_padded other others (calmed new)) 0
    = record { world = shows.leaves.world; attached = shows.attached; sectors_read = omega arith; sectors_later = omega arith; faults = omega arith } in
    let within = reads_within reference other bases others (calmed old) (calmed new) 0 reads in (
      within.0,
      record {
        ends = ends_within reference other bases others size content cost old new source left out put r shows.ends;
        attaches = shows.attaches;
        leaves = record { source = shows.leaves.source; out = shows.leaves.out; later = shows.leaves.later; world = within.1.world };
        attached = within.1.attached;
      },
    )
