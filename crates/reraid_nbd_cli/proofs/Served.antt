-- How a volume is shown that was served.
use Rattle.std.proofs.Common.{◌≡◌, ℕ, ◌≤◌, ◌<◌, ◌^◌, List, Option, None, Result, Ok, Err, IfSome, IsErrOf, refl, ap}
use Rattle.block_device.specs.Reading.{Asked, counts_of}
use Rattle.nbd_server.specs.Served.{Serves}
use Rattle.nbd_server.specs.Taken.{Raises as Raised}
use Rattle.nbd_server.specs.Turns.{wire}
use Rattle.nbd_server.specs.declared.stop.NbdStop.{NbdStop}
use Rattle.nbd_server.specs.declared.stop.NbdStop.TheVariants.{SourceFault, OutFault}
use Rattle.nbd_text.specs.Dialogue.{dialogue}
use Rattle.outside.specs.Seen.{Seen}
use Rattle.outside.specs.Streams.{Stream}
use Rattle.run_ends.specs.Counts.{Raises}
use Rattle.reraid_nbd_cli.specs.Ends.{ended}
use Rattle.reraid_nbd_cli.specs.Runs.{Shows, costing, place}
use Rattle.reraid_nbd_cli.specs.declared.ends.NbdEnd.TheVariants.{Stopped}

same_stop : (result : Result (Unit {0}) NbdStop) (fault : NbdStop) → IsErrOf (ended result) (Stopped fault) → IsErrOf result fault
same_stop (Ok done) fault e = absurd (cc)
same_stop (Err stop) fault e = let f = e in let g : stop ≡ fault = cc in ap (λ (s : NbdStop). Err s) g

same_end : (result : Result (Unit {0}) NbdStop) (fault : NbdStop) → IsErrOf result fault → IsErrOf (ended result) (Stopped fault)
same_end (Ok done) fault e = absurd (cc)
same_end (Err stop) fault e = let f = e in let g : stop ≡ fault = cc in ap (λ (s : NbdStop). Err (Stopped s)) g

raised : (fault : NbdStop) (before after : ℕ) (result : Result (Unit {0}) NbdStop) → Raised fault before after result → Raises (Stopped fault) before after (ended result)
raised fault before after result raises = record {
  rose = λ e. raises.rose (same_stop result fault e);
  stays = λ none. raises.stays (λ e. none (same_end result fault e));
  later = raises.later;
}

pub shown_served : (size : ℕ) (content : Option (List ℕ)) (cost : Asked → Option ℕ) (old new : Seen) (source left out put : Stream) (result : Result (Unit {0}) NbdStop) → size < 2 ^ 54 →
    IfSome content (λ bytes. Serves (costing cost) (dialogue bytes) (wire source.known out.known (counts_of old)) (wire left.known put.known (counts_of new)) result) → new.world ≡ old.world → new.attached ≡ old.attached → old.faults ≤ new.faults →
    Raised SourceFault source.faults left.faults result → Raised OutFault out.faults put.faults result → Shows None size content cost (place old source out) (place new left put) (ended result)
shown_served size content cost old new source left out put (Ok done) short serves world attached later taken given = record {
  ends = record { allowed = refl; short = short; serves = serves };
  attaches = λ e. absurd (cc);
  leaves = record { source = raised SourceFault source.faults left.faults (Ok done) taken; out = raised OutFault out.faults put.faults (Ok done) given; later = later; world = world };
  attached = attached;
}
shown_served size content cost old new source left out put (Err stop) short serves world attached later taken given = record {
  ends = record { allowed = refl; short = short; serves = serves };
  attaches = λ e. absurd (cc);
  leaves = record { source = raised SourceFault source.faults left.faults (Err stop) taken; out = raised OutFault out.faults put.faults (Err stop) given; later = later; world = world };
  attached = attached;
}
