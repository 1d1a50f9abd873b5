-- What was read of a device, by what its images count.
use Rattle.std.proofs.Common.{ℕ, Bool, Option, List, [], ◌∷◌, Result, Ok, Err, ap}
use Rattle.block_device.specs.Reading.{Answers, Asked, Counts, asked_for}
use Rattle.nbd_server.specs.Served.{EndsBy, Serves, Talks}
use Rattle.nbd_server.specs.Turns.{ReadInTurn, Wire, wire}
use Rattle.nbd_server.specs.declared.stop.NbdStop.{NbdStop}
use Rattle.nbd_server.specs.declared.stop.NbdStop.TheVariants.{SourceFault, OutFault, Malformed, OutOfMemory}
use Rattle.nbd_text.specs.Dialogue.{Said}
use Rattle.nbd_text.specs.Requests.{Reading}
use Rattle.reraid_nbd_cli.specs.Runs.{costing}

-- the readings of a device that stays what it is, `Stays`, and of which each costs so many sectors
counted : {D : Type 0} (reads : D → Asked → Bool → D → Type 0) (counts : D → Counts) (Stays : D → Type 0) (cost : Asked → Option ℕ) →
    ((before after : D) (asked : Asked) (failed : Bool) → Stays before → reads before asked failed after → Answers (cost asked) failed (counts before) (counts after) × Stays after) →
    (readings : List Reading) (before after : D) → Stays before → ReadInTurn reads before readings after → ReadInTurn (costing cost) (counts before) readings (counts after)
counted reads counts Stays cost each [] before after stays are = ap counts are
counted reads counts Stays cost each (reading ∷ others) before after stays are =
    let mid = are.0 in
    let one = each before mid (asked_for reading.request.offset reading.request.length) reading.failed stays are.1 in
    (counts mid, one.0, counted reads counts Stays cost each others mid after one.1 are.2)

talks_counted : {D : Type 0} (reads : D → Asked → Bool → D → Type 0) (say : List Bool → List ℕ → Said) (old new : Wire D) (result : Result (Unit {0}) NbdStop) (talks : Talks reads say old new result) → (counts : D → Counts) (Stays : D → Type 0) (cost : Asked → Option ℕ) →
    ((before after : D) (asked : Asked) (failed : Bool) → Stays before → reads before asked failed after → Answers (cost asked) failed (counts before) (counts after) × Stays after) → Stays old.device →
    EndsBy (say talks.failed talks.taken) (wire old.left old.gained (counts old.device)) (wire new.left new.gained (counts new.device)) talks.taken result →
    Talks (costing cost) say (wire old.left old.gained (counts old.device)) (wire new.left new.gained (counts new.device)) result
talks_counted reads say old new result talks counts Stays cost each stays ends = record {
  taken = talks.taken;
  failed = talks.failed;
  consumed = talks.consumed;
  read = counted reads counts Stays cost each (say talks.failed talks.taken).readings old.device new.device stays talks.read;
  ends = ends;
}

pub serves_counted : {D : Type 0} {reads : D → Asked → Bool → D → Type 0} (say : List Bool → List ℕ → Said) (old new : Wire D) (result : Result (Unit {0}) NbdStop) → Serves reads say old new result → (counts : D → Counts) (Stays : D → Type 0) (cost : Asked → Option ℕ) →
    ((before after : D) (asked : Asked) (failed : Bool) → Stays before → reads before asked failed after → Answers (cost asked) failed (counts before) (counts after) × Stays after) → Stays old.device →
    Serves (costing cost) say (wire old.left old.gained (counts old.device)) (wire new.left new.gained (counts new.device)) result
serves_counted {reads = reads} say old new (Ok done) talks counts Stays cost each stays = talks_counted reads say old new (Ok done) talks counts Stays cost each stays talks.ends
serves_counted {reads = reads} say old new (Err Malformed) talks counts Stays cost each stays = talks_counted reads say old new (Err Malformed) talks counts Stays cost each stays talks.ends
serves_counted {reads = reads} say old new (Err SourceFault) talks counts Stays cost each stays = talks_counted reads say old new (Err SourceFault) talks counts Stays cost each stays talks.ends
serves_counted {reads = reads} say old new (Err OutFault) talks counts Stays cost each stays = talks_counted reads say old new (Err OutFault) talks counts Stays cost each stays talks.ends
serves_counted say old new (Err OutOfMemory) none counts Stays cost each stays = ap (λ w. wire w.left w.gained (counts w.device)) none
