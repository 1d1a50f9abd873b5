-- What an end says: its status and its line.
use Rattle.std.specs.Prelude.{ℕ, ◌≡◌, ◌⊎◌, List, ◌++◌, codes, decimal, Result, Ok, Err}
use Rattle.std.specs.Io.KnownBytes.{Appends}
use Rattle.outside.specs.Causes.{Rose}
use Rattle.outside.specs.Streams.{AppendsFront, Stream}
use Rattle.nbd_server.specs.declared.stop.NbdStop.{NbdStop}
use Rattle.nbd_server.specs.declared.stop.NbdStop.TheVariants.{SourceFault, OutFault, Malformed, OutOfMemory}
use Rattle.run_ends.specs.Stops.{notice_of, refusal_notice}
use Rattle.run_ends.specs.declared.stop.Stop.{Stop}
use Rattle.run_ends.specs.declared.stop.Stop.TheVariants.{Refused as RefusedStop, SourceFault as SourceStop, ImageFault as ImageStop, OutFault as OutStop, OutOfMemory as MemoryStop}
use Rattle.reraid_nbd_cli.specs.declared.ends.NbdEnd.{NbdEnd}
use Rattle.reraid_nbd_cli.specs.declared.ends.NbdEnd.TheVariants.{Refused, ImageFault, MapsFault, Long, Stopped}

-- the line of a volume that is too long
abbrev pub long_line : ℕ → List ℕ
long_line sectors = codes "reraid: volume of " ++ decimal sectors ++ codes " sectors is too long\n"

-- the status where the server stopped, and the line on the notes
abbrev pub stop_notice : NbdStop → ℕ × List ℕ
stop_notice SourceFault = (11, codes "reraid: input fault\n")
stop_notice OutFault = notice_of OutStop
stop_notice Malformed = (14, codes "reraid: dialogue is malformed\n")
stop_notice OutOfMemory = notice_of MemoryStop

-- the status of each end, and its line
abbrev pub end_notice : NbdEnd → ℕ × List ℕ
end_notice (Refused refusal) = refusal_notice refusal
end_notice ImageFault = notice_of ImageStop
end_notice MapsFault = (16, codes "reraid: maps read fault\n")
end_notice (Long sectors) = (15, long_line sectors)
end_notice (Stopped stop) = stop_notice stop

-- how a run ends, by how its server did
abbrev pub ended : Result (Unit {0}) NbdStop → Result (Unit {0}) NbdEnd
ended (Ok done) = Ok done
ended (Err stop) = Err (Stopped stop)

-- how a run ends where `salvage` would stop before it writes
abbrev pub end_of_stop : Stop → NbdEnd
end_of_stop (RefusedStop refusal) = Refused refusal
end_of_stop SourceStop = MapsFault
end_of_stop _ = Stopped OutOfMemory

-- the status says how a run ended, and the notes gained its line, or a front of it where their count of faults rose
abbrev pub IsTold : Result (Unit {0}) NbdEnd → ℕ → Stream → Stream → Type 0
IsTold (Ok done) status old new = (status ≡ 0) × (new ≡ old)
IsTold (Err end) status old new =
    (status ≡ (end_notice end).0) × (Appends old.known new.known (end_notice end).1 ⊎ (AppendsFront old.known new.known (end_notice end).1 × Rose old.faults new.faults))
