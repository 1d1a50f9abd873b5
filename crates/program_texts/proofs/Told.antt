-- A job that only puts a text.
use Rattle.std.proofs.Common.{ℕ, List, None, Some, Result, Ok, refl, arith}
use Rattle.outside.specs.Streams.{Stream}
use Rattle.run_ends.proofs.Printed.{does_printed, no_raise}
use Rattle.run_ends.specs.Jobs.{Answers, Around, Does, IsPrinted, Named, imageless}
use Rattle.run_ends.specs.declared.stop.Stop.{Stop}
use Rattle.run_ends.specs.declared.stop.Stop.TheVariants.{ImageFault, SourceFault}

answers : (text : List ℕ) (given : Named) (place : Around) → Answers (imageless None (Some text)) given place place (Ok text)
answers text given place = record {
  refuses = λ said says. record { ends = tt; passes = refl };
  text = λ said says. refl;
  order = λ said says refusal some. absurd (cc);
  reads = λ said says. omega arith;
  takes = refl;
  heeds = tt;
  causes = record {
    images = no_raise ImageFault place.images.faults (Ok text) (λ e. absurd (cc));
    source = no_raise SourceFault place.source.faults (Ok text) (λ e. absurd (cc));
    unput = λ e. absurd (cc);
    unread = tt;
  };
  apart = λ e. refl;
  world = refl;
}

pub told : {T : Type 0} (text : List ℕ) (given : Named) (place : Around) (old new : Stream) (result : Result T Stop) → IsPrinted old new (Ok text) result → Does (imageless None (Some text)) given place place old new result
told text given place old new result printed = does_printed (imageless None (Some text)) given place place old new (Ok text) result refl (answers text given place) printed
