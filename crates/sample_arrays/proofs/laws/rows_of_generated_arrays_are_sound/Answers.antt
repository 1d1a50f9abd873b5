use Rattle.sample_arrays.proofs.SoundRows.{none_unsound, sound_rows}
use Rattle.sample_arrays.proofs.laws.rows_of_generated_arrays_are_sound.Goals as goal

pub returns : goal.returns
returns c = record { sound = sound_rows; none = none_unsound }
