use Rattle.std.proofs.Common.{refl}
use Rattle.row_parity.proofs.Apart.{none_get, places_more, places_none}
use Rattle.row_parity.proofs.known.known_of.Goals as goal

pub loop-place-init : goal.loop-place-init
loop-place-init c = record { long = refl; are = places_none c.args.cells.now _ (λ k. none_get 256 k) refl refl refl }

pub loop-place-preserved : goal.loop-place-preserved
loop-place-preserved c = record {
  long = c.note.ensures.long;
  are =
      places_more c.args.cells.now c.loop-place.place c.loop-place.known c.note.new.known c.requires.cells c.requires.q c.loop-place-test.true c.loop-place.invariant.are
      (record { data_at = c.note.ensures.data_at; later = c.note.ensures.later; reached = c.note.ensures.end; few = c.note.ensures.few; p_at = c.note.ensures.p; q_at = c.note.ensures.q });
}
