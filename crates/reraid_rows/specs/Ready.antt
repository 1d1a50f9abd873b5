-- Objects in memory that a run may begin with.
use Rattle.std.specs.Prelude.{ℕ, ◌≡◌, List, [], IsTrue, All}
use Rattle.image_source.specs.Memory.{Shelf, Tape, Tray, seen_of}

-- each of the words may be attached as a name, nothing is, and no call has failed
pub record AreReady (words : List (List ℕ)) (images : Shelf) (plan : Tape) (out notes : Tray) : Type 0 where
  pub fresh : images.attached ≡ []
  pub named : All (λ word. IsTrue ((seen_of images).world.may_attach word)) words
  pub images_whole : images.faults ≡ 0
  pub plan_whole : plan.faults ≡ 0
  pub out_whole : out.faults ≡ 0
  pub notes_whole : notes.faults ≡ 0
