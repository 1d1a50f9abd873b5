use Rattle.std.proofs.Common.{ℕ, ◌≡◌, ◌≢◌, ◌<◌, false, length, get_or, None, Some}
use Rattle.parity_scan.specs.Wanted.{HasOne, KeepMarks, MarkOnly}
use Rattle.parity_scan.proofs.wanted.mark_images.Given as goal

abbrev pub invariant-loop-slot : goal.invariant-loop-slot
invariant-loop-slot l = record {
  long : length l.marks ≡ 256;
  kept : KeepMarks l.initial.marks l.marks;
  marked : (image : ℕ) → get_or l.marks image false ≡ false → (slot : ℕ) → slot < l.slot → get_or l.slots slot None ≢ Some image;
  only : MarkOnly l.initial.marks l.marks (HasOne l.slots);
}
