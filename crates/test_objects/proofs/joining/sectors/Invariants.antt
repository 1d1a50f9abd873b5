use Rattle.std.proofs.Common.{◌≡◌, ◌*◌, length}
use Rattle.test_objects.proofs.joining.sectors.Given as goal

abbrev pub invariant-loop-place : goal.invariant-loop-place
invariant-loop-place l = length l.all.items ≡ 512 * l.place
