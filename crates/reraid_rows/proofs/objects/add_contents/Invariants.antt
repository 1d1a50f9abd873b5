use Rattle.std.proofs.Common.{◌≡◌}
use Rattle.reraid_rows.proofs.objects.add_contents.Given as goal

abbrev pub invariant-loop-name : goal.invariant-loop-name
invariant-loop-name l = record {
  attached : l.images.attached ≡ l.fn.images.attached;
  faults : l.images.faults ≡ l.fn.images.faults;
}
