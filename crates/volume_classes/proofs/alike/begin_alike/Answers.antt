use Rattle.std.proofs.Common.{◌≤◌, length, arith}
use Rattle.std.proofs.lemmas.Bool.Decides.{Decides-eqb}
use Rattle.std.proofs.lemmas.Slice.Eq.{slice_eq-Decides}
use Rattle.volume_classes.proofs.Agreeing.{front_from, front_to}
use Rattle.volume_classes.proofs.alike.begin_alike.Goals as goal

pub returns : goal.returns
returns c =
    let decided = slice_eq-Decides Decides-eqb _ _ _ c.eq.ensures in
    let left_long : c.args.count ≤ length c.args.left.now = (let h = c.requires.left in let r = c.ranges.count in omega arith) in
    let right_long : c.args.count ≤ length c.args.right.now = (let h = c.requires.right in let r = c.ranges.count in omega arith) in
    (λ is. front_to c.args.count c.args.left.now c.args.right.now (decided.0 is), λ each. decided.1 (front_from c.args.count c.args.left.now c.args.right.now left_long right_long each))
