use Rattle.std.proofs.Common.{rules, ◌≡◌, true, false, length, get_or, ap, ◌∙◌, arith}
use Rattle.parity_scan.specs.Tallies.{has_passed}
use Rattle.parity_scan.specs.declared.tally.Tally.TheVariants.{Left}
use Rattle.head_walk.proofs.Passed.{adds_begin, adds_end, adds_fail, adds_full, adds_pass}
use Rattle.head_walk.proofs.scanning.add_passed.Goals as goal
use Rattle.head_walk.proofs.scanning.add_passed.Goals.{then-has_passed+in_ok-push+else-as_slice-size, else-has_passed}

pub loop-k-init : goal.loop-k-init
loop-k-init c = adds_begin c.args.size c.args.waiting.now c.args.lines.now c.requires.size

pub returns-then-as_slice-size : goal.returns-then-as_slice-size
returns-then-as_slice-size c =
    let has : has_passed (get_or c.args.waiting.now.tallies.items c.loop-k.k (Left 0)) ≡ true = search rules in
    adds_full c.args.size c.args.waiting.now c.loop-k.k _ c.args.lines.now c.loop-k.lines c.push.new.self _ c.line_of.result (Left 0) c.requires.ranks c.requires.tallies (search rules) has (search rules) (search rules) c.line_of.ensures c.in_ok-push.ensures.ok (search rules) (search rules) c.loop-k.invariant

pub loop-k-preserved : goal.loop-k-preserved
loop-k-preserved c = elim c.if-has_passed.branch [
  | then-has_passed+in_ok-push+else-as_slice-size w ↦ (
      let has : has_passed (get_or c.args.waiting.now.tallies.items c.loop-k.k (Left 0)) ≡ true = search rules in
      adds_pass c.args.size c.args.waiting.now c.loop-k.k c.args.lines.now c.loop-k.lines c.if-has_passed.lines _ w.line_of.result (Left 0) c.requires.ranks c.requires.tallies (search rules) has (search rules) (search rules) w.line_of.ensures (w.lines-is ∙ w.in_ok-push.ensures.ok) (search rules) c.loop-k.invariant)
  | else-has_passed w ↦ (
      let fails : has_passed (get_or c.args.waiting.now.tallies.items c.loop-k.k (Left 0)) ≡ false = search rules in
      adds_fail c.args.size c.args.waiting.now c.loop-k.k c.args.lines.now c.loop-k.lines c.if-has_passed.lines (Left 0) c.requires.ranks c.requires.tallies (search rules) fails w.lines-is c.loop-k.invariant)
]

pub returns : goal.returns
returns c = adds_end c.args.size c.args.waiting.now c.loop-k.k c.args.lines.now c.loop-k.lines c.requires.ranks (let end = c.loop-k-test.false in let same = ap length c.as_slice-sets.ensures in omega arith) c.loop-k.invariant
