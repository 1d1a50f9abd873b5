use Rattle.std.proofs.Common.{rules, ◌≡◌, ◌∙◌, map}
use Rattle.parity_scan.specs.Tallies.{unbroken_tally}
use Rattle.parity_scan.proofs.Judging.{all_first, none_open}
use Rattle.parity_scan.proofs.many_sets.scan.Goals as goal

pub scan_tallied-requires-clause-begin : goal.scan_tallied-requires-clause-begin
scan_tallied-requires-clause-begin g c κs within =
    let is : c.in_ok-tallies.tallies.items ≡ map (unbroken_tally c.args.scope.now) c.args.sets.now = search rules in
    all_first (g.I.Images.seen c.args.images.now).attached c.args.scope.now c.args.sets.now c.deref_mut.result.now (g.met.I.Images.tells_bytes c.args.images.now) c.requires.sets
    (c.deref_mut.ensures.value ∙ is)

pub returns-clause-unread : goal.returns-clause-unread
returns-clause-unread g c = λ all.
    let is : c.in_ok-tallies.tallies.items ≡ map (unbroken_tally c.args.scope.now) c.args.sets.now = search rules in
    c.scan_tallied.ensures.unread (none_open c.args.scope.now c.args.sets.now c.deref_mut.result.now (c.deref_mut.ensures.value ∙ is) all)

pub returns-in_err-scan_tallied-clause-unread : goal.returns-in_err-scan_tallied-clause-unread
returns-in_err-scan_tallied-clause-unread g c = λ all.
    let is : c.in_ok-tallies.tallies.items ≡ map (unbroken_tally c.args.scope.now) c.args.sets.now = search rules in
    c.scan_tallied.ensures.unread (none_open c.args.scope.now c.args.sets.now c.deref_mut.result.now (c.deref_mut.ensures.value ∙ is) all)
