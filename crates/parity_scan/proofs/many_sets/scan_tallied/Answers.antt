use Rattle.std.proofs.Common.{IfSome, length, List, rules, subst}
use Rattle.outside.specs.Attached.{told_all}
use Rattle.outside.specs.Seen.{Image}
use Rattle.member_regions.specs.Regions.{IsRoomFor}
use Rattle.member_regions.specs.declared.regions.TheConstants.{BLOCK}
use Rattle.parity_scan.specs.Pass.{TalliesAll, TalliesTo}
use Rattle.parity_scan.specs.Tallies.{AllTallies}
use Rattle.parity_scan.proofs.Judging.{can_later, can_scan, swept_verdicts}
use Rattle.parity_scan.proofs.Sweeps.{scan_read}
use Rattle.parity_scan.proofs.many_sets.scan_tallied.Goals as goal

pub test_samples-requires-clause-can : goal.test_samples-requires-clause-can
test_samples-requires-clause-can g c =
    let fits : IsRoomFor (length c.args.scope.now.lengths.items) BLOCK c.in_ok-regions.regions = search rules in
    can_scan c.args.scope.now c.args.sets.now (g.I.Images.seen c.args.images.now).attached c.in_ok-regions.regions c.requires.some c.requires.sets c.requires.images fits

pub sweep-requires-clause-can : goal.sweep-requires-clause-can
sweep-requires-clause-can g c = λ κs within.
    let fits : IsRoomFor (length c.args.scope.now.lengths.items) BLOCK c.in_ok-regions.regions = search rules in
    let can = can_scan c.args.scope.now c.args.sets.now (g.I.Images.seen c.args.images.now).attached c.in_ok-regions.regions c.requires.some c.requires.sets c.requires.images fits in
    can_later c.args.scope.now c.args.sets.now (g.I.Images.seen c.args.images.now).attached (g.I.Images.seen c.test_samples.new.images).attached c.in_ok-regions.regions c.test_samples.new.regions
    can c.test_samples.ensures.reads.attached c.test_samples.ensures.room

pub returns-clause-reads : goal.returns-clause-reads
returns-clause-reads g c =
    scan_read (g.I.Images.seen c.args.images.now) (g.I.Images.seen c.test_samples.new.images) (g.I.Images.seen c.sweep.new.images) c.args.scope.now c.args.sets.now c.test_samples.ensures.reads c.sweep.ensures.reads

pub returns-in_err-map_err-2-clause-reads : goal.returns-in_err-map_err-2-clause-reads
returns-in_err-map_err-2-clause-reads g c =
    scan_read (g.I.Images.seen c.args.images.now) (g.I.Images.seen c.test_samples.new.images) (g.I.Images.seen c.sweep.new.images) c.args.scope.now c.args.sets.now c.test_samples.ensures.reads c.sweep.ensures.reads

pub returns-clause-told : goal.returns-clause-told
returns-clause-told g c =
    let begin : IfSome (told_all (g.I.Images.seen c.args.images.now).attached) (λ bytes. AllTallies (TalliesTo bytes c.args.scope.now 0) c.args.sets.now c.test_samples.new.tallies) = search rules in
    let swept : IfSome (told_all (g.I.Images.seen c.test_samples.new.images).attached) (λ bytes. AllTallies (TalliesTo bytes c.args.scope.now 0) c.args.sets.now c.test_samples.new.tallies →
    AllTallies (TalliesAll bytes c.args.scope.now) c.args.sets.now c.sweep.new.tallies) = search rules in
    let goes : IfSome (told_all (g.I.Images.seen c.args.images.now).attached) (λ bytes. AllTallies (TalliesTo bytes c.args.scope.now 0) c.args.sets.now c.test_samples.new.tallies →
    AllTallies (TalliesAll bytes c.args.scope.now) c.args.sets.now c.sweep.new.tallies)
    = subst (λ (attached : List Image). IfSome (told_all attached) (λ bytes. AllTallies (TalliesTo bytes c.args.scope.now 0) c.args.sets.now c.test_samples.new.tallies →
    AllTallies (TalliesAll bytes c.args.scope.now) c.args.sets.now c.sweep.new.tallies)) c.test_samples.ensures.reads.attached swept in
    swept_verdicts (told_all (g.I.Images.seen c.args.images.now).attached) c.args.scope.now c.args.sets.now c.test_samples.new.tallies c.sweep.new.tallies c.sweep.ensures.long begin goes
