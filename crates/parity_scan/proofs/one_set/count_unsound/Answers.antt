use Rattle.std.proofs.Common.{◌≡◌, ◌+◌, false, length, rules, arith, sym, ◌∙◌}
use Rattle.raid_terms.specs.Parity.{tested_rows}
use Rattle.member_regions.proofs.Held.{reads_images}
use Rattle.parity_scan.specs.Scan.{is_unbreakable}
use Rattle.parity_scan.proofs.Sets.{scannable_held, scannable_testable}
use Rattle.parity_scan.proofs.Unbroken.{none_told}
use Rattle.parity_scan.proofs.one_set.count_unsound.Goals as goal

pub count_rows-requires-clause-held : goal.count_rows-requires-clause-held
count_rows-requires-clause-held g c = λ some. scannable_held c.args.geo.now c.args.scope.now.end (c.args.geo.now.head.offset + c.rows_of-rows.result) (g.I.Images.seen c.args.images.now).attached c.requires.set (omega arith)

pub returns-clause-reads : goal.returns-clause-reads
returns-clause-reads g c =
    let broken : is_unbreakable c.args.geo.now ≡ false = sym c.nothing_can_break.ensures ∙ c.if-nothing_can_break.false in
    rw broken (reads_images (g.I.Images.seen c.args.images.now) (g.I.Images.seen c.count_rows.new.images) c.args.geo.now (length (g.I.Images.seen c.args.images.now).attached) _ c.requires.set.shaped (search rules))

pub returns-then-nothing_can_break-clause-told : goal.returns-then-nothing_can_break-clause-told
returns-then-nothing_can_break-clause-told g c =
    none_told (g.I.Images.seen c.args.images.now).attached c.args.geo.now (tested_rows c.args.geo.now c.args.scope.now.end c.args.scope.now.limits.window) (g.met.I.Images.tells_bytes c.args.images.now)
    (scannable_testable c.args.geo.now c.args.scope.now.end (g.I.Images.seen c.args.images.now).attached c.requires.set) (sym c.nothing_can_break.ensures ∙ c.if-nothing_can_break.true)
