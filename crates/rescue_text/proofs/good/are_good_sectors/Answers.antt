use Rattle.std.proofs.Common.{sym, subst}
use Rattle.rescue_text.specs.Good.{AreSideBySide}
use Rattle.rescue_text.proofs.Sound.{found_side}
use Rattle.rescue_text.proofs.good.are_good_sectors.Goals as goal

pub are_sectors_read-requires-clause-blocks : goal.are_sectors_read-requires-clause-blocks
are_sectors_read-requires-clause-blocks c = subst AreSideBySide (sym c.as_slice.ensures) (found_side c.args.sections.now c.args.image c.in-Some.section.now c.requires.sections c.in-Some.ensures)
