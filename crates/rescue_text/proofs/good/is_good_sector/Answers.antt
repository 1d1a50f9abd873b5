use Rattle.std.proofs.Common.{sym, subst}
use Rattle.rescue_text.specs.Good.{AreSideBySide}
use Rattle.rescue_text.proofs.Sound.{found_side}
use Rattle.rescue_text.proofs.good.is_good_sector.Goals as goal

pub is_sector_read-requires : goal.is_sector_read-requires
is_sector_read-requires c = subst AreSideBySide (sym c.as_slice.ensures) (found_side c.args.sections.now c.args.image c.in-Some.section.now c.requires c.in-Some.ensures)
