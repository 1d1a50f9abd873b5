use Rattle.std.proofs.Common.{◌≡◌, drop}
use Rattle.rescue_text.specs.Good.{section_of}
use Rattle.rescue_text.proofs.good.find_section.Given as goal

abbrev pub invariant-loop-section : goal.invariant-loop-section
invariant-loop-section l = section_of (drop l.section-index l.sections) l.image ≡ section_of l.sections l.image
