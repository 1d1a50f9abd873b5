use Rattle.std.proofs.Common.{arith}
use Rattle.member_regions.proofs.image_sums.add_sector.Goals as goal

pub returns-clause-bytes : goal.returns-clause-bytes
returns-clause-bytes c = λ x. let fits = c.type_inv.sector x in omega arith
