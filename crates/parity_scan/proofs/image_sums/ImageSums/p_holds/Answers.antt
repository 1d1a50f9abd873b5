use Rattle.std.proofs.Common.{arith}
use Rattle.parity_scan.proofs.ImageSums.{told_if_there, told_nobody}
use Rattle.parity_scan.proofs.image_sums.ImageSums.p_holds.Goals as goal

pub returns-in-Nobody-clause-holds : goal.returns-in-Nobody-clause-holds
returns-in-Nobody-clause-holds c = λ room cells slots are but. told_nobody room cells slots c.args.self.now.images c.args.place _ c.args.out (are.each c.args.place _ (omega arith)) but c.in-Nobody.is

pub returns-in-One-clause-holds : goal.returns-in-One-clause-holds
returns-in-One-clause-holds c = λ room cells slots are but.
    told_if_there room cells slots c.args.self.now.images c.args.place c.in-One.image _ c.args.out c.flag_at.result (are.each c.args.place _ (omega arith)) but c.in-One.is c.flag_at.ensures
