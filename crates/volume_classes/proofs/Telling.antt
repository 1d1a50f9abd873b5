-- Sets are alike exactly where their coefficients are equal.
use Rattle.volume_classes.specs.Laws.{CoefficientsTell}
use Rattle.volume_classes.proofs.AlikeGive.{alike_give}
use Rattle.volume_classes.proofs.EqualGive.{equal_give}

pub tell : CoefficientsTell
tell one other images end one_ruled other_ruled =
    (λ alike. alike_give one other images end one_ruled other_ruled alike, λ equal. equal_give one other images end one_ruled other_ruled equal)
