use Rattle.relation_prefix.proofs.pins.pin.Goals as goal

pub returns-clause-pinned : goal.returns-clause-pinned
returns-clause-pinned c e x hx =
    let a = c.add.ensures.added e x hx in
    (λ h. (let b = a.0 h in (b.0, λ some. b.1)), λ b. a.1 (b.0, b.1 c.if-ties-image.false))
