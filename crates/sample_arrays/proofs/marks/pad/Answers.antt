use Rattle.std.proofs.Common.{◌≡◌, ℕ, ◌-◌, ◌≤◌, List, ◌++◌, length, replicate, ap, ◌∙◌, arith}
use Rattle.std.proofs.lemmas.List.{take-replicate}
use Rattle.sample_arrays.proofs.marks.pad.Goals as goal

pub returns-clause-items : goal.returns-clause-items
returns-clause-items c =
    let long = c.len.ensures.value in
    let room = c.requires.room in
    let few : c.args.bytes - c.len.result ≤ 512 = omega arith in
    let same : c.args.bytes - c.len.result ≡ c.args.bytes - length c.args.sector.now.items = omega arith in
    c.append.ensures.items
    ∙ ap (λ (xs : List ℕ). c.args.sector.now.items ++ xs)
    (take-replicate (c.args.bytes - c.len.result) 512 0 few ∙ ap (λ (n : ℕ). replicate n 0) same)
