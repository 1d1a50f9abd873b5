use Rattle.std.proofs.Common.{◌+◌, ◌*◌, ◌∙◌, length, arith}
use Rattle.row_parity.proofs.Apart.{are_placed}
use Rattle.row_parity.proofs.StripSums.{strip_p, strip_q}
use Rattle.row_parity.proofs.syndromes.strip_sums.Goals as goal

pub both_sums-requires-clause-known : goal.both_sums-requires-clause-known
both_sums-requires-clause-known c = are_placed c.args.cells.now (length c.args.cells.now) c.args.known.now c.requires.known

pub returns-clause-p : goal.returns-clause-p
returns-clause-p c = λ lane below.
    c.both_sums.ensures.p lane below
    ∙ strip_p c.args.cells.now c.args.known.now c.args.sectors.now c.args.stride c.args.j _ lane (64 * c.args.strip + lane) (omega arith) c.requires.cells c.requires.q c.requires.known c.type_inv.sectors

pub returns-clause-q : goal.returns-clause-q
returns-clause-q c = λ lane below.
    c.both_sums.ensures.q lane below
    ∙ strip_q c.args.cells.now c.args.known.now c.args.sectors.now c.args.stride c.args.j _ lane (64 * c.args.strip + lane) (omega arith) c.requires.cells c.requires.q c.requires.known c.type_inv.sectors
