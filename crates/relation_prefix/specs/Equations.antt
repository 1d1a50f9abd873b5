-- The parity equations of a row, by the weights of its blocks.
use Rattle.std.specs.Prelude.{ℕ, bit_xor}
use Rattle.gf256.specs.Field.{power_of, product}
use Rattle.raid_params.specs.declared.types.Head.{Head}
use Rattle.raid_params.specs.declared.types.Part.{Part}
use Rattle.raid_params.specs.declared.types.Part.TheVariants.{Block, P, Q}
use Rattle.raid_terms.specs.Cells.{part_of}
use Rattle.relation_prefix.specs.declared.equation.Equation.{Equation}
use Rattle.relation_prefix.specs.declared.equation.Equation.TheVariants.{OfP, OfQ, QByP}

-- the weight of a block in P's equation
abbrev pub weight_in_p : Part → ℕ
weight_in_p (Block k) = 1
weight_in_p P = 1
weight_in_p Q = 0

-- the weight of a block in Q's equation
abbrev pub weight_in_q : Part → ℕ
weight_in_q (Block k) = power_of k
weight_in_q P = 0
weight_in_q Q = 1

-- the weight of a block in an equation: in P's, in Q's, or in the sum of Q's and P's times 2 to this power, in which the data block
-- of this exponent has no weight
abbrev pub weight_in : Equation → Part → ℕ
weight_in OfP part = weight_in_p part
weight_in OfQ part = weight_in_q part
weight_in (QByP k) part = bit_xor (weight_in_q part) (product (power_of k) (weight_in_p part))

-- the equation of level 6 that is left where one block alone is lost: that in which it has no weight
abbrev pub left_without : Part → Equation
left_without (Block k) = QByP k
left_without P = OfQ
left_without Q = OfP

-- the weight of a slot in an equation of a row of chunks
abbrev pub slot_weight : Head → ℕ → Equation → ℕ → ℕ
slot_weight head row equation slot = weight_in equation (part_of head row slot)
