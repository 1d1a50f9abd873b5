-- What both equations of a row ask of the weights of its ties together, and what that leaves to the lost slot.
use Rattle.std.specs.Prelude.{ℕ, ◌≡◌, ◌<◌, ◌≤◌, bit_xor, List, count_by, length, slice_index, slice_index_or}
use Rattle.std.specs.declared.option.Option.{Option}
use Rattle.std.specs.declared.option.Option.TheVariants.{None, Some}
use Rattle.gf256.specs.Field.{product}
use Rattle.raid_params.specs.declared.types.Part.{Part}
use Rattle.row_relations.specs.Rows.{AreBytes}
use Rattle.relation_prefix.specs.declared.condition.TheConstants.{MOST_TIES}
use Rattle.relation_prefix.specs.declared.joint.JointCondition.{JointCondition}
use Rattle.relation_prefix.specs.declared.lost_weights.LostWeights.{LostWeights}
use Rattle.relation_prefix.specs.declared.refusals.Refusals.{Refusals}
use Rattle.relation_prefix.specs.declared.row_ties.RowTies.{RowTies}
use Rattle.relation_prefix.specs.declared.sampled.PrefixTest.{PrefixTest}
use Rattle.relation_prefix.specs.declared.sampled.SampledRow.{SampledRow}
use Rattle.relation_prefix.specs.declared.weights.RowWeights.{RowWeights}
use Rattle.relation_prefix.specs.Equations.{weight_in_p, weight_in_q}
use Rattle.relation_prefix.specs.Sampled.{refuses}
use Rattle.relation_prefix.specs.Systems.{sum_at}
use Rattle.relation_prefix.specs.Ties.{HasWeight}

-- the weight of a slot in the sum of Q's equation, times a, and P's, times b
abbrev pub weight_in_sum : RowWeights → ℕ → ℕ → ℕ → ℕ
weight_in_sum weights a b slot = bit_xor (product a (slice_index weights.q slot)) (product b (slice_index weights.p slot))

-- with these values of the ties each image in a slot has the weight of its slot in such a sum
abbrev pub HaveSums : RowTies → RowWeights → List (Option ℕ) → (ℕ → ℕ) → ℕ → ℕ → Type 0
HaveSums ties weights slots x a b = (slot image : ℕ) → slot < length slots → slice_index_or slots slot None ≡ Some image → HasWeight ties x image (weight_in_sum weights a b slot)

-- the values meet a condition with two values, summed so
abbrev pub MeetsSum : (ℕ → ℕ) → ℕ → ℕ → JointCondition → Type 0
MeetsSum x a b joint = sum_at joint.coefficients x ≡ bit_xor (product a joint.q) (product b joint.p)

-- they meet each of some
abbrev pub MeetSums : (ℕ → ℕ) → ℕ → ℕ → List (Option JointCondition) → Type 0
MeetSums x a b known = (t : ℕ) (joint : JointCondition) → slice_index_or known t None ≡ Some joint → MeetsSum x a b joint

-- a condition is the sum of two others, each times a factor
pub record IsJointSum (f : ℕ) (one : JointCondition) (g : ℕ) (other sum : JointCondition) : Type 0 where
  pub coefficients : (t : ℕ) → slice_index sum.coefficients t ≡ bit_xor (product f (slice_index one.coefficients t)) (product g (slice_index other.coefficients t))
  pub p : sum.p ≡ bit_xor (product f one.p) (product g other.p)
  pub q : sum.q ≡ bit_xor (product f one.q) (product g other.q)

-- a condition asks of the first `count` ties alone
pub record AsksOf (count : ℕ) (joint : JointCondition) : Type 0 where
  pub bytes : AreBytes joint.coefficients
  pub past : (t : ℕ) → count ≤ t → slice_index joint.coefficients t ≡ 0

-- so does each of some, of which that at place t asks of no tie before t
pub record AreSteps (count : ℕ) (known : List (Option JointCondition)) : Type 0 where
  pub long : length known ≡ MOST_TIES
  pub each : (t : ℕ) (joint : JointCondition) → slice_index_or known t None ≡ Some joint → AsksOf count joint
  pub before : (t : ℕ) (joint : JointCondition) → slice_index_or known t None ≡ Some joint → (u : ℕ) → u < t → slice_index joint.coefficients u ≡ 0

-- a row tells the weights of the lost slot where the slots of a set begin so: with none lost it refuses them, and with one that has other weights
pub record TellsLost (ties : RowTies) (weights : RowWeights) (slots : List (Option ℕ)) (lost : LostWeights) : Type 0 where
  pub whole : (x y : ℕ → ℕ) → HaveSums ties weights slots x 0 1 → HaveSums ties weights slots y 1 0 → ⊥
  pub one : (x : ℕ → ℕ) (part : Part) → HaveSums ties weights slots x (weight_in_p part) (weight_in_q part) → (weight_in_p part ≡ lost.p) × (weight_in_q part ≡ lost.q)

-- with no slot lost, and with each one alone, at least so many rows refuse that the slots of a set begin so
pub record AreRefusals (rows : List SampledRow) (test : PrefixTest) (slots : List (Option ℕ)) (refusals : Refusals) : Type 0 where
  pub whole : refusals.whole ≤ count_by (refuses test slots None) rows
  pub lost : (slot : ℕ) → slot < test.head.members → slice_index refusals.lost slot ≤ count_by (refuses test slots (Some slot)) rows
