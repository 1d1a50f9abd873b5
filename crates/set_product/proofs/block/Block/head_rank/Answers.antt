use Rattle.std.proofs.Common.{◌≡◌, ◌*◌, ℕ, ◌==◌, Bool, length, sym, ap, ap₂, ◌∙◌, arith}
use Rattle.std.specs.List.{position}
use Rattle.std.proofs.lemmas.Bool.{eq-eqb, ne_eqb, and_left, and_right, and_from}
use Rattle.raid_params.specs.declared.types.Syndrome.{Syndrome}
use Rattle.search_plan.specs.Places.{level_place, syndrome_place}
use Rattle.set_product.specs.Blocks.{is_rotation_of}
use Rattle.set_product.specs.Pairs.{joined}
use Rattle.set_product.proofs.BlockRanks.{head_place, other_head}
use Rattle.set_product.proofs.block.Block.head_rank.Goals as goal
use Rattle.set_product.proofs.block.Block.head_rank.Goals.{then-place-via-then-place, then-place-via-else-place+then-head-self}

pub returns-then-place : goal.returns-then-place
returns-then-place c =
    let head = c.args.head.now in
    let block = c.args.self.now in
    let given = c.place.ensures in
    let own = c.place-2.ensures in
    elim c.then-place.branch [
      | then-place-via-then-place w ↦
          sym (other_head c.args.plan.now block head c.requires.plan c.requires.block
          (and_left (level_place head.level == level_place block.level) (head.members == block.members) (ne_eqb (level_place head.level) (level_place block.level) (λ e. w.if-place.true (given ∙ e ∙ sym own)))))
      | then-place-via-else-place+then-head-self w ↦
          sym (other_head c.args.plan.now block head c.requires.plan c.requires.block
          (and_right (level_place head.level == level_place block.level) (head.members == block.members) (ne_eqb head.members block.members w.if-head-self.true)))
    ]

pub returns : goal.returns
returns c =
    let head = c.args.head.now in
    let block = c.args.self.now in
    let plan = c.args.plan.now in
    let same = and_from (level_place head.level == level_place block.level) (head.members == block.members)
    (eq-eqb (level_place head.level) (level_place block.level) (sym c.place.ensures ∙ c.if-place.false ∙ c.place-2.ensures)) (eq-eqb head.members block.members c.if-head-self.false) in
    let place = head_place plan block head c.requires.plan c.requires.block same in
    let u : Syndrome → Bool = λ s. syndrome_place head.syndrome == syndrome_place s in
    let start = c.join_rank-start.ensures
    ∙ ap (λ (n : ℕ). joined n c.rotation_among-rotation.result c.place_among-syndrome.result) c.len.ensures.value
    ∙ ap₂ (joined (length block.syndromes.items)) (c.rotation_among-rotation.ensures ∙ ap (position (is_rotation_of head)) c.deref.ensures.0) (c.place_among-syndrome.ensures ∙ ap (position u) c.deref-2.ensures.0) in
    let end = c.join_rank-end.ensures
    ∙ ap (λ (n : ℕ). joined n c.place_among-chunk.result c.place_among-offset.result) c.len-2.ensures.value
    ∙ ap₂ (joined (length plan.bounds.offsets.items)) (c.place_among-chunk.ensures ∙ ap (position (λ (n : ℕ). head.chunk == n)) c.deref-3.ensures.0) (c.place_among-offset.ensures ∙ ap (position (λ (n : ℕ). head.offset == n)) c.deref-4.ensures.0) in
    let ends : c.count_ends.result ≡ length plan.bounds.chunks.items * length plan.bounds.offsets.items = let is = c.count_ends.ensures.count in let few = c.count_ends.ensures.few in omega arith in
    c.join_rank.ensures
    ∙ ap (λ (n : ℕ). joined n c.join_rank-start.result c.join_rank-end.result) ends
    ∙ ap₂ (joined (length plan.bounds.chunks.items * length plan.bounds.offsets.items)) start end
    ∙ sym place
