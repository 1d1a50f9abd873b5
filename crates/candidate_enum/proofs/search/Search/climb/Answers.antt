use Rattle.std.proofs.Common.{ℕ, ◌++◌, ◌∷◌, [], List, Option, ap, sym, ◌∙◌}
use Rattle.raid_params.specs.declared.limits.TheConstants.{MOST}
use Rattle.candidate_enum.specs.Survivors.{question}
use Rattle.candidate_enum.proofs.Keeping.{more_images}
use Rattle.candidate_enum.proofs.Moves.{popped}
use Rattle.candidate_enum.proofs.Stacks.{begins_less, climbed}
use Rattle.candidate_enum.proofs.Turns.{goes_on}
use Rattle.candidate_enum.proofs.search.Search.climb.Goals as goal

pub pop-requires-clause-images : goal.pop-requires-clause-images
pop-requires-clause-images g c = more_images c.args.self.now.space.images MOST c.loop-last.walk.slots.items c.requires.search.images c.loop-last.invariant.done.start.0

pub next_after-requires-clause-place : goal.next_after-requires-clause-place
next_after-requires-clause-place g c =
    let q = question c.args.self.now.space (g.F.Family.admits c.args.self.now.family.now) c.args.self.now.from c.args.self.now.stop in
    let old = c.loop-last.walk.slots.items in
    let new = c.pop.new.self in
    let h = popped q old new.slots.items c.loop-last.walk.rank new.rank c.in-Some.last c.loop-last.invariant.done c.in-Some.ensures.slots c.pop.ensures.rank in
    h.place

pub next_after-requires-clause-parent : goal.next_after-requires-clause-parent
next_after-requires-clause-parent g c =
    let q = question c.args.self.now.space (g.F.Family.admits c.args.self.now.family.now) c.args.self.now.from c.args.self.now.stop in
    let old = c.loop-last.walk.slots.items in
    let new = c.pop.new.self in
    let h = popped q old new.slots.items c.loop-last.walk.rank new.rank c.in-Some.last c.loop-last.invariant.done c.in-Some.ensures.slots c.pop.ensures.rank in
    h.parent

pub returns-then-next_after-clause-left : goal.returns-then-next_after-clause-left
returns-then-next_after-clause-left g c =
    let q = question c.args.self.now.space (g.F.Family.admits c.args.self.now.family.now) c.args.self.now.from c.args.self.now.stop in
    let old = c.loop-last.walk.slots.items in
    let new = c.pop.new.self in
    let h = popped q old new.slots.items c.loop-last.walk.rank new.rank c.in-Some.last c.loop-last.invariant.done c.in-Some.ensures.slots c.pop.ensures.rank in
    let f = c.next_after.ensures.found c.if-next_after.true in
    c.loop-last.invariant.same ∙ h.same ∙ f.same ∙ sym (goes_on q c.next_after.new.walk (c.next_after.ensures.going ∙ c.pop.ensures.going ∙ c.loop-last.invariant.going))

pub loop-last-preserved : goal.loop-last-preserved
loop-last-preserved g c =
    let q = question c.args.self.now.space (g.F.Family.admits c.args.self.now.family.now) c.args.self.now.from c.args.self.now.stop in
    let old = c.loop-last.walk.slots.items in
    let new = c.pop.new.self in
    let h = popped q old new.slots.items c.loop-last.walk.rank new.rank c.in-Some.last c.loop-last.invariant.done c.in-Some.ensures.slots c.pop.ensures.rank in
    let f = c.next_after.ensures.passed c.if-next_after.false in
    record {
      same = c.loop-last.invariant.same ∙ h.same ∙ f.same;
      done = f.done;
      kept = c.next_after.ensures.kept;
      going = c.next_after.ensures.going ∙ c.pop.ensures.going ∙ c.loop-last.invariant.going;
      begins = begins_less c.next_after.new.walk.slots.items c.args.walk.now.slots.items old c.in-Some.last c.loop-last.invariant.begins
          (c.in-Some.ensures.slots ∙ ap (λ (t : List (Option ℕ)). t ++ c.in-Some.last ∷ []) (sym (c.next_after.ensures.same c.if-next_after.false)));
    }

pub returns-then-next_after-clause-shares : goal.returns-then-next_after-clause-shares
returns-then-next_after-clause-shares g c =
    climbed c.pop.new.self.slots.items c.args.walk.now.slots.items c.loop-last.walk.slots.items c.next_after.new.walk.slots.items c.in-Some.last
    c.loop-last.invariant.begins c.in-Some.ensures.slots (c.next_after.ensures.longer c.if-next_after.true)
