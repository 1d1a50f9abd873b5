use Rattle.std.proofs.Common.{rules, ℕ, Option, Result, Ok, ◌≡◌, ◌⊎◌, ◌+◌, ◌-◌, ◌++◌, ◌∷◌, [], List, length, length-append, refl, sym, ap, ◌∙◌, subst, arith}
use Rattle.outside.specs.Attached.{told_all}
use Rattle.outside.specs.Seen.{Image}
use Rattle.slot_math.specs.declared.space.Space.{Space}
use Rattle.candidate_enum.specs.Survivors.{question, survivors}
use Rattle.head_walk.specs.Walk.{AreWaiting, CanPage, is_admitted, ranked_sets, Wait}
use Rattle.head_walk.proofs.Candidates.{is_many, is_short, pushed_below, scan_by, waits_more, waits_on}
use Rattle.head_walk.proofs.OneHead.{fills_on, gathers_all, gathers_full, reads_err, reads_none, reads_some, reads_stop, scans_ended, scans_full}
use Rattle.head_walk.proofs.Leafwise.{begins, ended, failed, gathered, next_leaf, waits}
use Rattle.head_walk.specs.declared.parts.WalkFault.{WalkFault}
use Rattle.head_walk.proofs.gathering.gather_admitted.Goals as goal

pub loop-leaf-init : goal.loop-leaf-init
loop-leaf-init g c = record {
  goes = (tt, tt);
  quiet = refl;
  stands = begins (told_all (g.I.Images.seen c.args.images.now).attached) c.args.paging.now.plan.now c.args.sets.now (is_admitted c.args.family.now) c.args.from c.args.stop c.args.paging.now.size (g.I.Images.seen c.args.images.now) c.args.page.now c.start-walk.result.leaves
      c.requires.part
      (c.start-walk.ensures.leaves ∙ ap (λ (space : Space). survivors (question space (is_admitted c.args.family.now) (c.args.from - c.args.sets.now.first) (c.args.stop - c.args.sets.now.first))) c.requires.space)
      c.requires.stands;
}

pub overflow_add-rank : goal.overflow_add-rank
overflow_add-rank g c =
    let next = next_leaf (told_all (g.I.Images.seen c.args.images.now).attached) c.args.paging.now.plan.now c.args.sets.now (is_admitted c.args.family.now) c.args.from c.args.stop c.args.paging.now.size (g.I.Images.seen c.args.images.now) (g.I.Images.seen c.loop-leaf.images) c.args.page.now c.loop-leaf.page c.loop-leaf.walk.leaves c.next.new.self.leaves c.in-Some.leaf
    c.requires.head c.requires.part c.requires.admits c.loop-leaf.invariant.stands c.in-Some.ensures.steps in
    let below = next.high in
    let ends = c.requires.part.ends in
    let within = c.requires.head.within in
    let few = c.requires.can.few in
    omega arith

pub push-requires-clause-are : goal.push-requires-clause-are
push-requires-clause-are g c =
    let next = next_leaf (told_all (g.I.Images.seen c.args.images.now).attached) c.args.paging.now.plan.now c.args.sets.now (is_admitted c.args.family.now) c.args.from c.args.stop c.args.paging.now.size (g.I.Images.seen c.args.images.now) (g.I.Images.seen c.loop-leaf.images) c.args.page.now c.loop-leaf.page c.loop-leaf.walk.leaves c.next.new.self.leaves c.in-Some.leaf
    c.requires.head c.requires.part c.requires.admits c.loop-leaf.invariant.stands c.in-Some.ensures.steps in
    next.goes.stands.are

pub push-requires-clause-room : goal.push-requires-clause-room
push-requires-clause-room g c =
    let next = next_leaf (told_all (g.I.Images.seen c.args.images.now).attached) c.args.paging.now.plan.now c.args.sets.now (is_admitted c.args.family.now) c.args.from c.args.stop c.args.paging.now.size (g.I.Images.seen c.args.images.now) (g.I.Images.seen c.loop-leaf.images) c.args.page.now c.loop-leaf.page c.loop-leaf.walk.leaves c.next.new.self.leaves c.in-Some.leaf
    c.requires.head c.requires.part c.requires.admits c.loop-leaf.invariant.stands c.in-Some.ensures.steps in
    next.goes.stands.room

pub overflow_add-rank-in-Some : goal.overflow_add-rank-in-Some
overflow_add-rank-in-Some g c =
    let next = next_leaf (told_all (g.I.Images.seen c.args.images.now).attached) c.args.paging.now.plan.now c.args.sets.now (is_admitted c.args.family.now) c.args.from c.args.stop c.args.paging.now.size (g.I.Images.seen c.args.images.now) (g.I.Images.seen c.loop-leaf.images) c.args.page.now c.loop-leaf.page c.loop-leaf.walk.leaves c.next.new.self.leaves c.in-Some.leaf
    c.requires.head c.requires.part c.requires.admits c.loop-leaf.invariant.stands c.in-Some.ensures.steps in
    let below = next.high in
    let ends = c.requires.part.ends in
    let within = c.requires.head.within in
    let few = c.requires.can.few in
    omega arith

pub returns-in_err-push-clause-reads : goal.returns-in_err-push-clause-reads
returns-in_err-push-clause-reads g c =
    reads_stop (told_all (g.I.Images.seen c.args.images.now).attached) c.args.paging.now.plan.now c.args.page.now.tested c.args.stop 0 0 c.loop-leaf.page c.from_residual.result (g.I.Images.seen c.args.images.now) (g.I.Images.seen c.loop-leaf.images) c.from_residual.ensures.0
    (failed (told_all (g.I.Images.seen c.args.images.now).attached) c.args.paging.now.plan.now c.args.sets.now (is_admitted c.args.family.now) c.args.from c.args.stop c.args.paging.now.size (g.I.Images.seen c.args.images.now) (g.I.Images.seen c.loop-leaf.images) c.args.page.now c.loop-leaf.page c.loop-leaf.walk.leaves c.loop-leaf.invariant.stands)

pub loop-leaf-preserved-then-not-is_ready : goal.loop-leaf-preserved-then-not-is_ready
loop-leaf-preserved-then-not-is_ready g c =
    let next = next_leaf (told_all (g.I.Images.seen c.args.images.now).attached) c.args.paging.now.plan.now c.args.sets.now (is_admitted c.args.family.now) c.args.from c.args.stop c.args.paging.now.size (g.I.Images.seen c.args.images.now) (g.I.Images.seen c.loop-leaf.images) c.args.page.now c.loop-leaf.page c.loop-leaf.walk.leaves c.next.new.self.leaves c.in-Some.leaf
    c.requires.head c.requires.part c.requires.admits c.loop-leaf.invariant.stands c.in-Some.ensures.steps in
    let are : AreWaiting c.args.paging.now.plan.now c.push.new.self = search rules in
    let ranks : c.push.new.self.ranks ≡ c.loop-leaf.page.waiting.ranks ++ (c.args.sets.now.first + c.in-Some.leaf.rank) ∷ [] = search rules in
    let sets : c.push.new.self.sets ≡ c.loop-leaf.page.waiting.sets ++ (record { head = c.args.sets.now.head; slots = c.in-Some.leaf.slots }) ∷ [] = search rules in
    let short = is_short (length c.push.new.self.sets) (length c.loop-leaf.page.lines + c.push.new.self.known) c.args.paging.now.size (sym c.is_ready.ensures ∙ c.if-not-is_ready.true) in
    record {
      goes = (tt, tt);
      quiet = search rules;
      stands = waits (told_all (g.I.Images.seen c.args.images.now).attached) c.args.paging.now.plan.now c.args.sets.now (is_admitted c.args.family.now) c.args.from c.args.stop c.args.paging.now.size (g.I.Images.seen c.args.images.now) (g.I.Images.seen c.loop-leaf.images) c.args.page.now c.loop-leaf.page (record { lines = c.loop-leaf.page.lines; tested = c.loop-leaf.page.tested; waiting = c.push.new.self }) c.in-Some.leaf c.next.new.self.leaves next c.loop-leaf.invariant.stands.scans
          (waits_on (told_all (g.I.Images.seen c.args.images.now).attached) c.args.paging.now.plan.now c.args.paging.now.size (record { rank = c.args.sets.now.first + c.in-Some.leaf.rank; geo = record { head = c.args.sets.now.head; slots = c.in-Some.leaf.slots } }) c.loop-leaf.page (record { lines = c.loop-leaf.page.lines; tested = c.loop-leaf.page.tested; waiting = c.push.new.self }) next.goes.stands next.is are refl refl ranks sets short.1 short.0);
    }

pub returns-in_err-next-clause-reads : goal.returns-in_err-next-clause-reads
returns-in_err-next-clause-reads g c =
    let next = next_leaf (told_all (g.I.Images.seen c.args.images.now).attached) c.args.paging.now.plan.now c.args.sets.now (is_admitted c.args.family.now) c.args.from c.args.stop c.args.paging.now.size (g.I.Images.seen c.args.images.now) (g.I.Images.seen c.loop-leaf.images) c.args.page.now c.loop-leaf.page c.loop-leaf.walk.leaves c.next.new.self.leaves c.in-Some.leaf
    c.requires.head c.requires.part c.requires.admits c.loop-leaf.invariant.stands c.in-Some.ensures.steps in
    let are : AreWaiting c.args.paging.now.plan.now c.push.new.self = search rules in
    let ranks : c.push.new.self.ranks ≡ c.loop-leaf.page.waiting.ranks ++ (c.args.sets.now.first + c.in-Some.leaf.rank) ∷ [] = search rules in
    let sets : c.push.new.self.sets ≡ c.loop-leaf.page.waiting.sets ++ (record { head = c.args.sets.now.head; slots = c.in-Some.leaf.slots }) ∷ [] = search rules in
    let known : (c.push.new.self.known ≡ c.loop-leaf.page.waiting.known) ⊎ (c.push.new.self.known ≡ length c.push.new.self.sets) = search rules in
    let count = ap length sets in
    let more = length-append c.loop-leaf.page.waiting.sets ((record { head = c.args.sets.now.head; slots = c.in-Some.leaf.slots }) ∷ []) in
    let room = next.goes.stands.room in
    let few = next.goes.stands.few in
    let scan = scan_by (told_all (g.I.Images.seen c.args.images.now).attached) c.args.paging.now.plan.now c.loop-leaf.page.tested ((c.args.sets.now.first + c.in-Some.leaf.rank) + 1) c.args.paging.now.size (length c.loop-leaf.page.lines) c.push.new.self c.scan_waiting.new.page c.scan_waiting.result (g.I.Images.seen c.loop-leaf.images) (g.I.Images.seen c.scan_waiting.new.images) are
    (waits_more (told_all (g.I.Images.seen c.args.images.now).attached) c.args.paging.now.plan.now c.args.paging.now.size (record { rank = c.args.sets.now.first + c.in-Some.leaf.rank; geo = record { head = c.args.sets.now.head; slots = c.in-Some.leaf.slots } }) c.loop-leaf.page c.push.new.self next.goes.stands next.is ranks sets)
    (is_many (length c.push.new.self.sets) (length c.loop-leaf.page.lines + c.push.new.self.known) c.args.paging.now.size (sym c.is_ready.ensures ∙ c.if-not-is_ready.false))
    (omega arith)
    (pushed_below (length c.loop-leaf.page.lines) c.loop-leaf.page.waiting.known c.push.new.self.known (length c.push.new.self.sets) c.args.paging.now.size few known)
    c.scan_waiting.ensures.tested c.scan_waiting.ensures.fills c.scan_waiting.ensures.past c.scan_waiting.ensures.reads c.scan_waiting.ensures.unread in
    let high = next.high in
    reads_stop (told_all (g.I.Images.seen c.args.images.now).attached) c.args.paging.now.plan.now c.args.page.now.tested c.args.stop 0 0 c.scan_waiting.new.page c.from_residual-in_err-next.result (g.I.Images.seen c.args.images.now) (g.I.Images.seen c.scan_waiting.new.images) c.from_residual-in_err-next.ensures.0
    (scans_ended (told_all (g.I.Images.seen c.args.images.now).attached) c.args.paging.now.plan.now c.args.paging.now.size (c.args.sets.now.first + c.in-Some.leaf.rank) ((c.args.sets.now.first + c.in-Some.leaf.rank) + 1) c.args.stop 0 0 0 (g.I.Images.seen c.args.images.now) (g.I.Images.seen c.loop-leaf.images) (g.I.Images.seen c.scan_waiting.new.images) c.args.page.now c.loop-leaf.page next.goes (omega arith) (omega arith) c.loop-leaf.invariant.stands.scans
    (reads_err (told_all (g.I.Images.seen c.args.images.now).attached) c.args.paging.now.plan.now c.loop-leaf.page.tested ((c.args.sets.now.first + c.in-Some.leaf.rank) + 1) 0 0 c.scan_waiting.new.page c.scan_waiting.result (g.I.Images.seen c.loop-leaf.images) (g.I.Images.seen c.scan_waiting.new.images) (search rules) scan))

pub returns-in-Some-2-clause-gathers : goal.returns-in-Some-2-clause-gathers
returns-in-Some-2-clause-gathers g c =
    let next = next_leaf (told_all (g.I.Images.seen c.args.images.now).attached) c.args.paging.now.plan.now c.args.sets.now (is_admitted c.args.family.now) c.args.from c.args.stop c.args.paging.now.size (g.I.Images.seen c.args.images.now) (g.I.Images.seen c.loop-leaf.images) c.args.page.now c.loop-leaf.page c.loop-leaf.walk.leaves c.next.new.self.leaves c.in-Some.leaf
    c.requires.head c.requires.part c.requires.admits c.loop-leaf.invariant.stands c.in-Some.ensures.steps in
    let high = next.high in
    fills_on (told_all (g.I.Images.seen c.args.images.now).attached) c.args.paging.now.plan.now c.args.paging.now.size (c.args.sets.now.first + c.in-Some.leaf.rank) ((c.args.sets.now.first + c.in-Some.leaf.rank) + 1) c.args.stop c.in-Some-2.next c.args.page.now c.loop-leaf.page c.scan_waiting.new.page next.goes (omega arith)
    (gathers_full _ _ c.args.paging.now.plan.now c.args.paging.now.size ((c.args.sets.now.first + c.in-Some.leaf.rank) + 1) c.in-Some-2.next (record { lines = c.loop-leaf.page.lines; tested = c.loop-leaf.page.tested; waiting = c.push.new.self }) c.scan_waiting.new.page c.in_ok-next.field-0 c.loop-leaf.invariant.stands.scans.spends.reads.attached c.in-Some-2.is c.in_ok-next.ensures.gathers)

pub returns-in-Some-2-clause-reads : goal.returns-in-Some-2-clause-reads
returns-in-Some-2-clause-reads g c =
    let next = next_leaf (told_all (g.I.Images.seen c.args.images.now).attached) c.args.paging.now.plan.now c.args.sets.now (is_admitted c.args.family.now) c.args.from c.args.stop c.args.paging.now.size (g.I.Images.seen c.args.images.now) (g.I.Images.seen c.loop-leaf.images) c.args.page.now c.loop-leaf.page c.loop-leaf.walk.leaves c.next.new.self.leaves c.in-Some.leaf
    c.requires.head c.requires.part c.requires.admits c.loop-leaf.invariant.stands c.in-Some.ensures.steps in
    let are : AreWaiting c.args.paging.now.plan.now c.push.new.self = search rules in
    let ranks : c.push.new.self.ranks ≡ c.loop-leaf.page.waiting.ranks ++ (c.args.sets.now.first + c.in-Some.leaf.rank) ∷ [] = search rules in
    let sets : c.push.new.self.sets ≡ c.loop-leaf.page.waiting.sets ++ (record { head = c.args.sets.now.head; slots = c.in-Some.leaf.slots }) ∷ [] = search rules in
    let known : (c.push.new.self.known ≡ c.loop-leaf.page.waiting.known) ⊎ (c.push.new.self.known ≡ length c.push.new.self.sets) = search rules in
    let count = ap length sets in
    let more = length-append c.loop-leaf.page.waiting.sets ((record { head = c.args.sets.now.head; slots = c.in-Some.leaf.slots }) ∷ []) in
    let room = next.goes.stands.room in
    let few = next.goes.stands.few in
    let scan = scan_by (told_all (g.I.Images.seen c.args.images.now).attached) c.args.paging.now.plan.now c.loop-leaf.page.tested ((c.args.sets.now.first + c.in-Some.leaf.rank) + 1) c.args.paging.now.size (length c.loop-leaf.page.lines) c.push.new.self c.scan_waiting.new.page c.scan_waiting.result (g.I.Images.seen c.loop-leaf.images) (g.I.Images.seen c.scan_waiting.new.images) are
    (waits_more (told_all (g.I.Images.seen c.args.images.now).attached) c.args.paging.now.plan.now c.args.paging.now.size (record { rank = c.args.sets.now.first + c.in-Some.leaf.rank; geo = record { head = c.args.sets.now.head; slots = c.in-Some.leaf.slots } }) c.loop-leaf.page c.push.new.self next.goes.stands next.is ranks sets)
    (is_many (length c.push.new.self.sets) (length c.loop-leaf.page.lines + c.push.new.self.known) c.args.paging.now.size (sym c.is_ready.ensures ∙ c.if-not-is_ready.false))
    (omega arith)
    (pushed_below (length c.loop-leaf.page.lines) c.loop-leaf.page.waiting.known c.push.new.self.known (length c.push.new.self.sets) c.args.paging.now.size few known)
    c.scan_waiting.ensures.tested c.scan_waiting.ensures.fills c.scan_waiting.ensures.past c.scan_waiting.ensures.reads c.scan_waiting.ensures.unread in
    let ok : c.scan_waiting.result ≡ Ok c.in_ok-next.field-0 = search rules in
    scans_full (told_all (g.I.Images.seen c.args.images.now).attached) c.args.paging.now.plan.now c.args.paging.now.size (c.args.sets.now.first + c.in-Some.leaf.rank) ((c.args.sets.now.first + c.in-Some.leaf.rank) + 1) c.in-Some-2.next 0 0 0 (g.I.Images.seen c.args.images.now) (g.I.Images.seen c.loop-leaf.images) (g.I.Images.seen c.scan_waiting.new.images) c.args.page.now c.loop-leaf.page c.scan_waiting.new.page next.goes
    (gathers_full _ _ c.args.paging.now.plan.now c.args.paging.now.size ((c.args.sets.now.first + c.in-Some.leaf.rank) + 1) c.in-Some-2.next (record { lines = c.loop-leaf.page.lines; tested = c.loop-leaf.page.tested; waiting = c.push.new.self }) c.scan_waiting.new.page c.in_ok-next.field-0 c.loop-leaf.invariant.stands.scans.spends.reads.attached c.in-Some-2.is c.in_ok-next.ensures.gathers)
    c.loop-leaf.invariant.stands.scans
    (reads_some (told_all (g.I.Images.seen c.args.images.now).attached) c.args.paging.now.plan.now c.loop-leaf.page.tested ((c.args.sets.now.first + c.in-Some.leaf.rank) + 1) c.in-Some-2.next 0 0 c.scan_waiting.new.page c.scan_waiting.result (g.I.Images.seen c.loop-leaf.images) (g.I.Images.seen c.scan_waiting.new.images) (ok ∙ ap (λ (o : Option ℕ). let r : Result (Option ℕ) WalkFault = Ok o in r) c.in-Some-2.is) scan)

pub loop-leaf-preserved : goal.loop-leaf-preserved
loop-leaf-preserved g c =
    let next = next_leaf (told_all (g.I.Images.seen c.args.images.now).attached) c.args.paging.now.plan.now c.args.sets.now (is_admitted c.args.family.now) c.args.from c.args.stop c.args.paging.now.size (g.I.Images.seen c.args.images.now) (g.I.Images.seen c.loop-leaf.images) c.args.page.now c.loop-leaf.page c.loop-leaf.walk.leaves c.next.new.self.leaves c.in-Some.leaf
    c.requires.head c.requires.part c.requires.admits c.loop-leaf.invariant.stands c.in-Some.ensures.steps in
    let are : AreWaiting c.args.paging.now.plan.now c.push.new.self = search rules in
    let ranks : c.push.new.self.ranks ≡ c.loop-leaf.page.waiting.ranks ++ (c.args.sets.now.first + c.in-Some.leaf.rank) ∷ [] = search rules in
    let sets : c.push.new.self.sets ≡ c.loop-leaf.page.waiting.sets ++ (record { head = c.args.sets.now.head; slots = c.in-Some.leaf.slots }) ∷ [] = search rules in
    let known : (c.push.new.self.known ≡ c.loop-leaf.page.waiting.known) ⊎ (c.push.new.self.known ≡ length c.push.new.self.sets) = search rules in
    let count = ap length sets in
    let more = length-append c.loop-leaf.page.waiting.sets ((record { head = c.args.sets.now.head; slots = c.in-Some.leaf.slots }) ∷ []) in
    let room = next.goes.stands.room in
    let few = next.goes.stands.few in
    let scan = scan_by (told_all (g.I.Images.seen c.args.images.now).attached) c.args.paging.now.plan.now c.loop-leaf.page.tested ((c.args.sets.now.first + c.in-Some.leaf.rank) + 1) c.args.paging.now.size (length c.loop-leaf.page.lines) c.push.new.self c.scan_waiting.new.page c.scan_waiting.result (g.I.Images.seen c.loop-leaf.images) (g.I.Images.seen c.scan_waiting.new.images) are
    (waits_more (told_all (g.I.Images.seen c.args.images.now).attached) c.args.paging.now.plan.now c.args.paging.now.size (record { rank = c.args.sets.now.first + c.in-Some.leaf.rank; geo = record { head = c.args.sets.now.head; slots = c.in-Some.leaf.slots } }) c.loop-leaf.page c.push.new.self next.goes.stands next.is ranks sets)
    (is_many (length c.push.new.self.sets) (length c.loop-leaf.page.lines + c.push.new.self.known) c.args.paging.now.size (sym c.is_ready.ensures ∙ c.if-not-is_ready.false))
    (omega arith)
    (pushed_below (length c.loop-leaf.page.lines) c.loop-leaf.page.waiting.known c.push.new.self.known (length c.push.new.self.sets) c.args.paging.now.size few known)
    c.scan_waiting.ensures.tested c.scan_waiting.ensures.fills c.scan_waiting.ensures.past c.scan_waiting.ensures.reads c.scan_waiting.ensures.unread in
    let ok : c.scan_waiting.result ≡ Ok c.in_ok-next.field-0 = search rules in
    let goes = gathers_all _ _ c.args.paging.now.plan.now c.args.paging.now.size ((c.args.sets.now.first + c.in-Some.leaf.rank) + 1) (record { lines = c.loop-leaf.page.lines; tested = c.loop-leaf.page.tested; waiting = c.push.new.self }) c.scan_waiting.new.page c.in_ok-next.field-0 c.loop-leaf.invariant.stands.scans.spends.reads.attached c.in_default-2.is c.in_ok-next.ensures.gathers in
    record {
      goes = (tt, tt);
      quiet = search rules;
      stands = gathered (told_all (g.I.Images.seen c.args.images.now).attached) c.args.paging.now.plan.now c.args.sets.now (is_admitted c.args.family.now) c.args.from c.args.stop c.args.paging.now.size (g.I.Images.seen c.args.images.now) (g.I.Images.seen c.loop-leaf.images) (g.I.Images.seen c.scan_waiting.new.images) c.args.page.now c.loop-leaf.page c.scan_waiting.new.page c.in-Some.leaf c.next.new.self.leaves next c.loop-leaf.invariant.stands.scans
          (record { stands = goes.stands; forward = goes.forward; adds = goes.adds })
          (reads_none (told_all (g.I.Images.seen c.args.images.now).attached) c.args.paging.now.plan.now c.loop-leaf.page.tested ((c.args.sets.now.first + c.in-Some.leaf.rank) + 1) 0 0 c.scan_waiting.new.page c.scan_waiting.result (g.I.Images.seen c.loop-leaf.images) (g.I.Images.seen c.scan_waiting.new.images) (ok ∙ ap (λ (o : Option ℕ). let r : Result (Option ℕ) WalkFault = Ok o in r) c.in_default-2.is) scan);
    }

pub scan_waiting-requires-clause-wait : goal.scan_waiting-requires-clause-wait
scan_waiting-requires-clause-wait g c κs within =
    let next = next_leaf (told_all (g.I.Images.seen c.args.images.now).attached) c.args.paging.now.plan.now c.args.sets.now (is_admitted c.args.family.now) c.args.from c.args.stop c.args.paging.now.size (g.I.Images.seen c.args.images.now) (g.I.Images.seen c.loop-leaf.images) c.args.page.now c.loop-leaf.page c.loop-leaf.walk.leaves c.next.new.self.leaves c.in-Some.leaf
    c.requires.head c.requires.part c.requires.admits c.loop-leaf.invariant.stands c.in-Some.ensures.steps in
    let are : AreWaiting c.args.paging.now.plan.now c.push.new.self = search rules in
    let ranks : c.push.new.self.ranks ≡ c.loop-leaf.page.waiting.ranks ++ (c.args.sets.now.first + c.in-Some.leaf.rank) ∷ [] = search rules in
    let sets : c.push.new.self.sets ≡ c.loop-leaf.page.waiting.sets ++ (record { head = c.args.sets.now.head; slots = c.in-Some.leaf.slots }) ∷ [] = search rules in
    let P : List Image → Type 0 = λ attached. Wait (told_all attached) c.args.paging.now.plan.now c.loop-leaf.page.tested ((c.args.sets.now.first + c.in-Some.leaf.rank) + 1) (ranked_sets c.push.new.self.ranks c.push.new.self.sets) in
    subst P (sym c.loop-leaf.invariant.stands.scans.spends.reads.attached) (waits_more (told_all (g.I.Images.seen c.args.images.now).attached) c.args.paging.now.plan.now c.args.paging.now.size (record { rank = c.args.sets.now.first + c.in-Some.leaf.rank; geo = record { head = c.args.sets.now.head; slots = c.in-Some.leaf.slots } }) c.loop-leaf.page c.push.new.self next.goes.stands next.is ranks sets)

pub returns-clause-gathers : goal.returns-clause-gathers
returns-clause-gathers g c =
    ended (told_all (g.I.Images.seen c.args.images.now).attached) c.args.paging.now.plan.now c.args.sets.now (is_admitted c.args.family.now) c.args.from c.args.stop c.args.paging.now.size (g.I.Images.seen c.args.images.now) (g.I.Images.seen c.loop-leaf.images) c.args.page.now c.loop-leaf.page c.loop-leaf.walk.leaves c.requires.head c.requires.part c.requires.admits c.loop-leaf.invariant.stands c.in_default.ensures.steps.0

pub returns-clause-reads : goal.returns-clause-reads
returns-clause-reads g c = c.loop-leaf.invariant.stands.scans

pub scan_waiting-requires-clause-can : goal.scan_waiting-requires-clause-can
scan_waiting-requires-clause-can g c κs within =
    let P : List Image → Type 0 = λ attached. CanPage c.args.paging.now.plan.now c.args.paging.now.size attached in
    subst P (sym c.loop-leaf.invariant.stands.scans.spends.reads.attached) c.requires.can
