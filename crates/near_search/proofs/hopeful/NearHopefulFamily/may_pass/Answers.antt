use Rattle.std.proofs.Common.{◌<◌, length, filter, sym, subst}
use Rattle.slot_math.specs.Space.{begins, lists_of}
use Rattle.slot_math.specs.Ways.{AllImages}
use Rattle.raid_params.specs.declared.limits.TheConstants.{MOST}
use Rattle.near_search.specs.Hopeful.{NearAsked}
use Rattle.near_search.proofs.Parted.{begun_images}
use Rattle.near_search.proofs.hopeful.NearHopefulFamily.may_pass.Goals as goal

pub torn-requires-clause-images : goal.torn-requires-clause-images
torn-requires-clause-images c =
    let Q : NearAsked → Type 0 = λ asked. 0 < length (filter (begins c.args.prefix.now.items) (lists_of asked.space)) in
    subst (AllImages MOST) (sym c.deref-then-not-has_lost.ensures.0)
    (begun_images c.self.inside.space c.args.prefix.now.items c.self.invariant.0 (subst Q (sym c.self.view_is) c.requires.begins))
