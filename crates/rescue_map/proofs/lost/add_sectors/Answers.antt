use Rattle.std.proofs.Common.{ℕ, ◌≡◌, ◌+◌, sym, subst, arith}
use Rattle.raid_params.specs.Size.{volume_sectors}
use Rattle.rescue_map.specs.Damaged.{is_lost}
use Rattle.rescue_map.specs.LostText.{HasRuns}
use Rattle.rescue_map.specs.declared.lost.Runs.{Runs}
use Rattle.rescue_map.proofs.Runs.{runs_before}
use Rattle.rescue_map.proofs.lost.add_sectors.Goals.{then-kept-eq0, else-kept-eq0+in_ok-pass}
use Rattle.rescue_map.proofs.lost.add_sectors.Goals as goal

pub pass-requires-clause-before : goal.pass-requires-clause-before
pass-requires-clause-before c =
    let damage = c.args.damage.now in
    (runs_before (is_lost damage.rescue.now damage.set.now) (volume_sectors damage.set.now.geo.head damage.end) c.loop-at.at c.loop-at.runs c.loop-at.invariant.runs).0

pub pass-requires-clause-good : goal.pass-requires-clause-good
pass-requires-clause-good c =
    let damage = c.args.damage.now in
    (runs_before (is_lost damage.rescue.now damage.set.now) (volume_sectors damage.set.now.geo.head damage.end) c.loop-at.at c.loop-at.runs c.loop-at.invariant.runs).1

pub loop-at-preserved : goal.loop-at-preserved
loop-at-preserved c =
    let damage = c.args.damage.now in
    let lost = is_lost damage.rescue.now damage.set.now in
    let sectors = volume_sectors damage.set.now.geo.head damage.end in
    let at = c.loop-at.at in
    let less = c.loop-at-test.true in
    let within = c.requires.within in
    let most = c.kept_run-kept.ensures.most in
    record {
      within = omega arith;
      runs = elim c.if-kept-eq0.branch [
        | then-kept-eq0 w ↦
            let none = w.if-kept-eq0.true in
            let one : 1 ≡ c.max-at.result = omega arith in
            subst (λ (r : Runs). HasRuns lost sectors (at + c.max-at.result) r) (sym w.runs-is)
            (subst (λ (k : ℕ). HasRuns lost sectors (at + k) w.lose.new.self) one (w.lose.ensures lost sectors c.loop-at.invariant.runs (omega arith) (c.kept_run-kept.ensures.lost (omega arith))))
        | else-kept-eq0+in_ok-pass w ↦
            let some = w.if-kept-eq0.false in
            let all : c.kept_run-kept.result ≡ c.max-at.result = omega arith in
            subst (λ (r : Runs). HasRuns lost sectors (at + c.max-at.result) r) (sym w.runs-is)
            (subst (λ (k : ℕ). HasRuns lost sectors (at + k) w.pass.new.self) all
            (w.in_ok-pass.ensures lost sectors c.loop-at.invariant.runs (omega arith) c.kept_run-kept.ensures.none))
      ];
    }
