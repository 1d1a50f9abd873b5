use Rattle.std.proofs.Common.{◌≡◌, ◌∙◌, inl, inr, rules, arith}
use Rattle.std.proofs.lemmas.Bool.{cases_lt}
use Rattle.lost_members.specs.Needs.{is_needed}
use Rattle.lost_members.proofs.ReadParts.{row_alike}
use Rattle.lost_members.proofs.needs.run_end.Goals as goal

pub loop-at-init : goal.loop-at-init
loop-at-init c = record {
  goes_on = c.row_end-at.ensures.goes_on;
  end = c.row_end-at.ensures.end;
  alike = λ t low high. row_alike c.args.geo.now c.args.slot t c.args.sector (c.row_end-at.ensures.row t low high);
}

pub loop-at-preserved : goal.loop-at-preserved
loop-at-preserved c =
    let geo = c.args.geo.now in
    let same : is_needed geo c.args.slot c.loop-at.at ≡ is_needed geo c.args.slot c.args.sector = search rules in
    record {
      goes_on = omega (arith, c.row_end-at-in-loop-at.ensures.goes_on);
      end = c.row_end-at-in-loop-at.ensures.end;
      alike = λ t low high. elim (cases_lt t c.loop-at.at) [
        | inl less ↦ c.loop-at.invariant.alike t low less
        | inr more ↦ row_alike geo c.args.slot t c.loop-at.at (c.row_end-at-in-loop-at.ensures.row t (omega arith) high) ∙ same
      ];
    }
