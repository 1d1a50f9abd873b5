use Rattle.std.proofs.Common.{ℕ, ◌≡◌, ◌∙◌, ◌*◌, ◌++◌, Bool, not, count_by, List, codes, decimal, sym, ap, subst, arith}
use Rattle.std.specs.List.{range_with_len}
use Rattle.value_text.specs.Spelling.{line}
use Rattle.raid_params.specs.Size.{data_blocks, volume_sectors}
use Rattle.rescue_map.specs.Damaged.{is_lost}
use Rattle.rescue_map.specs.LostText.{lines_before, lost_lines, HasRuns}
use Rattle.rescue_map.proofs.Runs.{runs_before}
use Rattle.rescue_map.proofs.Passed.{rows_whole}
use Rattle.rescue_map.proofs.lost.lost_text.Goals as goal

pub add_rows-requires-clause-runs : goal.add_rows-requires-clause-runs
add_rows-requires-clause-runs c =
    let set = c.args.set.now in
    let lost = is_lost c.args.rescue.now set in
    let sectors = volume_sectors set.geo.head c.args.end in
    let none : 0 ≡ 0 * (set.geo.head.chunk * data_blocks set.geo.head) = omega arith in
    subst (λ (k : ℕ). HasRuns lost sectors k c.new-runs.result) none (c.new-runs.ensures lost sectors)

pub end_at-requires : goal.end_at-requires
end_at-requires c =
    let set = c.args.set.now in
    let lost = is_lost c.args.rescue.now set in
    let sectors = volume_sectors set.geo.head c.args.end in
    let whole = rows_whole set c.args.end c.rows.result c.rows.ensures ∙ sym c.volume_sectors-sectors.ensures in
    let has = subst (λ (k : ℕ). HasRuns lost sectors k c.add_rows.new.runs) whole c.in_ok-add_rows.ensures in
    record { before = (runs_before lost sectors c.volume_sectors-sectors.result c.add_rows.new.runs has).0 }

-- the text, once its last line is there
whole_text : (lost : ℕ → Bool) (sectors at good : ℕ) (text after : List ℕ) → at ≡ sectors → after ≡ text ++ line (codes "good " ++ decimal good ++ codes " of " ++ decimal at) →
    text ≡ lines_before lost sectors at → good ≡ count_by (λ v. not (lost v)) (range_with_len 0 at) → after ≡ lost_lines lost sectors
unfolding lost_lines
whole_text lost sectors at good text after is added lines goods =
    added
    ∙ ap (λ (k : ℕ). text ++ line (codes "good " ++ decimal k ++ codes " of " ++ decimal at)) goods
    ∙ ap (λ (l : List ℕ). l ++ line (codes "good " ++ decimal (count_by (λ v. not (lost v)) (range_with_len 0 at)) ++ codes " of " ++ decimal at)) lines
    ∙ ap (λ (k : ℕ). lines_before lost sectors k ++ line (codes "good " ++ decimal (count_by (λ v. not (lost v)) (range_with_len 0 k)) ++ codes " of " ++ decimal k)) is

pub returns : goal.returns
returns c =
    let set = c.args.set.now in
    let lost = is_lost c.args.rescue.now set in
    let sectors = volume_sectors set.geo.head c.args.end in
    let at = c.volume_sectors-sectors.result in
    let is : at ≡ sectors = c.volume_sectors-sectors.ensures in
    let whole = rows_whole set c.args.end c.rows.result c.rows.ensures ∙ sym is in
    let has = subst (λ (k : ℕ). HasRuns lost sectors k c.add_rows.new.runs) whole c.in_ok-add_rows.ensures in
    let ended = c.in_ok-end_at.ensures in
    whole_text lost sectors at c.end_at.new.self.good c.end_at.new.self.text c.add_line.new.text is c.in_ok-add_line.ensures
    (ended.lines lost sectors has (λ below. absurd (omega arith))) (ended.good ∙ has.good)
