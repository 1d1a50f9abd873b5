use Rattle.std.proofs.Common.{ℕ, ◌≡◌, ◌∙◌, ◌+◌, ◌*◌, ◌<◌, ◌≤◌, IfSome, length, get_or, List, Option, None, ap, refl, sym, rules, arith}
use Rattle.outside.specs.Attached.{told_all}
use Rattle.outside.proofs.Reading.{reads_up}
use Rattle.member_regions.proofs.Held.{reads_all, reads_member}
use Rattle.raid_terms.specs.Parity.{member_byte}
use Rattle.member_regions.proofs.IfTold.{if_both}
use Rattle.rescue_map.specs.Salvaged.{HoldCells}
use Rattle.rescue_map.proofs.Found.{cells_more}
use borrow.Rule.Slice.PartMut.{put_mid}
use Rattle.rescue_map.proofs.reading.read_row.Goals as goal

pub loop-slot-preserved : goal.loop-slot-preserved
loop-slot-preserved g c =
    let slots = c.args.geo.now.slots.items in
    let slot = c.loop-slot.slot in
    let offset = c.args.geo.now.head.offset in
    let long : length c.read_cell.new.to ≡ 512 = c.read_cell.ensures.long in
    let before : length c.loop-slot.row ≡ length c.args.row.now = c.loop-slot.invariant.long in
    let all = c.requires.row in
    let under : slot < length slots = search rules in
    let here : get_or slots slot None ≡ get_or c.deref-held-items.result.now slot None = ap (λ (l : List (Option ℕ)). get_or l slot None) (sym c.deref-held-items.ensures.0) in
    let within : 512 * slot ≤ length c.loop-slot.row = omega arith in
    let now : IfSome (told_all (g.I.Images.seen c.loop-slot.images).attached) (λ bytes. (x : ℕ) → x < 512 → get_or c.read_cell.new.to x 0 ≡ member_byte bytes offset c.args.sector x (get_or slots slot None)) = search rules in
    let stays : (g.I.Images.seen c.read_cell.new.images).faults ≡ (g.I.Images.seen c.loop-slot.images).faults = search rules in
    record {
      long = omega arith;
      reads = reads_member (g.I.Images.seen c.args.images.now) (g.I.Images.seen c.loop-slot.images) (g.I.Images.seen c.read_cell.new.images) slots slot 1 1 None (get_or c.deref-held-items.result.now slot None) c.loop-slot.invariant.reads c.read_cell.ensures.reads.only refl under here;
      stays = stays ∙ c.loop-slot.invariant.stays;
      told =
          if_both (told_all (g.I.Images.seen c.args.images.now).attached)
          (λ bytes. HoldCells bytes slots offset c.args.sector slot c.loop-slot.row)
          (λ bytes. (x : ℕ) → x < 512 → get_or c.read_cell.new.to x 0 ≡ member_byte bytes offset c.args.sector x (get_or slots slot None))
          (λ bytes. HoldCells bytes slots offset c.args.sector (slot + 1) (put_mid (512 * slot) _ c.loop-slot.row c.read_cell.new.to))
          (λ bytes hold here. cells_more bytes slots offset c.args.sector _ slot c.loop-slot.row c.read_cell.new.to long within hold here)
          c.loop-slot.invariant.told
          (rw (← c.loop-slot.invariant.reads.attached) now);
    }

pub returns-in_err-read_cell-clause-reads : goal.returns-in_err-read_cell-clause-reads
returns-in_err-read_cell-clause-reads g c =
    let slots = c.args.geo.now.slots.items in
    let slot = c.loop-slot.slot in
    let under : slot < length slots = search rules in
    let here : get_or slots slot None ≡ get_or c.deref-held-items.result.now slot None = ap (λ (l : List (Option ℕ)). get_or l slot None) (sym c.deref-held-items.ensures.0) in record {
      only =
          reads_up (g.I.Images.seen c.args.images.now) (g.I.Images.seen c.read_cell.new.images)
          (reads_all (g.I.Images.seen c.args.images.now) (g.I.Images.seen c.read_cell.new.images) slots (slot + 1) 1
          (reads_member (g.I.Images.seen c.args.images.now) (g.I.Images.seen c.loop-slot.images) (g.I.Images.seen c.read_cell.new.images) slots slot 1 1 None (get_or c.deref-held-items.result.now slot None) c.loop-slot.invariant.reads c.read_cell.ensures.reads.only refl under here))
          (omega arith);
      cause = search rules;
    }

pub returns-clause-reads : goal.returns-clause-reads
returns-clause-reads g c =
    let slots = c.args.geo.now.slots.items in record {
      only =
          reads_up (g.I.Images.seen c.args.images.now) (g.I.Images.seen c.loop-slot.images)
          (reads_all (g.I.Images.seen c.args.images.now) (g.I.Images.seen c.loop-slot.images) slots c.loop-slot.slot 1 c.loop-slot.invariant.reads)
          (omega arith);
      cause = search rules;
    }
