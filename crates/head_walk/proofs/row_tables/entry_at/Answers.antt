use Rattle.std.proofs.Common.{◌==◌, List, get_or, sym, ap, ◌∙◌}
use Rattle.std.specs.List.{position}
use Rattle.head_walk.specs.declared.row_tables.OffsetTables.{OffsetTables}
use Rattle.head_walk.proofs.Kept.{found_entry, is_there}
use Rattle.head_walk.proofs.row_tables.entry_at.Goals as goal

pub returns : goal.returns
returns c =
    found_entry c.args.offset c.args.kept.now c.in-Some.place c.index-as_slice-place.result
    (ap (position (λ (k : OffsetTables). k.offset == c.args.offset)) (sym c.as_slice.ensures) ∙ sym c.kept_place.ensures ∙ c.in-Some.is)
    (c.index-as_slice-place.is ∙ ap (λ (l : List OffsetTables). get_or l c.in-Some.place c.index-as_slice-place.result) c.as_slice-in-Some.ensures)

pub unreachable-requires : goal.unreachable-requires
unreachable-requires c =
    is_there c.args.offset c.args.kept.now c.requires
    (ap (position (λ (k : OffsetTables). k.offset == c.args.offset)) (sym c.as_slice.ensures) ∙ sym c.kept_place.ensures ∙ c.in-None.is)
