use Rattle.std.proofs.Common.{◌≡◌, ◌*◌, ◌/◌, ◌%◌, Some, slice_get, length}
use Rattle.near_search.specs.Product.{layout_heads}
use Rattle.near_search.proofs.HeadPlaces.{head_found, layout_digits}
use Rattle.near_search.proofs.ask.NearAsk.head_at.Goals as goal

pub nonzero_div-place : goal.nonzero_div-place
nonzero_div-place c = rw (c.layout_count-layout_count.ensures.value) (layout_digits c.args.self.now c.args.place c.requires).some

pub number_at-layout-requires : goal.number_at-layout-requires
number_at-layout-requires c = rw (c.layout_count-layout_count.ensures.value, c.deref.ensures.0) (layout_digits c.args.self.now c.args.place c.requires).layout

pub nonzero_rem-place : goal.nonzero_rem-place
nonzero_rem-place c = rw (c.layout_count-layout_count.ensures.value) (layout_digits c.args.self.now c.args.place c.requires).some

pub head_of-requires : goal.head_of-requires
head_of-requires c = rw (c.layout_count-layout_count.ensures.value) ((layout_digits c.args.self.now c.args.place c.requires).rest c.number_at-layout.result)

pub returns : goal.returns
returns c =
    let one : slice_get c.args.self.now.layouts.items (c.args.place / (length c.args.self.now.members.items * (length c.args.self.now.chunks.items * length c.args.self.now.offsets.items))) ≡ Some c.number_at-layout.result
    = rw (← c.deref.ensures.0, ← c.layout_count-layout_count.ensures.value) c.number_at-layout.ensures in
    let two : slice_get (layout_heads c.args.self.now c.number_at-layout.result) (c.args.place % (length c.args.self.now.members.items * (length c.args.self.now.chunks.items * length c.args.self.now.offsets.items))) ≡ Some c.head_of.result
    = rw (← c.layout_count-layout_count.ensures.value) c.head_of.ensures in
    head_found c.args.self.now c.args.place c.number_at-layout.result c.head_of.result c.requires one two
