use Rattle.std.proofs.Common.{◌≡◌, ◌*◌, ◌/◌, ◌%◌, Some, slice_get, length}
use Rattle.near_search.proofs.HeadPlaces.{digits, layout_found}
use Rattle.near_search.proofs.ask.NearAsk.head_of.Goals as goal

pub nonzero_div-place : goal.nonzero_div-place
nonzero_div-place c = rw (c.len.ensures.value, c.len-offsets.ensures.value) (digits c.args.self.now c.args.layout c.args.place c.requires).pairs

pub number_at-requires : goal.number_at-requires
number_at-requires c = rw (c.len.ensures.value, c.len-offsets.ensures.value, c.deref.ensures.0) (digits c.args.self.now c.args.layout c.args.place c.requires).member

pub nonzero_rem-place : goal.nonzero_rem-place
nonzero_rem-place c = rw (c.len.ensures.value, c.len-offsets.ensures.value) (digits c.args.self.now c.args.layout c.args.place c.requires).pairs

pub nonzero_div-place-2 : goal.nonzero_div-place-2
nonzero_div-place-2 c = rw (c.len-offsets.ensures.value) (digits c.args.self.now c.args.layout c.args.place c.requires).offsets

pub number_at-requires-2 : goal.number_at-requires-2
number_at-requires-2 c = rw (c.len.ensures.value, c.len-offsets.ensures.value, c.deref-2.ensures.0) (digits c.args.self.now c.args.layout c.args.place c.requires).chunk

pub nonzero_rem-place-2 : goal.nonzero_rem-place-2
nonzero_rem-place-2 c = rw (c.len.ensures.value, c.len-offsets.ensures.value) (digits c.args.self.now c.args.layout c.args.place c.requires).pairs

pub nonzero_rem-place-3 : goal.nonzero_rem-place-3
nonzero_rem-place-3 c = rw (c.len-offsets.ensures.value) (digits c.args.self.now c.args.layout c.args.place c.requires).offsets

pub number_at-requires-3 : goal.number_at-requires-3
number_at-requires-3 c = rw (c.len.ensures.value, c.len-offsets.ensures.value, c.deref-3.ensures.0) (digits c.args.self.now c.args.layout c.args.place c.requires).offset

pub returns : goal.returns
returns c =
    let one : slice_get c.args.self.now.members.items (c.args.place / (length c.args.self.now.chunks.items * length c.args.self.now.offsets.items)) ≡ Some c.number_at.result
    = rw (← c.deref.ensures.0, ← c.len.ensures.value, ← c.len-offsets.ensures.value) c.number_at.ensures in
    let two : slice_get c.args.self.now.chunks.items (c.args.place % (length c.args.self.now.chunks.items * length c.args.self.now.offsets.items) / length c.args.self.now.offsets.items) ≡ Some c.number_at-2.result
    = rw (← c.len.ensures.value, ← c.len-offsets.ensures.value, ← c.deref-2.ensures.0) c.number_at-2.ensures in
    let three : slice_get c.args.self.now.offsets.items (c.args.place % (length c.args.self.now.chunks.items * length c.args.self.now.offsets.items) % length c.args.self.now.offsets.items) ≡ Some c.number_at-3.result
    = rw (← c.len.ensures.value, ← c.len-offsets.ensures.value, ← c.deref-3.ensures.0) c.number_at-3.ensures in
    layout_found c.args.self.now c.args.layout c.args.place c.number_at.result c.number_at-2.result c.number_at-3.result c.requires one two three
