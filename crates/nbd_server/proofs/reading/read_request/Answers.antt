use Rattle.std.proofs.Common.{ℕ, List, ◌++◌, ap, ◌∙◌, ◌≡◌, ◌+◌, ◌-◌, ◌*◌, ◌%◌, ◌≤◌, length, drop, arith, slice_range}
use Rattle.std.proofs.lemmas.List.{length-take, length-drop}
use borrow.Rule.Slice.PartMut.{put_mid}
use Rattle.nbd_text.specs.Requests.{simple_reply}
use Rattle.nbd_text.proofs.Fronts.{read_within}
use Rattle.nbd_server.proofs.Messages.{if_both}
use Rattle.nbd_server.proofs.Parts.{within_read}
use Rattle.nbd_server.proofs.reading.read_request.Goals as goal

pub read_bytes-requires-clause-some : goal.read_bytes-requires-clause-some
read_bytes-requires-clause-some g c = (read_within (512 * g.D.BlockDevice.size c.args.device.now) c.args.request.now c.requires.read).0

pub read_bytes-requires-clause-room : goal.read_bytes-requires-clause-room
read_bytes-requires-clause-room g c =
    let few = (read_within (512 * g.D.BlockDevice.size c.args.device.now) c.args.request.now c.requires.read).1 in
    let k = length c.args.room.now - 512 in
    omega (arith, few, length-take k (drop 512 c.args.room.now), length-drop 512 c.args.room.now)

pub read_bytes-requires-clause-within : goal.read_bytes-requires-clause-within
read_bytes-requires-clause-within g c = (read_within (512 * g.D.BlockDevice.size c.args.device.now) c.args.request.now c.requires.read).2

pub returns-clause-within : goal.returns-clause-within
returns-clause-within g c =
    let few = (read_within (512 * g.D.BlockDevice.size c.args.device.now) c.args.request.now c.requires.read).1 in
    omega (arith, few)

pub returns-clause-told : goal.returns-clause-told
returns-clause-told g c =
    let few = (read_within (512 * g.D.BlockDevice.size c.args.device.now) c.args.request.now c.requires.read).1 in
    let count = c.args.request.now.length in
    let shift = c.args.request.now.offset % 512 in
    let at = 512 + shift in
    let old = c.args.room.now in
    let k = length old - 512 in
    let read = c.read_bytes.new.room in
    let room = put_mid 512 k old read in
    let head = c.deref.result.now in
    let size : length head ≡ 16 = ap length c.deref.ensures.0 ∙ c.simple_reply.ensures.size in
    let long : 512 ≤ length old = omega arith in
    let fits : shift + count ≤ length read = omega (arith, few, c.read_bytes.auto.room, length-take k (drop 512 old), length-drop 512 old) in
    let within : at + count ≤ length room = omega (arith, few, fits) in
    let start : at - 16 ≡ at - length head = omega arith in
    let end : at - 16 + (16 + count) ≡ at + count = omega arith in
    if_both (g.D.BlockDevice.content c.args.device.now) c.in_ok-read_bytes.ensures.told c.in_ok-read_bytes.ensures.told (λ content told again.
    ap (λ (n : ℕ). slice_range c.put_head.new.room (at - 16) n) end
    ∙ ap (λ (n : ℕ). slice_range c.put_head.new.room n (at + count)) start
    ∙ c.put_head.ensures count within
    ∙ ap (λ (xs : List ℕ). xs ++ slice_range room at (at + count)) (c.deref.ensures.0 ∙ c.simple_reply.ensures.items)
    ∙ ap (λ (xs : List ℕ). simple_reply 0 c.args.request.now.handle ++ xs) (within_read 512 k shift count old read long fits ∙ told))
