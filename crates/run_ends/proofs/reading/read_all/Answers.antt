use Rattle.std.proofs.Common.{◌≡◌, ◌++◌, ◌<◌, ◌≤◌, [], Ok, drop, take, is_ok, length, true, ap, arith, rules, refl, ◌∙◌}
use Rattle.std.proofs.lemmas.List.{length-take}
use Rattle.run_ends.proofs.Taking.{all_taken, at_end, nothing_read, takes_any, length_taken, read_was_left, takes_front, within_front}
use Rattle.run_ends.proofs.reading.read_all.Goals as goal

pub returns-in_err-map_err-clause-takes : goal.returns-in_err-map_err-clause-takes
returns-in_err-map_err-clause-takes g c =
    let left = g.S.Source.left c.args.source.now in
    let few : length c.take.new.to ≤ c.min-room.result = omega (arith, c.take.auto.to, length-take c.min-room.result c.loop.piece) in
    takes_any c.args.most left (g.S.Source.left c.loop.source) (g.S.Source.left c.take.new.self) c.loop.text.items c.take.new.to c.take.result c.loop.invariant.few (omega arith) c.loop.invariant.consumed c.take.ensures.bytes

pub returns-then-len-most-clause-ends : goal.returns-then-len-most-clause-ends
returns-then-len-most-clause-ends g c =
    let e : c.take.result ≡ Ok c.in_ok-count.count = search rules in
    let n = c.in_ok-count.count in
    let left = g.S.Source.left c.args.source.now in
    let rest = drop c.min-room.result c.loop.piece in
    let le = within_front c.take.result n c.take.new.to e c.take.ensures.bound in
    let piece = takes_front left (g.S.Source.left c.loop.source) (g.S.Source.left c.take.new.self) c.loop.text.items c.take.new.to rest c.take.result n c.loop.invariant.consumed e le c.take.ensures.bytes in
    let long = length_taken c.loop.text.items c.take.new.to rest n le in
    let ok : is_ok c.extend_from_slice.result ≡ true = search rules in
    let items : c.extend_from_slice.new.self.items ≡ c.loop.text.items ++ take n (c.take.new.to ++ rest) = rw ok at c.extend_from_slice.ensures.items in
    read_was_left left (g.S.Source.left c.take.new.self) (c.loop.text.items ++ take n (c.take.new.to ++ rest)) c.args.most piece (let same = ap length items in omega arith)

pub returns-then-len-most-clause-takes : goal.returns-then-len-most-clause-takes
returns-then-len-most-clause-takes g c =
    let left = g.S.Source.left c.args.source.now in
    let few : length c.take.new.to ≤ c.min-room.result = omega (arith, c.take.auto.to, length-take c.min-room.result c.loop.piece) in
    takes_any c.args.most left (g.S.Source.left c.loop.source) (g.S.Source.left c.take.new.self) c.loop.text.items c.take.new.to c.take.result c.loop.invariant.few (omega arith) c.loop.invariant.consumed c.take.ensures.bytes

pub loop-preserved : goal.loop-preserved
loop-preserved g c =
    let e : c.take.result ≡ Ok c.in_ok-count.count = search rules in
    let n = c.in_ok-count.count in
    let left = g.S.Source.left c.args.source.now in
    let rest = drop c.min-room.result c.loop.piece in
    let le = within_front c.take.result n c.take.new.to e c.take.ensures.bound in
    let piece = takes_front left (g.S.Source.left c.loop.source) (g.S.Source.left c.take.new.self) c.loop.text.items c.take.new.to rest c.take.result n c.loop.invariant.consumed e le c.take.ensures.bytes in
    let long = length_taken c.loop.text.items c.take.new.to rest n le in
    let ok : is_ok c.extend_from_slice.result ≡ true = search rules in
    let items : c.extend_from_slice.new.self.items ≡ c.loop.text.items ++ take n (c.take.new.to ++ rest) = rw ok at c.extend_from_slice.ensures.items in
    record {
      some = let same = ap length items in omega arith;
      few = let same = ap length items in omega arith;
      consumed = rw items piece;
      same = (rw e at c.take.ensures.cause.stays) ∙ c.loop.invariant.same;
    }

pub returns-in_err-count-clause-takes : goal.returns-in_err-count-clause-takes
returns-in_err-count-clause-takes g c =
    let left = g.S.Source.left c.args.source.now in
    let few : length c.take.new.to ≤ c.min-room.result = omega (arith, c.take.auto.to, length-take c.min-room.result c.loop.piece) in
    takes_any c.args.most left (g.S.Source.left c.loop.source) (g.S.Source.left c.take.new.self) c.loop.text.items c.take.new.to c.take.result c.loop.invariant.few (omega arith) c.loop.invariant.consumed c.take.ensures.bytes

pub returns-then-count-eq0-clause-takes : goal.returns-then-count-eq0-clause-takes
returns-then-count-eq0-clause-takes g c =
    let left = g.S.Source.left c.args.source.now in
    let few : length c.take.new.to ≤ c.min-room.result = omega (arith, c.take.auto.to, length-take c.min-room.result c.loop.piece) in
    takes_any c.args.most left (g.S.Source.left c.loop.source) (g.S.Source.left c.take.new.self) c.loop.text.items c.take.new.to c.take.result c.loop.invariant.few (omega arith) c.loop.invariant.consumed c.take.ensures.bytes

pub loop-init : goal.loop-init
loop-init g c =
    let empty : c.new-text.result.items ≡ [] = c.new-text.ensures.items in
    record {
      some = omega arith;
      few = rw empty (omega arith);
      consumed = rw empty (nothing_read (g.S.Source.left c.args.source.now));
      same = refl;
    }

pub returns-then-count-eq0-clause-end : goal.returns-then-count-eq0-clause-end
returns-then-count-eq0-clause-end g c =
    let e : c.take.result ≡ Ok c.in_ok-count.count = search rules in
    let some : 0 < length c.take.new.to = omega (arith, c.take.auto.to, length-take c.min-room.result c.loop.piece) in
    at_end (g.S.Source.left c.loop.source) (g.S.Source.left c.take.new.self) c.take.new.to c.take.result c.in_ok-count.count e c.if-count-eq0.true some c.take.ensures.bytes

pub returns-then-count-eq0-clause-text : goal.returns-then-count-eq0-clause-text
returns-then-count-eq0-clause-text g c =
    let e : c.take.result ≡ Ok c.in_ok-count.count = search rules in
    let some : 0 < length c.take.new.to = omega (arith, c.take.auto.to, length-take c.min-room.result c.loop.piece) in
    all_taken (g.S.Source.left c.args.source.now) (g.S.Source.left c.loop.source) (g.S.Source.left c.take.new.self) c.loop.text.items c.take.new.to c.take.result c.in_ok-count.count e c.if-count-eq0.true some c.loop.invariant.consumed c.take.ensures.bytes
