use Rattle.std.proofs.Common.{◌≡◌, drop}
use Rattle.rescue_text.specs.Good.{covers}
use Rattle.rescue_text.proofs.good.reaches.Given as goal

abbrev pub invariant-loop-block : goal.invariant-loop-block
invariant-loop-block l = covers (drop l.block-index l.blocks) l.to ≡ covers l.blocks l.to
