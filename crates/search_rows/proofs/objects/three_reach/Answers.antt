use Rattle.image_source.specs.Memory.{seen_of}
use Rattle.search_rows.proofs.TestSets.{absent, three_long}
use Rattle.search_rows.proofs.objects.three_reach.Goals as goal

pub returns : goal.returns
returns c = λ none.
    three_long (seen_of c.args.images.now).attached c.args.end (c.reaches.ensures c.if-not-reaches.false) (c.reaches-else-not-reaches.ensures c.if-not-reaches-2.false)
    (c.reaches-else-not-reaches-2.ensures c.if-not-reaches-3.false)
    (absent _ c.length.result c.is_none.result c.length.ensures c.is_none.ensures none)
