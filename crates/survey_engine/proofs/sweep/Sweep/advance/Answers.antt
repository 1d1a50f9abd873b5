use Rattle.std.proofs.Common.{◌+◌, nat_lt, refl, ap}
use Rattle.survey_engine.proofs.Advancing.{at_error, images_are, more_next, none_next, none_told, not_read, reads_as, some_next, went_on}
use Rattle.survey_engine.proofs.sweep.Sweep.advance.Goals as goal

pub returns-then-self-clause-more : goal.returns-then-self-clause-more
returns-then-self-clause-more g c = ap (nat_lt 0) (none_next _ _ _ _ _ _ c.self.view_is c.if-self.true)

pub returns-then-self-clause-ok : goal.returns-then-self-clause-ok
returns-then-self-clause-ok g c = went_on _ _ _ _ _ _ _ _ _ c.self.view_is (none_next _ _ _ _ _ _ c.self.view_is c.if-self.true)

pub returns-then-self-clause-told : goal.returns-then-self-clause-told
returns-then-self-clause-told g c = none_told _ _ (c.self.inside.first + c.self.inside.count) _ (images_are _ _ _ _ _ _ _ c.self.view_is c.requires.images)

pub returns-then-self-clause-reads : goal.returns-then-self-clause-reads
returns-then-self-clause-reads g c = not_read _ _

pub read_blocks-requires-clause-number : goal.read_blocks-requires-clause-number
read_blocks-requires-clause-number g c = images_are _ _ _ _ _ _ _ c.self.view_is c.requires.images

pub returns-in_err-read_blocks-clause-err : goal.returns-in_err-read_blocks-clause-err
returns-in_err-read_blocks-clause-err g c = at_error c.from_residual.result (went_on _ _ _ _ _ 0 0 _ _ c.self.view_is refl)

pub returns-in_err-read_blocks-clause-reads : goal.returns-in_err-read_blocks-clause-reads
returns-in_err-read_blocks-clause-reads g c =
    reads_as _ _ _ _ _ _ c.read_blocks.ensures.reads (images_are _ _ _ _ _ _ _ c.self.view_is c.requires.images) (some_next _ _ _ _ _ _ _ c.self.view_is c.min-count.ensures)

pub returns-clause-more : goal.returns-clause-more
returns-clause-more g c = more_next _ _ _ _ _ _ c.self.view_is c.if-self.false

pub returns-clause-ok : goal.returns-clause-ok
returns-clause-ok g c = went_on _ _ _ _ _ _ _ _ _ c.self.view_is (some_next _ _ _ _ _ _ _ c.self.view_is c.min-count.ensures)

pub returns-clause-reads : goal.returns-clause-reads
returns-clause-reads g c =
    reads_as _ _ _ _ _ _ c.read_blocks.ensures.reads (images_are _ _ _ _ _ _ _ c.self.view_is c.requires.images) (some_next _ _ _ _ _ _ _ c.self.view_is c.min-count.ensures)
