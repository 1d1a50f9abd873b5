use Rattle.std.proofs.Common.{subst, sym, ◌∙◌}
use Rattle.value_text.proofs.Spellings.{IsWithout, none_then, has_separator, word_is}
use Rattle.value_text.proofs.spelled.value_until.Goals as goal

pub returns-in_err-word : goal.returns-in_err-word
returns-in_err-word g c =
    none_then _ _ c.from_residual.result c.from_residual.ensures
    (λ x rest spelled e. has_separator c.args.separator (g.T.Spelled.name x) rest (subst (IsWithout c.args.separator) e c.in_err-word.ensures))

pub returns-in_err-value : goal.returns-in_err-value
returns-in_err-value g c =
    none_then _ _ c.from_residual-in_err-value.result c.from_residual-in_err-value.ensures
    (λ x rest spelled e. c.in_err-value.ensures x spelled (word_is g.T.Spelled.name g.T.Spelled.IsSpelled g.met.T.Field.law c.args.separator c.in_ok-word.word.now c.in_ok-word.rest.now rest x c.requires c.in_ok-word.ensures.0 spelled (sym c.in_ok-word.ensures.1 ∙ e)).0)
