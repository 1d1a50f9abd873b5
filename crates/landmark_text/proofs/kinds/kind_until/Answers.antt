use Rattle.std.proofs.Common.{subst, sym, ◌∙◌}
use Rattle.value_text.proofs.Spellings.{IsWithout, none_then, has_separator, word_is}
use Rattle.landmark_text.specs.KindLaws.{kind_law}
use Rattle.landmark_text.specs.Names.{kind_name}
use Rattle.landmark_text.proofs.kinds.kind_until.Goals as goal

pub returns-in_err-word : goal.returns-in_err-word
returns-in_err-word c =
    none_then _ _ c.from_residual.result c.from_residual.ensures
    (λ x rest e. has_separator c.args.separator (kind_name x) rest (subst (IsWithout c.args.separator) e c.in_err-word.ensures))

pub returns-in_err-kind : goal.returns-in_err-kind
returns-in_err-kind c =
    none_then _ _ c.from_residual-in_err-kind.result c.from_residual-in_err-kind.ensures
    (λ x rest e. c.in_err-kind.ensures x (word_is kind_name (λ kind. Unit {0}) kind_law c.args.separator c.in_ok-word.word.now c.in_ok-word.rest.now rest x c.requires c.in_ok-word.ensures.0 tt (sym c.in_ok-word.ensures.1 ∙ e)).0)
