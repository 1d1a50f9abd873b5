-- Proofs that each word of a list has a name of its own, without a comma. The implementations of `Spelled` give them as their
-- law, which may cite `specs` alone.
use Rattle.std.proofs.Common.{◌≡◌, ap}
use Rattle.mark_kinds.specs.declared.table.GroupKind.{GroupKind}
use Rattle.mark_kinds.specs.declared.table.DropAt.{DropAt}
use Rattle.value_text.specs.NameLaws.{in_lists}
use Rattle.value_text.specs.Spelling.{IsSpelling}
use Rattle.landmark_text.specs.DropLaws.{drop_law}
use Rattle.landmark_text.specs.KindLaws.{group_law}
use Rattle.landmark_text.specs.Names.{IsDrop, drop_name, group_name}
use Rattle.landmark_text.specs.declared.lists.DropWord.{DropWord}
use Rattle.landmark_text.specs.declared.lists.GroupWord.{GroupWord}

group_with : GroupKind → GroupWord
group_with kind = record { kind = kind }

one_group : (x y : GroupWord) → x.kind ≡ y.kind → x ≡ y
unfolding group_with
one_group x y e = let same : group_with x.kind ≡ group_with y.kind = ap group_with e in same

pub group_word_law : IsSpelling (λ (word : GroupWord). group_name word.kind) (λ word. Unit {0})
group_word_law =
    let law = in_lists group_name (λ kind. Unit {0}) group_law in
    record { one_value = λ x y p q e. one_group x y (law.one_value x.kind y.kind tt tt e); has_none = λ x p. law.has_none x.kind tt }

drop_with : DropAt → DropWord
drop_with at = record { at = at }

one_drop : (x y : DropWord) → x.at ≡ y.at → x ≡ y
unfolding drop_with
one_drop x y e = let same : drop_with x.at ≡ drop_with y.at = ap drop_with e in same

pub drop_word_law : IsSpelling (λ (word : DropWord). drop_name word.at) (λ word. IsDrop word.at)
drop_word_law = record { one_value = λ x y p q e. one_drop x y (drop_law.one_value x.at y.at p q e); has_none = λ x p. drop_law.has_none x.at p }
