-- The words of `mirrors` are what its job asks of them.
use Rattle.std.proofs.Common.{◌≡◌, ℕ, ◌≤◌, ◌⊎◌, IsTrue, List, [], All, inl, inr, sym, subst, arith}
use Rattle.std.proofs.lemmas.Bool.Decides.{nat_tests}
use Rattle.std.proofs.lemmas.List.Elements.{All-nil, All-weaker}
use Rattle.command_words.specs.Commands.{AreMirrors}
use Rattle.near_jobs.specs.Mirroring.{AreMirrorWords}
use Rattle.near_jobs.specs.declared.mirroring.MirrorWords.{MirrorWords}
use Rattle.near_mirror.specs.Heads.{has_members}
use Rattle.raid_params.specs.declared.limits.TheConstants.{MOST}
use Rattle.value_text.specs.Bounded.{AreMembers}

member : (n : ℕ) → (2 ≤ n) × (n ≤ MOST) → IsTrue (has_members n)
member n both = let low = both.0 in let high = both.1 in grind (arith, nat_tests)

members_are : (ns : List ℕ) → (ns ≡ []) ⊎ AreMembers ns → All (λ n. IsTrue (has_members n)) ns
members_are ns (inl none) = subst (λ (l : List ℕ). All (λ n. IsTrue (has_members n)) l) (sym none) (All-nil (λ n. IsTrue (has_members n)))
members_are ns (inr are) = All-weaker (λ n. (2 ≤ n) × (n ≤ MOST)) (λ n. IsTrue (has_members n)) member ns are.1

pub are_words : (asked : MirrorWords) → AreMirrors asked.layouts.items asked.members.items asked.chunks.items asked.offsets.items asked.missing asked.foreign asked.badrows asked.window asked.end asked.size asked.span → AreMirrorWords asked
are_words asked are = record {
  layouts = are.layouts.all;
  members = members_are asked.members.items are.members;
  chunks = are.chunks.1;
  offsets = are.offsets.2;
  missing = are.missing;
  foreign = are.foreign;
  end = are.end;
  size = are.size.0;
}
