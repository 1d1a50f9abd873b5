use Rattle.std.proofs.Common.{ℕ, ◌<◌, List, length, ap, inl, inr, refl, subst}
use Rattle.volume_classes.specs.Tables.{TellsAlike, TellsNone}
use Rattle.volume_classes.specs.declared.tables.Table.{Table}
use Rattle.volume_classes.proofs.numbering.class_of.Goals as goal

pub returns-in-Some : goal.returns-in-Some
returns-in-Some c =
    let found = subst (λ (tables : List Table). (c.in-Some.number < length tables) × TellsAlike c.args.images c.args.end tables c.in-Some.number c.args.table) c.as_slice.ensures c.in-Some.ensures in
    inl (refl, found.0, found.1)

pub returns-in_ok-push-in-None : goal.returns-in_ok-push-in-None
returns-in_ok-push-in-None c =
    let none = subst (λ (tables : List Table). (place : ℕ) → place < length tables → TellsNone c.args.images c.args.end tables place c.args.table) c.as_slice.ensures c.in-None.ensures in
    inr (c.in_ok-push-in-None.ensures.ok, ap length c.as_slice-number.ensures, none)
