-- What holds where all bytes are known.
use Rattle.std.proofs.Common.{Option, None, Some, IfSome}

pub if_told : {A : Type 0} (told : Option A) (P Q : A → Type 0) → ((a : A) → P a → Q a) → IfSome told P → IfSome told Q
if_told None P Q step p = tt
if_told (Some a) P Q step p = step a p

pub if_both : {A : Type 0} (told : Option A) (P Q R : A → Type 0) → ((a : A) → P a → Q a → R a) → IfSome told P → IfSome told Q → IfSome told R
if_both None P Q R step p q = tt
if_both (Some a) P Q R step p q = step a p q

pub if_any : {A : Type 0} (told : Option A) (P : A → Type 0) → ((a : A) → P a) → IfSome told P
if_any None P all = tt
if_any (Some a) P all = all a
