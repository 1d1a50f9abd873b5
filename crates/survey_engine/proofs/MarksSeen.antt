-- Of inodes that begin a stretch of 64 KiB the number is a multiple of 128 or of 32.
use Rattle.std.proofs.Common.{◌≡◌, ℕ, ◌*◌, ◌%◌, ◌==◌, ◌⊎◌, List, [], Bool, true, false, cond, Some, None, refl, sym, ap, ◌∙◌, inl, inr, arith}
use Rattle.std.proofs.lemmas.Bool.{eq-eqb, eqb-true}
use Rattle.std.proofs.lemmas.Bool.Decides.{nat_tests}
use Rattle.std.proofs.lemmas.Option.{none-some}
use Rattle.xfs5.specs.Inode.{begins_inode, inode_of, inode_start, is_inode, xfs_inode}
use Rattle.xfs5.specs.Places.{has_inode_size, is_mark, is_sound}
use Rattle.xfs5.specs.declared.inode.XfsInode.{XfsInode}
use Rattle.xfs5.specs.declared.places.XfsInodes.{XfsInodes}
use Rattle.survey_engine.specs.Landmarks.{inode_in, start_in}

whole : (places : XfsInodes) (n size : ℕ) → places.inode ≡ size → is_mark places n ≡ true → n * size % 65536 ≡ 0
unfolding is_mark
whole places n size is mark = ap (λ (b : ℕ). n * b % 65536) (sym is) ∙ eqb-true (n * places.inode % 65536) 0 mark

of_128 : (n : ℕ) → n * 512 % 65536 ≡ 0 → n % 128 ≡ 0
of_128 n none = omega (arith, none)

of_64 : (n : ℕ) → n * 1024 % 65536 ≡ 0 → n % 32 ≡ 0
of_64 n none = omega (arith, none)

of_32 : (n : ℕ) → n * 2048 % 65536 ≡ 0 → n % 32 ≡ 0
of_32 n none = omega (arith, none)

up_to_32 : (n : ℕ) → n % 128 ≡ 0 → n % 32 ≡ 0
up_to_32 n none = omega (arith, none)

-- of the three sizes
some_size : (places : XfsInodes) → is_sound places ≡ true → (places.inode ≡ 512) ⊎ ((places.inode ≡ 1024) ⊎ (places.inode ≡ 2048))
unfolding is_sound has_inode_size
some_size places sound = grind (arith, nat_tests)

by_32 : (places : XfsInodes) (n : ℕ) → is_sound places ≡ true → is_mark places n ≡ true → n % 32 ≡ 0
by_32 places n sound mark = case (some_size places sound)
  where
    case : (places.inode ≡ 512) ⊎ ((places.inode ≡ 1024) ⊎ (places.inode ≡ 2048)) → n % 32 ≡ 0
    case (inl is) = up_to_32 n (of_128 n (whole places n 512 is mark))
    case (inr (inl is)) = of_64 n (whole places n 1024 is mark)
    case (inr (inr is)) = of_32 n (whole places n 2048 is mark)

-- an inode that is whole seems to begin
begins : (s rest : List ℕ) → is_inode s rest ≡ true → begins_inode s ≡ true
unfolding is_inode
begins s rest is = grind arith

start_of : (b : Bool) (s rest : List ℕ) (inode : XfsInode) → is_inode s rest ≡ b → cond b (Some (inode_of s)) None ≡ Some inode → inode_start s ≡ Some inode
unfolding inode_start
start_of true s rest inode is found = rw (begins s rest is) found
start_of false s rest inode is found = absurd (none-some inode found)

starts : (s rest : List ℕ) (inode : XfsInode) → xfs_inode s rest ≡ Some inode → inode_start s ≡ Some inode
unfolding xfs_inode
starts s rest inode found = start_of (is_inode s rest) s rest inode refl found

-- the two laws
pub small_seen : (places : XfsInodes) (s : List ℕ) (inode : XfsInode) → places.inode ≡ 512 → xfs_inode s [] ≡ Some inode → is_mark places inode.number ≡ true →
    inode_in s ≡ Some (record { inode = inode; bytes = Some 512 })
unfolding inode_in
small_seen places s inode size found mark =
    let multiple : (inode.number % 128 == 0) ≡ true = eq-eqb (inode.number % 128) 0 (of_128 inode.number (whole places inode.number 512 size mark)) in
    rw (found, multiple) refl

pub larger_seen : (places : XfsInodes) (s rest : List ℕ) (inode : XfsInode) → is_sound places ≡ true → xfs_inode s rest ≡ Some inode → is_mark places inode.number ≡ true → xfs_inode s [] ≡ None →
    start_in s ≡ Some (record { inode = inode; bytes = None })
unfolding start_in
larger_seen places s rest inode sound found mark none =
    let multiple : (inode.number % 32 == 0) ≡ true = eq-eqb (inode.number % 32) 0 (by_32 places inode.number sound mark) in
    rw (none, starts s rest inode found, multiple) refl
