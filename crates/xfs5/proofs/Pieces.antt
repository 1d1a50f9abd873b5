-- The bytes of an inode and of a superblock, piece after piece.
use Rattle.std.proofs.Common.{ℕ, ◌≡◌, List, ◌++◌, ◌∙◌, sym}
use Rattle.crc32c.specs.Register.{register_after}
use Rattle.crc32c.proofs.Registers.{after-append}

-- the way forth over four pieces is one over all of them
pub four_pieces : (y : ℕ) (a b c d : List ℕ) →
    register_after (register_after (register_after (register_after y a) b) c) d ≡ register_after y (a ++ (b ++ (c ++ d)))
four_pieces y a b c d =
    sym (after-append y a (b ++ (c ++ d)) ∙ after-append (register_after y a) b (c ++ d)
    ∙ after-append (register_after (register_after y a) b) c d)

-- and over three
pub three_pieces : (y : ℕ) (a b c : List ℕ) →
    register_after (register_after (register_after y a) b) c ≡ register_after y (a ++ (b ++ c))
three_pieces y a b c = sym (after-append y a (b ++ c) ∙ after-append (register_after y a) b c)
