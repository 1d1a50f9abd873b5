-- The bytes of an inode, piece after piece.
use Rattle.std.proofs.Common.{ℕ, ◌≡◌, ◌+◌, List, [], ◌∷◌, ◌++◌, ap, ◌∙◌, sym}
use Rattle.std.specs.Prelude.{slice_range}
use Rattle.crc32c.specs.Register.{register_after, register_before}
use Rattle.crc32c.proofs.Registers.{after-append, before-append}

-- the way back over six pieces is one over all of them
pub six_pieces : (y : ℕ) (a b c d e f : List ℕ) →
    register_before (register_before (register_before (register_before (register_before (register_before y f) e) d) c) b) a
    ≡ register_before y (a ++ (b ++ (c ++ (d ++ (e ++ f)))))
six_pieces y a b c d e f =
    sym (before-append y a (b ++ (c ++ (d ++ (e ++ f)))) ∙ ap (λ (x : ℕ). register_before x a)
    (before-append y b (c ++ (d ++ (e ++ f))) ∙ ap (λ (x : ℕ). register_before x b)
    (before-append y c (d ++ (e ++ f)) ∙ ap (λ (x : ℕ). register_before x c)
    (before-append y d (e ++ f) ∙ ap (λ (x : ℕ). register_before x d) (before-append y e f)))))

-- the six pieces of an inode
pub pieces : (y : ℕ) (s : List ℕ) (at : ℕ) →
    register_before (register_before (register_before (register_before (register_before (register_before y
    (slice_range s (at + 132) (at + 256))) (0 ∷ 0 ∷ [])) (slice_range s (at + 126) (at + 130))) (0 ∷ 0 ∷ []))
    (slice_range s at (at + 124))) (slice_range s (at + 100) (at + 104))
    ≡ register_before y (slice_range s (at + 100) (at + 104)
    ++ (slice_range s at (at + 124) ++ ((0 ∷ 0 ∷ []) ++ (slice_range s (at + 126) (at + 130)
    ++ ((0 ∷ 0 ∷ []) ++ slice_range s (at + 132) (at + 256))))))
pieces y s at =
    six_pieces y (slice_range s (at + 100) (at + 104)) (slice_range s at (at + 124)) (0 ∷ 0 ∷ [])
    (slice_range s (at + 126) (at + 130)) (0 ∷ 0 ∷ []) (slice_range s (at + 132) (at + 256))

-- the way forth over four pieces is one over all of them
pub four_pieces : (y : ℕ) (a b c d : List ℕ) →
    register_after (register_after (register_after (register_after y a) b) c) d ≡ register_after y (a ++ (b ++ (c ++ d)))
four_pieces y a b c d =
    sym (after-append y a (b ++ (c ++ d)) ∙ after-append (register_after y a) b (c ++ d)
    ∙ after-append (register_after (register_after y a) b) c d)
