-- What holds of two lists place by place.
use Rattle.std.proofs.Common.{ℕ, zero, suc, ◌<◌, List, [], ◌∷◌, length, slice_index_or, arith}
use Rattle.std.specs.List.{AllZip}
use Rattle.abuf_resolve.specs.Words.{AreWordsAt}

-- It holds at each place.
pub zip_at : {X Y : Type 0} (R : X → Y → Type 0) (xs : List X) (ys : List Y) (i : ℕ) (d : X) (e : Y) → AllZip R xs ys → i < length xs → R (slice_index_or xs i d) (slice_index_or ys i e)
zip_at R [] [] i d e a l = absurd (omega (arith, l))
zip_at R [] (y ∷ ys) i d e a l = absurd a
zip_at R (x ∷ xs) [] i d e a l = absurd a
zip_at R (x ∷ xs) (y ∷ ys) zero d e a l = a.0
zip_at R (x ∷ xs) (y ∷ ys) (suc i) d e a l = zip_at R xs ys i d e a.1 (omega (arith, l))

-- The words at each place.
pub words_at : (items : List (ℕ × ℕ)) (places : List ℕ) (words : List (List ℕ)) (i : ℕ) (d : List ℕ) → AllZip (AreWordsAt items) places words → i < length places
    → AreWordsAt items (slice_index_or places i 0) (slice_index_or words i d)
words_at items places words i d a l = zip_at (AreWordsAt items) places words i 0 d a l
