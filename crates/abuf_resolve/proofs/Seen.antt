-- The words of a sample that may be seen, gathered one after another.
use Rattle.std.proofs.Common.{◌≡◌, ℕ, ◌<◌, ◌≤◌, ◌⊎◌, inl, inr, true, false, All, List, [], ◌∷◌, ◌++◌, map, ℤ, refl, ap, ◌∙◌, sym, arith}
use Rattle.std.specs.List.{filter}
use Rattle.std.proofs.lemmas.Bool.{lt-ltb, le-ltb, cases_lt}
use Rattle.std.proofs.lemmas.List.Elements.{filter-append, All-head, All-tail, Contains-append_left}
use Rattle.abuf_num.specs.declared.plain.Paint.{Paint}
use Rattle.std.proofs.lemmas.List.{map-append, append-nil}
use Rattle.abuf_raster.specs.Triangle.{Triangle}
use Rattle.abuf_resolve.specs.Words.{has_sample, hides, reaches, sample_word, sample_words, AreSeen, StillSeen}

-- What reaches a number that none of a list is below is the list.
pub reaches_all : (h : ℕ) (xs : List ℕ) → All (λ x. h ≤ x) xs → filter (reaches h) xs ≡ xs
reaches_all h [] all = refl
reaches_all h (x ∷ xs) all = rw (le-ltb x h (All-head (λ y. h ≤ y) x xs all)) (ap (λ (ys : List ℕ). x ∷ ys) (reaches_all h xs (All-tail (λ y. h ≤ y) x xs all)))

-- To keep what reaches one number and then what reaches a greater one is to keep what reaches the greater.
pub reaches_greater : (m n : ℕ) (xs : List ℕ) → m ≤ n → filter (reaches n) (filter (reaches m) xs) ≡ filter (reaches n) xs
reaches_greater m n [] l = refl
reaches_greater m n (x ∷ xs) l = go (cases_lt x m) (reaches_greater m n xs l) where
  go : (x < m) ⊎ (m ≤ x) → filter (reaches n) (filter (reaches m) xs) ≡ filter (reaches n) xs → filter (reaches n) (filter (reaches m) (x ∷ xs)) ≡ filter (reaches n) (x ∷ xs)
  go (inl a) rest = rw (lt-ltb x m a, lt-ltb x n (omega arith)) rest
  go (inr a) rest = rw (le-ltb x m a, rest) refl

-- A word that hides what lies under it is the least that is seen from then on.
pub raised : (paints : List Paint) (all seen : List ℕ) (least word : ℕ) → least ≤ word → hides paints word ≡ true → AreSeen paints all seen least
    → filter (reaches word) (seen ++ word ∷ []) ≡ filter (reaches word) (all ++ word ∷ [])
raised paints all seen least word above hiding is =
    filter-append (reaches word) seen (word ∷ [])
    ∙ (ap (λ (ys : List ℕ). ys ++ filter (reaches word) (word ∷ []))
    (sym (reaches_greater least word seen above) ∙ (ap (filter (reaches word)) is.same ∙ reaches_greater least word all above))
    ∙ sym (filter-append (reaches word) all (word ∷ [])))

-- A word below the least is hidden: those that are seen without it are seen with it.
pub still_seen : (paints : List Paint) (word : ℕ) (seen : List ℕ) (least : ℕ) → word < least → StillSeen paints word seen seen least least
still_seen paints word seen least below all is = record {
  same = is.same ∙ sym (filter-append (reaches least) all (word ∷ []) ∙ rw (lt-ltb word least below) (append-nil (filter (reaches least) all)));
  there = λ some. Contains-append_left all (word ∷ []) least (is.there some);
  hiding = is.hiding;
}

module _ (os : List (ℤ × ℤ)) (tris : List Triangle) (x y k : ℕ) where
  -- The words of a sample, with one fragment more that has it,
  pub with_one : (ws : List ℕ) (w : ℕ) → has_sample k w ≡ true → sample_words os tris x y k (ws ++ w ∷ []) ≡ sample_words os tris x y k ws ++ sample_word os tris x y k w ∷ []
  with_one ws w has =
      ap (map (sample_word os tris x y k)) (filter-append (has_sample k) ws (w ∷ []))
      ∙ (map-append (sample_word os tris x y k) (filter (has_sample k) ws) (filter (has_sample k) (w ∷ []))
      ∙ rw has refl)

  -- and with one that hasn't.
  pub without_one : (ws : List ℕ) (w : ℕ) → has_sample k w ≡ false → sample_words os tris x y k (ws ++ w ∷ []) ≡ sample_words os tris x y k ws
  without_one ws w has =
      ap (map (sample_word os tris x y k)) (filter-append (has_sample k) ws (w ∷ []) ∙ rw has (append-nil (filter (has_sample k) ws)))
