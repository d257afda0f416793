-- The chunks of numbers that were taken.
use Rattle.std.proofs.Common.{◌≡◌, ℕ, zero, suc, ◌+◌, ◌-◌, ◌*◌, ◌<◌, ◌≤◌, Bool, cond, ℤ, List, [], ◌∷◌, ◌++◌, length, take, drop, sym, refl, ap, ◌∙◌, subst, arith, eq-eqb, ⊎_elim, IsPermutation, All, min, append_assoc, append-nil}
use Rattle.std.proofs.lemmas.Bool.{cases_lt}
use Rattle.std.proofs.Math.Nat.{mul-le-mul, le_refl}
use Rattle.std.specs.List.{flat_map, range_with_len}
use Rattle.std.proofs.lemmas.List.{length-take, length-drop, nil_from_length, take_all}
use Rattle.std.proofs.lemmas.List.Folds.{drop_split}
use Rattle.std.proofs.lemmas.List.Elements.{All-head, All-tail}
use Rattle.std.proofs.lemmas.Grind.{flat_map-append}
use Rattle.std.proofs.lemmas.List.Sorted.{IsPermutation-refl, IsPermutation-trans, IsPermutation-append, IsPermutation-append_comm, IsPermutation-append_right}
use Rattle.abuf_raster.specs.Region.{Region}
use Rattle.abuf_raster.specs.Triangle.{Triangle}
use Rattle.abuf_num.specs.Counting.{below, times}
use Rattle.abuf_num.proofs.Counting.{times-append, times_first, below_from, split_at, none_in}
use Rattle.abuf_fan.specs.Chunks.{fragments_of, chunk_fragments, chunks_of}

-- Lists of the same numbers lead to the same items, in some order.
pub flat_same : {A : Type 0} (f : ℕ → List A) (xs ys : List ℕ) → ((n : ℕ) → times n xs ≡ times n ys) → IsPermutation (flat_map f xs) (flat_map f ys)
flat_same f [] ys h = subst (λ (l : List ℕ). IsPermutation (flat_map f []) (flat_map f l)) (sym (none_in ys (λ n. sym (h n)))) (IsPermutation-refl (flat_map f []))
flat_same {A} f (x ∷ xs) ys h = let t = ap (λ (b : Bool). cond {A = ℕ} b 1 0) (eq-eqb x x refl) in let a = h x in let s = split_at x ys (omega arith) in
    let rest : IsPermutation (flat_map f xs) (flat_map f (s.0 ++ s.1)) = flat_same f xs (s.0 ++ s.1) (λ n. let b = h n in let c = ap (times n) s.2 in let d = times-append n s.0 (x ∷ s.1) in let e = times-append n s.0 s.1 in omega arith) in
    let f0 : List A = flat_map f s.0 in let f1 : List A = flat_map f s.1 in
    let one : IsPermutation (f x ++ flat_map f xs) (f x ++ (f0 ++ f1)) = subst (λ (l : List A). IsPermutation (f x ++ flat_map f xs) (f x ++ l)) (flat_map-append f s.0 s.1) (IsPermutation-append_right (f x) (flat_map f xs) (flat_map f (s.0 ++ s.1)) rest) in
    let two : IsPermutation (f x ++ (f0 ++ f1)) (f0 ++ (f x ++ f1)) = subst (λ (l : List A). IsPermutation l (f0 ++ (f x ++ f1))) (append_assoc (f x) f0 f1) (subst (λ (l : List A). IsPermutation ((f x ++ f0) ++ f1) l) (append_assoc f0 (f x) f1) (IsPermutation-append (f x ++ f0) (f0 ++ f x) f1 f1 (IsPermutation-append_comm (f x) f0) (IsPermutation-refl f1))) in
    subst (λ (l : List A). IsPermutation (f x ++ flat_map f xs) l) (sym (ap (flat_map f) s.2 ∙ flat_map-append f s.0 (x ∷ s.1))) (IsPermutation-trans (f x ++ flat_map f xs) (f x ++ (f0 ++ f1)) (f0 ++ (f x ++ f1)) one two)

module _ (ts : List Triangle) (os : List (ℤ × ℤ)) (r : Region) (order : List ℕ) where
  abbrev items : List ℕ → List (ℕ × ℕ)
  items = flat_map (fragments_of ts os r)

  abbrev chunk : ℕ → List (ℕ × ℕ)
  chunk = chunk_fragments ts os r order

  -- What is drawn from a chunk on is the chunk, and what is drawn from the next chunk on.
  one_chunk : (p : ℕ) → items (drop (64 * p) order) ≡ chunk p ++ items (drop (64 * (p + 1)) order)
  one_chunk p = let xs : List ℕ = drop (64 * p) order in let ys : List ℕ = drop (64 * (p + 1)) order in
      let w : 64 * (p + 1) - 64 * p ≡ 64 = omega arith in let cut : xs ≡ take 64 xs ++ ys = drop_split order (64 * p) (64 * (p + 1)) (omega arith) ∙ ap (λ (k : ℕ). take k xs ++ ys) w in
      ap (λ (l : List ℕ). items l) cut ∙ flat_map-append (fragments_of ts os r) (take 64 xs) ys

  -- So many chunks that follow each other, and what comes after them, are all that is drawn from the first of these chunks on.
  from_chunk : (count p : ℕ) → flat_map chunk (range_with_len p count) ++ items (drop (64 * (p + count)) order) ≡ items (drop (64 * p) order)
  from_chunk zero p = let e : p + 0 ≡ p = omega arith in ap (λ (k : ℕ). items (drop (64 * k) order)) e
  from_chunk (suc count) p = let e : p + suc count ≡ p + 1 + count = omega arith in
      append_assoc (chunk p) (flat_map chunk (range_with_len (p + 1) count)) (items (drop (64 * (p + suc count)) order))
      ∙ (ap (λ (l : List (ℕ × ℕ)). chunk p ++ l) (ap (λ (k : ℕ). flat_map chunk (range_with_len (p + 1) count) ++ items (drop (64 * k) order)) e ∙ from_chunk count (p + 1)) ∙ sym (one_chunk p))

  -- Where numbers are those below their count, each once, and the order lies in so many chunks, the chunks of the numbers are all
  -- that is drawn.
  pub taken_all : (numbers : List ℕ) → ((n : ℕ) → times n numbers ≡ below n (length numbers)) → length order ≤ 64 * length numbers → IsPermutation (flat_map (chunk_fragments ts os r order) numbers) (flat_map (fragments_of ts os r) order)
  taken_all numbers once enough = let d : ℕ = length numbers in let f = flat_same chunk numbers (range_with_len 0 d) (λ n. once n ∙ sym (times_first n d)) in
      let gone : drop (64 * (0 + d)) order ≡ [] = nil_from_length (drop (64 * (0 + d)) order) (let l = length-drop (64 * (0 + d)) order in omega arith) in
      let all : flat_map chunk (range_with_len 0 d) ≡ items order =
      sym (append-nil (flat_map chunk (range_with_len 0 d))) ∙ (sym (ap (λ (l : List ℕ). flat_map chunk (range_with_len 0 d) ++ items l) gone) ∙ from_chunk d 0) in
      subst (IsPermutation (flat_map chunk numbers)) all f

-- Where one of the numbers below their count is beyond the chunks, all triangles lie in chunks of the numbers.
pub past_all : (numbers : List ℕ) (count beyond : ℕ) → ((n : ℕ) → times n numbers ≡ below n (length numbers)) → 0 < times beyond numbers → chunks_of count ≤ beyond → count ≤ 64 * length numbers
past_all numbers count beyond once taken is = let o = once beyond in let l = below_from beyond (length numbers) (omega arith) in omega arith

-- The first 64 items, cut from a slice by its length.
pub take_chunk : {A : Type 0} (xs : List A) (n m : ℕ) → n ≡ length xs → m ≡ min n 64 → take m (take n xs) ≡ take 64 xs
take_chunk xs n m e f = ap (take m) (take_all n xs (omega arith)) ∙ ⊎_elim (λ (h : n < 64). take_all m xs (omega arith) ∙ sym (take_all 64 xs (omega arith))) (λ (h : 64 ≤ n). let g : m ≡ 64 = omega arith in ap (λ (k : ℕ). take k xs) g) (cases_lt n 64)

-- What is above all numbers of a list is above its last one.
pub under_last : (m p : ℕ) (ns : List ℕ) → All (λ n. n < m) (ns ++ p ∷ []) → p < m
under_last m p [] u = All-head (λ n. n < m) p [] u
under_last m p (n ∷ ns) u = under_last m p ns (All-tail (λ n. n < m) n (ns ++ p ∷ []) u)

-- Credit for what is left at one chunk is enough for a chunk further on.
pub chunk_room : (xs : List ℕ) (next p area credit : ℕ) → next ≤ p → length (drop (64 * next) xs) * area ≤ credit → length (take 64 (drop (64 * p) xs)) * area ≤ credit
chunk_room xs next p area credit l room = let a = length-drop (64 * next) xs in let b = length-drop (64 * p) xs in let c = length-take 64 (drop (64 * p) xs) in
    let d : length (take 64 (drop (64 * p) xs)) ≤ length (drop (64 * next) xs) = omega arith in let e = mul-le-mul d (le_refl area) in omega arith

-- What such a chunk leaves is enough for those after it.
pub rest_room : (xs : List ℕ) (next p area credit after : ℕ) → next ≤ p → length (drop (64 * next) xs) * area ≤ credit → credit ≤ after + length (take 64 (drop (64 * p) xs)) * area → length (drop (64 * (p + 1)) xs) * area ≤ after
rest_room xs next p area credit after l room few = let a = length-drop (64 * next) xs in let b = length-drop (64 * p) xs in let c = length-take 64 (drop (64 * p) xs) in let d = length-drop (64 * (p + 1)) xs in
    let e : length (take 64 (drop (64 * p) xs)) + length (drop (64 * (p + 1)) xs) ≤ length (drop (64 * next) xs) = omega arith in let f = mul-le-mul e (le_refl area) in omega arith
