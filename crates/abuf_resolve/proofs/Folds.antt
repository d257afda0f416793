-- Folds of paints, and what an opaque paint hides.
use Rattle.std.proofs.Common.{◌≡◌, ℕ, ◌<◌, true, List, [], ◌∷◌, refl, ap, ◌∙◌, sym, take, drop, get_or, length, zero, suc, arith}
use Rattle.std.specs.List.{fold}
use Rattle.std.proofs.lemmas.List.Folds.{fold-map}
use Rattle.std.proofs.lemmas.List.Sums.{fold-append}
use Rattle.std.proofs.Common.{take-append-drop, drop-cons, slice_index}
use Rattle.std.proofs.lemmas.Bool.{eqb-true}
use Rattle.abuf_num.specs.declared.plain.Paint.{Paint}
use Rattle.abuf_resolve.specs.Over.{over, composite_over}
use Rattle.abuf_resolve.specs.Words.{folded, paint_of, hides}

-- a colour with the paint of this word laid over it
abbrev pub with_word : List Paint → List ℕ → ℕ → List ℕ
with_word paints under word = composite_over under (paint_of paints word)

-- Paints laid over word by word.
pub folded_steps : (background : List ℕ) (paints : List Paint) (words : List ℕ) → folded background paints words ≡ fold (with_word paints) background words
folded_steps background paints words = fold-map composite_over (paint_of paints) background words

-- an opaque paint lets nothing through
opaque_over : (u v colour alpha : ℕ) → alpha ≡ 65535 → over u colour alpha ≡ over v colour alpha
opaque_over u v colour alpha e = rw e (omega arith)

-- An opaque paint gives the same colour over any two colours.
opaque_hides : (u v : List ℕ) (paint : Paint) → paint.alpha ≡ 65535 → composite_over u paint ≡ composite_over v paint
opaque_hides u v paint e = λ i. part 0 i ∷ part 1 i ∷ part 2 i ∷ [] where
  part : (c : ℕ) → over (slice_index u c) (slice_index paint.colour c) paint.alpha ≡ over (slice_index v c) (slice_index paint.colour c) paint.alpha
  part c = opaque_over (slice_index u c) (slice_index v c) (slice_index paint.colour c) paint.alpha e

module _ (paints : List Paint) where
  -- So does a word whose paint is opaque.
  hidden_word : (u v : List ℕ) (word : ℕ) → hides paints word ≡ true → with_word paints u word ≡ with_word paints v word
  hidden_word u v word h = opaque_hides u v (paint_of paints word) (eqb-true (paint_of paints word).alpha 65535 h)

  -- what lies under a word that hides makes no difference
  pub hidden_fold : (u v : List ℕ) (word : ℕ) (rest : List ℕ) → hides paints word ≡ true → fold (with_word paints) u (word ∷ rest) ≡ fold (with_word paints) v (word ∷ rest)
  hidden_fold u v word rest h = ap (λ (c : List ℕ). fold (with_word paints) c rest) (hidden_word u v word h)

  -- so the fold may start there
  pub from_hidden : (background : List ℕ) (words : List ℕ) (first : ℕ) → (0 < first → (first < length words) × (hides paints (get_or words first 0) ≡ true))
      → folded background paints (drop first words) ≡ folded background paints words
  from_hidden background words zero h = refl
  from_hidden background words (suc n) h =
      let at = h (omega arith) in
      let within : suc n < length words = at.0 in
      let under : List ℕ = fold (with_word paints) background (take (suc n) words) in
      let split : drop (suc n) words ≡ get_or words (suc n) 0 ∷ drop (suc (suc n)) words = drop-cons words (suc n) 0 within in
      folded_steps background paints (drop (suc n) words)
      ∙ (ap (fold (with_word paints) background) split
      ∙ (hidden_fold background under (get_or words (suc n) 0) (drop (suc (suc n)) words) at.1
      ∙ (ap (fold (with_word paints) under) (sym split)
      ∙ (sym (fold-append (with_word paints) background (take (suc n) words) (drop (suc n) words))
      ∙ (ap (fold (with_word paints) background) (take-append-drop (suc n) words)
      ∙ sym (folded_steps background paints words))))))
