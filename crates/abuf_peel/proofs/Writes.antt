-- Loops that write a stretch of a list.
use Rattle.std.proofs.Common.{◌≡◌, ℕ, ◌+◌, ◌<◌, ◌≤◌, ◌⊎◌, inl, inr, List, length, get_or, set, ◌∙◌, ap, subst, arith}
use Rattle.std.proofs.lemmas.Bool.{cases_lt}
use Rattle.std.proofs.lemmas.List.{length-set, get_or-set_same, get_or-set_other, get_or_default}
use Rattle.abuf_peel.specs.Rewrites.{Rewrites}

module _ {A : Type 0} (f : ℕ → A → A) where
  -- A stretch and the one next to it make one.
  pub rewrites_more : (a b c : ℕ) (xs ys zs : List A) → a ≤ b → b ≤ c → Rewrites f a b xs ys → Rewrites f b c ys zs → Rewrites f a c xs zs
  rewrites_more a b c xs ys zs h l p q = record {
    size = q.size ∙ p.size;
    inside = λ j d i k. go j d i k (cases_lt j b);
    below = λ j d i. q.below j d (omega arith) ∙ p.below j d i;
    above = λ j d i. q.above j d i ∙ p.above j d (omega arith);
  } where
    go : (j : ℕ) (d : A) → a ≤ j → j < c → (j < b) ⊎ (b ≤ j) → get_or zs j d ≡ f j (get_or xs j d)
    go j d i k (inl m) = q.below j d m ∙ p.inside j d i m
    go j d i k (inr m) = q.inside j d m k ∙ ap (f j) (p.above j d m)

  -- One item is written.
  pub rewrites_one : (i : ℕ) (xs : List A) (y d : A) → i < length xs → y ≡ f i (get_or xs i d) → Rewrites f i (i + 1) xs (set xs i y)
  rewrites_one i xs y d h e = record {
    size = length-set xs i y;
    inside = λ j v k l. let s : i ≡ j = omega arith in subst (λ (m : ℕ). get_or (set xs i y) m v ≡ f m (get_or xs m v)) s (get_or-set_same xs i y v h ∙ (e ∙ ap (f i) (get_or_default xs i d v h)));
    below = λ j v k. get_or-set_other xs i j y v (λ s. omega arith);
    above = λ j v k. get_or-set_other xs i j y v (λ s. omega arith);
  }

  -- The stretch from `a` on is one item longer.
  pub rewrites_next : (a i k : ℕ) (old xs : List A) (y d : A) → a + k ≡ i → i < length xs → y ≡ f i (get_or xs i d) → Rewrites f a (a + k) old xs → Rewrites f a (a + (k + 1)) old (set xs i y)
  rewrites_next a i k old xs y d at within e p =
      let ends : i + 1 ≡ a + (k + 1) = omega arith in
      subst (λ (m : ℕ). Rewrites f a m old (set xs i y)) ends
      (rewrites_more a i (i + 1) old xs (set xs i y) (omega arith) (omega arith) (subst (λ (m : ℕ). Rewrites f a m old xs) at p) (rewrites_one i xs y d within e))

  -- The same stretch, told otherwise.
  pub rewrites_at : (a b c d : ℕ) (xs ys : List A) → a ≡ c → b ≡ d → Rewrites f a b xs ys → Rewrites f c d xs ys
  rewrites_at a b c d xs ys h l p = subst (λ (m : ℕ). Rewrites f m d xs ys) h (subst (λ (m : ℕ). Rewrites f a m xs ys) l p)
