-- The samples that one edge accepts, and those that three accept.
use Rattle.std.proofs.Common.{◌≡◌, ℕ, zero, suc, ◌+◌, ◌*◌, ◌^◌, ◌<◌, Bool, true, false, not, ◌&&◌, if◌then◌else◌, ℤ, pos, ◌+ℤ◌, List, bit_and, arith, ap, ap₂, refl, ◌∙◌, pow-suc, add-one}
use Rattle.std.specs.Prelude.{int_lt}
use Rattle.std.proofs.lemmas.Nat.{and_block, and_le_l}
use Rattle.abuf_raster.specs.declared.point.Point.{Point}
use Rattle.abuf_raster.specs.Triangle.{Triangle}
use Rattle.abuf_raster.specs.Values.{Numbers, sample_change, accepted_below, mask_of_values_below}
use Rattle.abuf_raster.proofs.Masks.{if_lt}

module _ (a b : Point) (os : List (ℤ × ℤ)) (n : ℤ) where
  -- A mask of k samples is below 2 ^ k.
  pub accepted-lt : (k : ℕ) → accepted_below a b os n k < 2 ^ k
  accepted-lt zero = omega arith
  accepted-lt (suc k) = omega (arith, accepted-lt k, pow-suc 2 k, if_lt (not (int_lt (n +ℤ sample_change a b os k) (pos 0))) (2 ^ k) (2 ^ k + 1) (omega arith))

  -- one sample more
  pub accepted_more : (k m : ℕ) (v : Bool) → m ≡ accepted_below a b os n k → v ≡ not (int_lt (n +ℤ sample_change a b os k) (pos 0)) → m + (if v then 2 ^ k else 0) ≡ accepted_below a b os n (k + 1)
  accepted_more k m v e f = rw add-one (rw (e, f) refl)

-- the bit on top of two masks
both_top : (k m n : ℕ) (u v : Bool) → m < 2 ^ k → n < 2 ^ k → bit_and (m + (if u then 2 ^ k else 0)) (n + (if v then 2 ^ k else 0)) ≡ bit_and m n + (if u && v then 2 ^ k else 0)
both_top k m n u v hm hn = ap₂ bit_and (top u m) (top v n) ∙ (and_block k (one u) (one v) m n hm hn ∙ both u v) where
  one : Bool → ℕ
  one true = 1
  one false = 0

  top : (w : Bool) (p : ℕ) → p + (if w then 2 ^ k else 0) ≡ one w * 2 ^ k + p
  top true p = omega arith
  top false p = omega arith

  both : (u v : Bool) → bit_and (one u) (one v) * 2 ^ k + bit_and m n ≡ bit_and m n + (if u && v then 2 ^ k else 0)
  both true true = omega arith
  both true false = omega arith
  both false true = omega arith
  both false false = omega arith

-- a mask has the samples that the three edges accept
pub three_accept : (t : Triangle) (os : List (ℤ × ℤ)) (n : Numbers) (k : ℕ) → bit_and (bit_and (accepted_below t.a t.b os n.ab k) (accepted_below t.b t.c os n.bc k)) (accepted_below t.c t.a os n.ca k) ≡ mask_of_values_below t os n k
three_accept t os n zero = refl
three_accept t os n (suc k) =
    let p = accepted-lt t.a t.b os n.ab k in
    let q = accepted-lt t.b t.c os n.bc k in
    let r = accepted-lt t.c t.a os n.ca k in
    let u : Bool = not (int_lt (n.ab +ℤ sample_change t.a t.b os k) (pos 0)) in
    let v : Bool = not (int_lt (n.bc +ℤ sample_change t.b t.c os k) (pos 0)) in
    let w : Bool = not (int_lt (n.ca +ℤ sample_change t.c t.a os k) (pos 0)) in
    ap (λ (m : ℕ). bit_and m (accepted_below t.c t.a os n.ca (suc k))) (both_top k _ _ u v p q)
    ∙ (both_top k _ _ (u && v) w (omega (arith, and_le_l (accepted_below t.a t.b os n.ab k) (accepted_below t.b t.c os n.bc k))) r
    ∙ ap (λ (m : ℕ). m + (if (u && v) && w then 2 ^ k else 0)) (three_accept t os n k))
