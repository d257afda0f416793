-- What two passes draw together, and the payloads of a pixel, whatever the order of the items.
use Rattle.std.proofs.Common.{◌≡◌, ℕ, ◌+◌, ◌==◌, ◌&&◌, if◌then◌else◌, Bool, true, false, List, [], ◌∷◌, ◌++◌, map, IsPermutation, refl, sym, ap, ap₂, subst, ◌∙◌, sum_by, arith}
use Rattle.std.specs.List.{filter}
use Rattle.std.proofs.lemmas.List.Sums.{sum_by-cons}
use Rattle.std.proofs.lemmas.List.Sorted.{sum_by-IsPermutation}
use Rattle.abuf_num.specs.Counting.{times}
use Rattle.abuf_frame.specs.Draws.{Adds, Draws, payloads_at}
use Rattle.abuf_frame.specs.Steps.{united}
use Rattle.abuf_frame.specs.declared.view.Entry.{Entry}
use Rattle.abuf_frame.specs.declared.view.View.{View}
use Rattle.abuf_num.proofs.Counting.{same_times}
use Rattle.abuf_frame.proofs.Draws.{adds-append}

-- one for an item that has this pixel and this payload
abbrev is_at : ℕ → ℕ → (ℕ × ℕ) → ℕ
is_at n p x = if x.0 == p && x.1 == n then 1 else 0

-- How often a payload stands in a pixel is a sum over the items.
times_at : (n p : ℕ) (xs : List (ℕ × ℕ)) → times n (payloads_at p xs) ≡ sum_by (is_at n p) xs
times_at n p [] = refl
times_at n p (x ∷ xs) =
    elim (x.0 == p) as (λ (v : Bool). times n (map (λ (y : ℕ × ℕ). y.1) (if v then x ∷ filter (λ (y : ℕ × ℕ). y.0 == p) xs else filter (λ (y : ℕ × ℕ). y.0 == p) xs)) ≡ (if v && x.1 == n then 1 else 0) + sum_by (is_at n p) xs)
    [ true ↦ ap (λ (k : ℕ). (if x.1 == n then 1 else 0) + k) (times_at n p xs) | false ↦ omega (arith, times_at n p xs) ]
    ∙ sym (sum_by-cons (is_at n p) x xs)

-- Items in another order have the same payloads in each pixel.
pub payloads_permuted : (p : ℕ) (xs ys : List (ℕ × ℕ)) → IsPermutation xs ys → IsPermutation (payloads_at p xs) (payloads_at p ys)
payloads_permuted p xs ys h =
    same_times (payloads_at p xs) (payloads_at p ys) (λ n. times_at n p xs ∙ (sym (sum_by-IsPermutation (is_at n p) xs ys h) ∙ sym (times_at n p ys)))

-- Two passes without entries draw, and are joined: the pass then has the entries of both, and no others.
pub joined : (front back : List (ℕ × ℕ)) (l0 l1 r0 r1 v : View) → l0.entries ≡ [] → r0.entries ≡ [] → Draws front l0 l1 → Draws back r0 r1 → v ≡ united l1 r1
    → Adds (front ++ back) v.entries
joined front back l0 l1 r0 r1 v el er a b ev =
    let left : l1.entries ≡ a.added = ap (λ (u : View). u.entries) a.after ∙ ap (λ (es : List Entry). es ++ a.added) el in
    let right : r1.entries ≡ b.added = ap (λ (u : View). u.entries) b.after ∙ ap (λ (es : List Entry). es ++ b.added) er in
    subst (Adds (front ++ back)) (sym (ap (λ (u : View). u.entries) ev ∙ ap₂ ◌++◌ left right)) (adds-append front back a.added b.added a.adds b.adds)
