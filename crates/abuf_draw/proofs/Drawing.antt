-- How far the drawing of a list of items has come.
use Rattle.std.proofs.Common.{◌≡◌, ℕ, ◌+◌, ◌≤◌, List, [], ◌∷◌, ◌++◌, length, map, All, sym, subst, arith, IsPermutation, length-append, append_assoc, append-nil}
use Rattle.std.proofs.lemmas.List.{length-map}
use Rattle.std.proofs.Math.Seq.{take-append_seam}
use Rattle.std.proofs.lemmas.List.Elements.{All-tail, All-take}
use Rattle.std.proofs.lemmas.List.Sorted.{length_permutation, IsPermutation-refl, IsPermutation-trans, IsPermutation-append, IsPermutation-append_comm, IsPermutation-append_right}
use Rattle.abuf_raster.specs.declared.region.Hit.{Hit}
use Rattle.abuf_raster.specs.Region.{Region}
use Rattle.abuf_raster.specs.Hits.{placed}
use Rattle.abuf_frame.specs.declared.view.View.{View}
use Rattle.abuf_frame.specs.Draws.{Draws}
use Rattle.abuf_frame.proofs.Draws.{draws_none, draws_then, draws_permuted, draws_credit}
use Rattle.abuf_draw.specs.Waiting.{Passes}

-- some of all items were drawn, and the rest comes later
pub record Midway (all rest : List (ℕ × ℕ)) (v w : View) : Type 0 where
  pub out : List (ℕ × ℕ)
  pub drawn : Draws out v w
  pub left : IsPermutation (out ++ rest) all

module _ (all : List (ℕ × ℕ)) (v w : View) where
  -- there is credit for the next ones
  pub midway_room : (next rest : List (ℕ × ℕ)) → Midway all (next ++ rest) v w → (most : ℕ) → length all ≤ most → most ≤ v.credit → length next ≤ w.credit
  midway_room next rest m most few enough =
      let l = length_permutation (m.out ++ (next ++ rest)) all m.left in
      let a = length-append m.out (next ++ rest) in
      let b = length-append next rest in
      let c = draws_credit m.out v w m.drawn in
      omega arith

  -- once some came to those that wait, and some of them were drawn
  pub midway_more : (waited came waits rest : List (ℕ × ℕ)) → Midway all (waited ++ (came ++ rest)) v w → (u : View) → Passes waited came waits w u → Midway all (waits ++ rest) v u
  midway_more waited came waits rest m u p =
      let xs : List (ℕ × ℕ) = m.out in let ys : List (ℕ × ℕ) = p.out in
      let inner = IsPermutation-append_right xs _ _ (simp append_assoc at (IsPermutation-append (ys ++ waits) (waited ++ came) rest rest p.same (IsPermutation-refl rest))) in
      record { out = xs ++ ys; drawn = draws_then xs ys v w u m.drawn p.drawn; left = rw append_assoc (IsPermutation-trans _ _ all inner m.left) }

-- When only those are left that wait, the others were drawn.
pub midway_ends : (waited came waits : List (ℕ × ℕ)) (v w : View) → Midway (waited ++ came) (waits ++ []) v w → Passes waited came waits v w
midway_ends waited came waits v w m = record {
  out = m.out;
  drawn = m.drawn;
  same = subst (λ (l : List (ℕ × ℕ)). IsPermutation (m.out ++ l) (waited ++ came)) (append-nil waits) m.left;
}

-- Nothing came, and nothing was drawn.
pub passes_none : (waited : List (ℕ × ℕ)) (v : View) → Passes waited [] waited v v
passes_none waited v = record { out = []; drawn = draws_none v; same = subst (IsPermutation waited) (sym (append-nil waited)) (IsPermutation-refl waited) }

-- More came, and nothing was drawn.
pub passes_waiting : (waited came waits : List (ℕ × ℕ)) (v w : View) → waits ≡ waited ++ came → w ≡ v → Passes waited came waits v w
passes_waiting waited came waits v w is same = record {
  out = [];
  drawn = subst (Draws [] v) (sym same) (draws_none v);
  same = subst (λ (l : List (ℕ × ℕ)). IsPermutation l (waited ++ came)) (sym is) (IsPermutation-refl (waited ++ came));
}

-- Those that came were drawn, and those that waited wait.
pub passes_drawn : (waited came : List (ℕ × ℕ)) (v w : View) → Draws came v w → Passes waited came waited v w
passes_drawn waited came v w d = record { out = came; drawn = d; same = IsPermutation-append_comm came waited }

-- Those that waited were drawn, and those that came wait.
pub passes_flushed : (waited came waits : List (ℕ × ℕ)) (v w u : View) → waits ≡ came → Draws waited v w → u ≡ w → Passes waited came waits v u
passes_flushed waited came waits v w u is d same = record {
  out = waited;
  drawn = subst (Draws waited v) (sym same) d;
  same = subst (λ (l : List (ℕ × ℕ)). IsPermutation (waited ++ l) (waited ++ came)) (sym is) (IsPermutation-refl (waited ++ came));
}

-- One after another.
pub passes_then : (a xs b ys d : List (ℕ × ℕ)) (v w u : View) → Passes a xs b v w → Passes b ys d w u → Passes a (xs ++ ys) d v u
passes_then a xs b ys d v w u p q =
    let m = midway_more (a ++ (xs ++ ys)) v w b ys d [] (record { out = p.out; drawn = p.drawn; left = ready }) u q in
    midway_ends a (xs ++ ys) d v u m
  where
    ready : IsPermutation (p.out ++ (b ++ (ys ++ []))) (a ++ (xs ++ ys))
    ready = simp append-nil (simp append_assoc at (IsPermutation-append (p.out ++ b) (a ++ xs) ys ys p.same (IsPermutation-refl ys)))

-- Once those that wait are drawn, all are.
pub passes_end : (came waits : List (ℕ × ℕ)) (v w u : View) → Passes [] came waits v w → Draws waits w u → Draws came v u
passes_end came waits v w u p d = draws_permuted (p.out ++ waits) came v u p.same (draws_then p.out waits v w u p.drawn d)

-- What was spent is told by how many wait.
pub passes_credit : (waited came waits : List (ℕ × ℕ)) (v w : View) → Passes waited came waits v w → w.credit + length came + length waited ≡ v.credit + length waits
passes_credit waited came waits v w p =
    let l = length_permutation (p.out ++ waits) (waited ++ came) p.same in
    let a = length-append p.out waits in let b = length-append waited came in let c = draws_credit p.out v w p.drawn in
    omega arith

-- as many items as hits
pub placed_few : (r : Region) (xs ys : List Hit) → IsPermutation xs ys → (n : ℕ) → length xs ≤ n → length (map (placed r) ys) ≤ n
placed_few r xs ys p n few = let l = length_permutation xs ys p in let m = length-map ys (placed r) in omega arith

-- What holds of two lists of hits holds of the first,
pub all_first : (P : Hit → Type 0) (xs ys : List Hit) → All P (xs ++ ys) → All P xs
all_first P xs ys h = subst (All P) (take-append_seam xs ys) (All-take P (length xs) (xs ++ ys) h)

-- and of the second.
pub all_rest : (P : Hit → Type 0) (xs ys : List Hit) → All P (xs ++ ys) → All P ys
all_rest P [] ys h = h
all_rest P (x ∷ xs) ys h = all_rest P xs ys (All-tail P x (xs ++ ys) h)
