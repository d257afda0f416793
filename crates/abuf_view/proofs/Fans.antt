-- What is made of a fan's triangles, one after another, and of the triangles of faces.
use Rattle.std.proofs.Common.{◌≡◌, ◌∙◌, sym, ap, ℕ, ◌+◌, ◌-◌, ◌≤◌, List, [], ◌∷◌, ◌++◌, map, flat_map, append-nil, arith, ℤ, length, Option, Some, None}
use Rattle.std.specs.List.{range_with_len}
use Rattle.std.proofs.lemmas.List.{append_assoc, length-map, length-append}
use Rattle.abuf_num.specs.declared.plain.Paint.{Paint}
use Rattle.abuf_obj.specs.declared.face.Face.{Face}
use Rattle.abuf_obj.specs.declared.scene.Obj.{Obj}
use Rattle.abuf_obj.specs.Sound.{triangles_in}
use Rattle.abuf_scene.specs.Triangles.{Look, fan_by, paint_by, triangle, triangles_of}
use Rattle.std.proofs.lemmas.List.FromFn.{map-range_with_len_more, length-range_with_len}
use Rattle.std.proofs.lemmas.List.Sums.{sum_by-cons}
use Rattle.std.proofs.lemmas.List.Concat.{flat_map-append}

module _ {X A : Type 0} (f : X → List A) where
  -- what is made of one list and then of another is made of both
  pub both_made : (xs ys zs : List X) (now new : List A) → zs ≡ xs ++ ys → now ≡ flat_map f xs → new ≡ now ++ flat_map f ys → new ≡ flat_map f zs
  both_made xs ys zs now new all before pushed = pushed ∙ ap (λ (l : List A). l ++ flat_map f ys) before ∙ (sym (flat_map-append f xs ys) ∙ ap (flat_map f) (sym all))

  -- what is made of a list's first item stands before what is made of the later ones
  pub next_made : {Y : Type 0} (g : Y → List X) (all left later : List Y) (first : Y) (old new : List A) → left ≡ first ∷ later → new ≡ old ++ flat_map f (g first)
      → old ++ flat_map f (flat_map g left) ≡ flat_map f (flat_map g all) → new ++ flat_map f (flat_map g later) ≡ flat_map f (flat_map g all)
  next_made {Y} g all left later first old new is pushed before =
      ap (λ (l : List A). l ++ flat_map f (flat_map g later)) pushed
      ∙ (append_assoc old (flat_map f (g first)) (flat_map f (flat_map g later))
      ∙ (ap (λ (l : List A). old ++ l) (sym (flat_map-append f (g first) (flat_map g later)))
      ∙ (ap (λ (ys : List Y). old ++ flat_map f (flat_map g ys)) (sym is) ∙ before)))

  -- where no item is left, all is made
  pub all_made : {Y : Type 0} (g : Y → List X) (all left : List Y) (made : List A) → left ≡ [] → made ++ flat_map f (flat_map g left) ≡ flat_map f (flat_map g all) → made ≡ flat_map f (flat_map g all)
  all_made {Y} g all left made none before =
      sym (append-nil made) ∙ (ap (λ (ys : List Y). made ++ flat_map f (flat_map g ys)) (sym none) ∙ before)

  -- one more triangle of a fan
  pub one_more : (g : ℕ → X) (old now new : List A) (i : ℕ) (t : X) → 1 ≤ i → now ≡ old ++ flat_map f (map g (range_with_len 1 (i - 1))) → t ≡ g i → new ≡ now ++ f t
      → new ≡ old ++ flat_map f (map g (range_with_len 1 (i + 1 - 1)))
  one_more g old now new i t low before is pushed =
      let xs = map g (range_with_len 1 (i - 1)) in
      let same : i + 1 - 1 ≡ i - 1 + 1 = omega arith in
      let more : map g (range_with_len 1 (i + 1 - 1)) ≡ xs ++ g i ∷ [] = rw same (map-range_with_len_more g 1 (i - 1) i (omega arith)) in
      let made : flat_map f (map g (range_with_len 1 (i + 1 - 1))) ≡ flat_map f xs ++ f t =
      ap (flat_map f) more ∙ (flat_map-append f xs (g i ∷ []) ∙ ap (λ (l : List A). flat_map f xs ++ l) (append-nil (f (g i)) ∙ ap f (sym is))) in
      pushed ∙ (ap (λ (l : List A). l ++ f t) before ∙ (append_assoc old (flat_map f xs) (f t) ∙ ap (λ (l : List A). old ++ l) (sym made)))

-- A fan has at most two triangles fewer than corners.
fan_few : (points : List (List ℤ)) (corners : List ℕ) (paint : Option Paint) → length (fan_by points corners paint) ≤ length corners - 2
fan_few points corners None = omega arith
fan_few points corners (Some paint) = rw (length-map (range_with_len 1 (length corners - 2)) (triangle points corners paint), length-range_with_len) (omega arith)

-- faces have no more triangles than their fans
pub triangles_few : (look : Look) (obj : Obj) (faces : List Face) → length (flat_map (triangles_of look obj) faces) ≤ triangles_in faces
triangles_few look obj [] = omega arith
triangles_few look obj (face ∷ faces) =
    let sum : triangles_in (face ∷ faces) ≡ length face.corners - 2 + triangles_in faces = sum_by-cons (λ (f : Face). length f.corners - 2) face faces in
    rw (length-append (triangles_of look obj face) (flat_map (triangles_of look obj) faces))
    (omega (arith, sum, fan_few obj.points face.corners (paint_by look obj.names face.name), triangles_few look obj faces))
