-- Faces whose names have materials, and their triangles.
use Rattle.std.proofs.Common.{◌≡◌, ◌∙◌, sym, ap, refl, ℕ, zero, suc, ◌+◌, ◌*◌, ◌-◌, ◌<◌, ℤ, Bool, true, false, cond, is_none, is_some, map, All, List, [], ◌∷◌, length, flat_map, find, option_map, slice_index_or, Option, Some, None, arith}
use Rattle.std.specs.Prelude.{IfSome}
use Rattle.std.specs.List.{range_with_len, list_all}
use Rattle.std.proofs.lemmas.List.{get_or-map, length-map, length-append}
use Rattle.std.proofs.lemmas.List.Folds.{list_all_at}
use Rattle.std.proofs.lemmas.List.FromFn.{length-range_with_len}
use Rattle.std.proofs.lemmas.List.Elements.{All-nil, All-head, All-tail, All-append, All-map}
use Rattle.abuf_num.specs.declared.plain.Paint.{Paint}
use Rattle.abuf_obj.specs.declared.face.Face.{Face}
use Rattle.abuf_obj.specs.declared.scene.Obj.{Obj}
use Rattle.abuf_obj.specs.FaceRows.{corners_of}
use Rattle.abuf_obj.specs.Sound.{IsFace, IsInRange}
use Rattle.abuf_scene.specs.Triangles.{Look, fan_by, is_unknown, paint_by, triangle, triangles_of, IsTriangleInRange}

-- A paint that is there is not missing.
pub seen_known : (mine given : Option Paint) → mine ≡ given → is_some mine ≡ true → is_none given ≡ false
seen_known mine None same some = absurd (let e : false ≡ true = sym (ap is_some same) ∙ some in cc)
seen_known mine (Some paint) same some = refl

module _ (look : Look) (names : List (List ℕ)) where
  -- A face with a known material isn't the first of those whose material is unknown.
  pub next_known : (face : Face) (left later : List Face) → left ≡ face ∷ later → is_unknown look names face ≡ false → find (is_unknown look names) later ≡ find (is_unknown look names) left
  next_known face left later is known = sym (ap (find (is_unknown look names)) is ∙ ap (λ (b : Bool). cond b (Some face) (find (is_unknown look names) later)) known)

  module _ (all : list_all is_some (map look names) ≡ true) where
    -- Where each name has a material, so has that of a face.
    known_name : (name : Option ℕ) → IfSome name (λ n. n < length names) → is_none (paint_by look names name) ≡ false
    known_name None within = refl
    known_name (Some n) within = go (look (slice_index_or names n [])) refl where
      go : (found : Option Paint) → look (slice_index_or names n []) ≡ found → is_none found ≡ false
      go (Some paint) is = refl
      go None is = absurd (
          let missing : is_some (slice_index_or (map look names) n None) ≡ false = ap is_some (get_or-map look names n [] None within ∙ is) in
          let e : true ≡ false = sym all ∙ list_all_at is_some (map look names) n None (omega (arith, length-map names look, within)) missing in
          cc)

    -- So no face has an unknown one.
    pub none_unknown : (points : ℕ) (faces : List Face) → All (IsFace points (length names)) faces → find (is_unknown look names) faces ≡ None
    none_unknown points [] fine = refl
    none_unknown points (face ∷ faces) fine =
        let P : Face → Type 0 = IsFace points (length names) in
        sym (next_known face (face ∷ faces) faces refl (known_name face.name (All-head P face faces fine).name)) ∙ none_unknown points faces (All-tail P face faces fine)

-- Where nothing is made of the first, there is none.
pub none_found : (found : Option Face) → option_map (λ (face : Face). face.line) found ≡ None → found ≡ None
none_found None none = refl
none_found (Some face) none = absurd (let e : Some face.line ≡ None = none in cc)

-- Where there is no first, the one before isn't it.
none_both : (b : Bool) (face : Face) (more : Option Face) → cond b (Some face) more ≡ None → (b ≡ false) × (more ≡ None)
none_both true face more none = absurd (let e : Some face ≡ None = none in cc)
none_both false face more none = (refl, none)

-- A fan with a paint has two triangles fewer than corners.
fan_full : (points : List (List ℤ)) (corners : List ℕ) (paint : Option Paint) → is_none paint ≡ false → length (fan_by points corners paint) ≡ length corners - 2
fan_full points corners None known = absurd (let e : true ≡ false = known in cc)
fan_full points corners (Some paint) known = length-map (range_with_len 1 (length corners - 2)) (triangle points corners paint) ∙ length-range_with_len 1 (length corners - 2)

-- Faces with known materials have two triangles fewer each than they have corners.
pub counted : (look : Look) (obj : Obj) (points : ℕ) (faces : List Face) → All (IsFace points (length obj.names)) faces → find (is_unknown look obj.names) faces ≡ None
    → length (flat_map (triangles_of look obj) faces) + 2 * length faces ≡ corners_of faces
counted look obj points [] fine known = omega arith
counted look obj points (face ∷ faces) fine known =
    let P : Face → Type 0 = IsFace points (length obj.names) in
    let both = none_both (is_unknown look obj.names face) face (find (is_unknown look obj.names) faces) known in
    let more = counted look obj points faces (All-tail P face faces fine) both.1 in
    let own = fan_full obj.points face.corners (paint_by look obj.names face.name) both.0 in
    omega (arith, length-append (triangles_of look obj face) (flat_map (triangles_of look obj) faces), own, more, (All-head P face faces fine).three)

module _ (points : List (List ℤ)) where
  -- A point that is looked up is in range where all are.
  point_near : (ps : List (List ℤ)) → All IsInRange ps → (i : ℕ) → IsInRange (slice_index_or ps i [])
  point_near [] near i = All-nil _
  point_near (p ∷ ps) near zero = All-head IsInRange p ps near
  point_near (p ∷ ps) near (suc i) = point_near ps (All-tail IsInRange p ps near) i

  -- So is each triangle of a fan,
  fan_near : All IsInRange points → (corners : List ℕ) (paint : Option Paint) → All IsTriangleInRange (fan_by points corners paint)
  fan_near near corners None = All-nil IsTriangleInRange
  fan_near near corners (Some paint) =
      All-map IsTriangleInRange (triangle points corners paint) (range_with_len 1 (length corners - 2)) (λ i d within. (point_near points near _, point_near points near _, point_near points near _))

-- and each of all faces.
pub all_near : (look : Look) (obj : Obj) → All IsInRange obj.points → (faces : List Face) → All IsTriangleInRange (flat_map (triangles_of look obj) faces)
all_near look obj near [] = All-nil IsTriangleInRange
all_near look obj near (face ∷ faces) =
    All-append IsTriangleInRange (triangles_of look obj face) (flat_map (triangles_of look obj) faces) (fan_near obj.points near face.corners (paint_by look obj.names face.name)) (all_near look obj near faces)
