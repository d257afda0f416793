-- The first fault of all: on a line, or else of a face.
use Rattle.std.proofs.Common.{◌≡◌, ◌≤◌, ◌<◌, [], ◌∷◌, ℕ, ℤ, Bool, true, false, cond, nat_le, List, length, map, find, Option, None, Some, option_map, refl, sym, ap, ◌∙◌, arith, All, ◌||◌}
use Rattle.std.specs.List.{list_any}
use Rattle.std.proofs.lemmas.List.Elements.{All-nil, All-cons}
use Rattle.std.proofs.lemmas.Bool.Decides.{nat_tests}
use Rattle.abuf_obj.specs.Faults.{fault_from, TellsFirst}
use Rattle.abuf_obj.specs.Scene.{faces_of, points_of, first_fault, is_astray, astray_line, or_astray}
use Rattle.abuf_obj.specs.Vertices.{clamped, clamped_face}
use Rattle.abuf_obj.specs.declared.face.Face.{Face}
use Rattle.abuf_obj.specs.declared.fault.ObjFault.{ObjFault}
use Rattle.abuf_obj.specs.declared.fault.ObjFault.TheVariants.{Line, Memory}

-- a fault on a line is the first one
pub first_early : (lines : List (List ℕ)) (e : ObjFault) → TellsFirst (fault_from [] lines) e → TellsFirst (first_fault lines) e
first_early lines Memory h = tt
first_early lines (Line line cause) h = rw h refl

-- where no line has a fault, the first one is of a face
pub first_late : (lines : List (List ℕ)) (found : Option ℕ) → fault_from [] lines ≡ None → found ≡ astray_line (length (points_of lines)) (faces_of lines)
    → first_fault lines ≡ or_astray None found
first_late lines found none is = rw (none, ← is) refl

clamped_by : (b : Bool) (f : Face) (xs ys : Option Face) → option_map (λ face. face.line) xs ≡ option_map (λ face. face.line) ys
    → option_map (λ face. face.line) (cond b (Some (clamped_face f)) xs) ≡ option_map (λ face. face.line) (cond b (Some f) ys)
clamped_by true f xs ys h = refl
clamped_by false f xs ys h = h

or_false : (a b : Bool) → (a || b) ≡ false → (a ≡ false) × (b ≡ false)
or_false true b h = absurd (let e : true ≡ false = h in cc)
or_false false b h = (refl, h)

none_first : (b : Bool) (f : Face) (xs : Option Face) → option_map (λ face. face.line) (cond b (Some f) xs) ≡ None → (b ≡ false) × (option_map (λ face. face.line) xs ≡ None)
none_first true f xs h = absurd (let e : Some f.line ≡ None = h in cc)
none_first false f xs h = (refl, h)

module _ (points : ℕ) (few : points ≤ 4294967295) where
  -- a vertex goes astray exactly where it does when clamped
  clamped_vertex : (vertex : ℕ) → nat_le points (clamped vertex) ≡ nat_le points vertex
  clamped_vertex vertex = grind (arith, nat_tests)

  clamped_corners : (corners : List ℕ) → list_any (λ c. nat_le points c) (map clamped corners) ≡ list_any (λ c. nat_le points c) corners
  clamped_corners [] = refl
  clamped_corners (c ∷ cs) = rw (clamped_vertex c, clamped_corners cs) refl

  pub clamped_astray : (face : Face) → is_astray points (clamped_face face) ≡ is_astray points face
  clamped_astray face = clamped_corners face.corners

  -- the first face that goes astray is the same one
  pub clamped_line : (faces : List Face) → astray_line points (map clamped_face faces) ≡ astray_line points faces
  clamped_line [] = refl
  clamped_line (f ∷ fs) = ap (λ (b : Bool). option_map (λ face. face.line) (cond b (Some (clamped_face f)) (find (is_astray points) (map clamped_face fs)))) (clamped_astray f) ∙ clamped_by (is_astray points f) f _ _ (clamped_line fs)

  -- where none does, clamping leaves each vertex as it is
  vertex_within : (vertex : ℕ) → nat_le points vertex ≡ false → clamped vertex ≡ vertex
  vertex_within vertex within = grind (arith, nat_tests)

  corners_within : (corners : List ℕ) → list_any (λ c. nat_le points c) corners ≡ false → map clamped corners ≡ corners
  corners_within [] within = refl
  corners_within (c ∷ cs) within =
      let first : nat_le points c ≡ false = (or_false (nat_le points c) _ within).0 in
      let later : list_any (λ c. nat_le points c) cs ≡ false = (or_false (nat_le points c) _ within).1 in
      ap (λ (k : ℕ). k ∷ map clamped cs) (vertex_within c first) ∙ ap (λ (ks : List ℕ). c ∷ ks) (corners_within cs later)

  corners_below : (corners : List ℕ) → list_any (λ c. nat_le points c) corners ≡ false → All (λ c. c < points) corners
  corners_below [] within = All-nil (λ (k : ℕ). k < points)
  corners_below (c ∷ cs) within =
      let first : nat_le points c ≡ false = (or_false (nat_le points c) _ within).0 in
      let below : c < points = grind (arith, nat_tests) in
      All-cons (λ (k : ℕ). k < points) c cs below (corners_below cs (or_false (nat_le points c) _ within).1)

  pub faces_within : (faces : List Face) → astray_line points faces ≡ None → map clamped_face faces ≡ faces
  faces_within [] none = refl
  faces_within (f ∷ fs) none =
      let here = none_first (is_astray points f) f (find (is_astray points) fs) none in
      ap (λ (cs : List ℕ). (record f { corners = cs }) ∷ map clamped_face fs) (corners_within f.corners here.0) ∙ ap (λ (gs : List Face). f ∷ gs) (faces_within fs here.1)

  pub faces_below : (faces : List Face) → astray_line points faces ≡ None → All (λ f. All (λ c. c < points) f.corners) faces
  faces_below [] none = All-nil (λ (g : Face). All (λ k. k < points) g.corners)
  faces_below (f ∷ fs) none =
      let here = none_first (is_astray points f) f (find (is_astray points) fs) none in
      All-cons (λ (g : Face). All (λ k. k < points) g.corners) f fs (corners_below f.corners here.0) (faces_below fs here.1)

-- what was read of all the lines: their points, and their faces with clamped vertices
module _ (all : List (List ℕ)) (points : List (List ℤ)) (faces : List Face) (few : length points ≤ 1048576) (are_points : points ≡ points_of all) (are_faces : faces ≡ map clamped_face (faces_of all)) where
  same_line : astray_line (length points) faces ≡ astray_line (length points) (faces_of all)
  same_line = ap (astray_line (length points)) are_faces ∙ clamped_line (length points) (omega arith) (faces_of all)

  -- the first face that goes astray is the first one of the definition
  pub found_of_all : (found : Option ℕ) → found ≡ astray_line (length points) faces → found ≡ astray_line (length (points_of all)) (faces_of all)
  found_of_all found is = is ∙ same_line ∙ ap (λ (ps : List (List ℤ)). astray_line (length ps) (faces_of all)) are_points

  -- where none does, the faces are those of the definition
  pub faces_of_all : astray_line (length points) faces ≡ None → faces ≡ faces_of all
  faces_of_all none = are_faces ∙ faces_within (length points) (omega arith) (faces_of all) (sym same_line ∙ none)
