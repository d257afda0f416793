-- The primitives of a scene, triangle by triangle.
use Rattle.std.proofs.Common.{◌≡◌, ◌∙◌, sym, ap, ap₂, refl, ℕ, ◌*◌, ◌≤◌, Bool, true, false, ℤ, List, [], ◌∷◌, ◌++◌, map, flat_map, take, length, arith}
use Rattle.std.proofs.lemmas.List.{take_all, append_assoc, map-append, length-append, length-map}
use Rattle.std.proofs.lemmas.Simd.{map-map}
use Rattle.std.proofs.Math.Seq.{take-length}
use Rattle.abuf_num.specs.declared.plain.Paint.{Paint}
use Rattle.abuf_scene.specs.declared.triangles.Triangle.{Triangle}
use Rattle.abuf_raster.specs.Triangle.{Triangle as OnScreen}
use Rattle.abuf_view.specs.declared.eye.EyePoint.{EyePoint}
use Rattle.abuf_view.specs.declared.near_plane.EyeTriangle.{EyeTriangle}
use Rattle.abuf_view.specs.Camera.{Camera}
use Rattle.abuf_view.specs.NearPlane.{clip_by}
use Rattle.abuf_view.specs.declared.eye.Eye.{Eye}
use Rattle.abuf_view.specs.Eye.{eye_of, clipped_by, on_screen_by, tris_by, paints_by}
use Rattle.abuf_view.specs.Primitives.{Primitive, primitive, prims, prims_of}

-- two pushes in a row
pub both_pushed : {X A : Type 0} (f : X → A) (old mid new : List A) (xs ys zs : List X) → mid ≡ old ++ map f xs → new ≡ mid ++ map f ys → xs ++ ys ≡ zs
    → new ≡ old ++ map f zs
both_pushed f old mid new xs ys zs first second all =
    second ∙ ap (λ m. m ++ map f ys) first ∙ append_assoc old (map f xs) (map f ys) ∙ ap (λ l. old ++ l) (sym (map-append f xs ys) ∙ ap (map f) all)

module _ (k : Camera) where
  -- What is made of all triangles are the triangles of the primitives.
  pub tris_are : (ts : List Triangle) → flat_map (λ t. map (on_screen_by (eye_of k)) (clipped_by (eye_of k) t)) ts ≡ map (λ q. q.triangle) (prims k ts)
  tris_are [] = refl
  tris_are (t ∷ ts) =
      ap₂ (λ (xs ys : List OnScreen). xs ++ ys) (sym (map-map (λ (q : Primitive). q.triangle) (primitive k t.paint) (clipped_by (eye_of k) t))) (tris_are ts)
      ∙ sym (map-append (λ (q : Primitive). q.triangle) (prims_of k t) (prims k ts))

  -- And their paints.
  pub paints_are : (ts : List Triangle) → flat_map (λ t. map (λ (c : EyeTriangle). t.paint) (clipped_by (eye_of k) t)) ts ≡ map (λ q. q.paint) (prims k ts)
  paints_are [] = refl
  paints_are (t ∷ ts) =
      ap₂ (λ (xs ys : List Paint). xs ++ ys) (sym (map-map (λ (q : Primitive). q.paint) (primitive k t.paint) (clipped_by (eye_of k) t))) (paints_are ts)
      ∙ sym (map-append (λ (q : Primitive). q.paint) (prims_of k t) (prims k ts))

-- the parts of all triangles, as the eye of the camera sees them
module _ (k : Camera) (e : Eye) (is : e ≡ eye_of k) (ts us : List Triangle) (same : us ≡ ts) (i : ℕ) (all : length us ≤ i) where
  -- The triangles.
  pub all_tris : (made : List OnScreen) → made ≡ flat_map (λ t. map (on_screen_by e) (clipped_by e t)) (take i us) → made ≡ map (λ q. q.triangle) (prims k ts)
  all_tris made h =
      h ∙ (λ j. flat_map (λ (t : Triangle). map (on_screen_by (is j)) (clipped_by (is j) t)) ((take_all i us all ∙ same) j)) ∙ tris_are k ts

  -- The paints.
  pub all_paints : (made : List Paint) → made ≡ flat_map (λ t. map (λ (c : EyeTriangle). t.paint) (clipped_by e t)) (take i us) → made ≡ map (λ q. q.paint) (prims k ts)
  all_paints made h =
      h ∙ (λ j. flat_map (λ (t : Triangle). map (λ (c : EyeTriangle). t.paint) (clipped_by (is j) t)) ((take_all i us all ∙ same) j)) ∙ paints_are k ts

-- The clip table names at most two parts.
clip_few : (u v w : Bool) (m : ℤ) (a b c : EyePoint) → length (clip_by u v w m a b c) ≤ 2
clip_few true true true m a b c = omega arith
clip_few true true false m a b c = omega arith
clip_few true false true m a b c = omega arith
clip_few true false false m a b c = omega arith
clip_few false true true m a b c = omega arith
clip_few false true false m a b c = omega arith
clip_few false false true m a b c = omega arith
clip_few false false false m a b c = omega arith

-- So there are at most twice as many primitives as triangles.
pub prims_few : (k : Camera) (ts : List Triangle) → length (prims k ts) ≤ 2 * length ts
prims_few k [] = omega arith
prims_few k (t ∷ ts) =
    let one : length (prims_of k t) ≤ 2 = rw (length-map (clipped_by (eye_of k) t) (primitive k t.paint)) (clip_few _ _ _ _ _ _ _) in
    rw (length-append (prims_of k t) (prims k ts)) (omega (arith, one, prims_few k ts))

-- the parts of triangles, as the eye of the camera sees them, are those of its primitives
module _ (k : Camera) (e : Eye) (is : e ≡ eye_of k) (ts us : List Triangle) (same : us ≡ ts) where
  -- The triangles.
  pub joined_tris : (made : List OnScreen) → made ≡ tris_by e us → made ≡ map (λ q. q.triangle) (prims k ts)
  joined_tris made h = all_tris k e is ts us same (length us) (omega arith) made (h ∙ ap (tris_by e) (sym (take-length us)))

  -- The paints.
  pub joined_paints : (made : List Paint) → made ≡ paints_by e us → made ≡ map (λ q. q.paint) (prims k ts)
  joined_paints made h = all_paints k e is ts us same (length us) (omega arith) made (h ∙ ap (paints_by e) (sym (take-length us)))

-- two lists of the same primitives are at most twice as many as the triangles, and of one length
pub lengths : (k : Camera) (ts : List Triangle) (tris : List OnScreen) (paints : List Paint) → tris ≡ map (λ (q : Primitive). q.triangle) (prims k ts) → paints ≡ map (λ (q : Primitive). q.paint) (prims k ts)
    → (length tris ≤ 2 * length ts) × (length paints ≡ length tris)
lengths k ts tris paints t p =
    let a : length tris ≡ length (prims k ts) = ap length t ∙ length-map (prims k ts) (λ (q : Primitive). q.triangle) in
    let b : length paints ≡ length (prims k ts) = ap length p ∙ length-map (prims k ts) (λ (q : Primitive). q.paint) in
    (omega (arith, a, prims_few k ts), b ∙ sym a)
