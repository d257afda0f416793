-- What chunks of faces give together.
use Rattle.std.proofs.Common.{◌≡◌, ◌∙◌, sym, ap, ap₂, ◌+◌, ◌*◌, ◌<◌, ◌≤◌, ⊎_elim, ℕ, suc, List, [], ◌∷◌, ◌++◌, append-nil, flat_map, take, drop, take-append-drop, length, get_or, map, Result, IfOk, Ok, Err, arith, refl, subst}
use Rattle.std.proofs.lemmas.List.{append_assoc, drop-drop, length-drop, length_push, get_or_append_left, get_or_push}
use Rattle.std.proofs.lemmas.Bool.{cases_lt}
use Rattle.std.proofs.lemmas.List.Concat.{flat_map-append}
use Rattle.abuf_num.specs.declared.plain.Paint.{Paint}
use Rattle.abuf_num.specs.declared.list.NoMemory.{NoMemory}
use Rattle.abuf_raster.specs.Triangle.{Triangle as OnScreen}
use Rattle.abuf_obj.specs.declared.face.Face.{Face}
use Rattle.abuf_obj.specs.declared.scene.Obj.{Obj}
use Rattle.abuf_scene.specs.Triangles.{Look, triangles_of}
use Rattle.abuf_scene.specs.declared.triangles.Triangle.{Triangle}
use Rattle.abuf_view.specs.declared.near_plane.EyeTriangle.{EyeTriangle}
use Rattle.abuf_view.specs.declared.primitive_lists.PrimitiveLists.{PrimitiveLists}
use Rattle.abuf_view.specs.declared.chunks.FaceChunk.{FaceChunk}
use Rattle.abuf_view.specs.declared.eye.Eye.{Eye}
use Rattle.abuf_view.specs.Eye.{clipped_by, on_screen_by}
use Rattle.abuf_view.specs.Chunks.{IsFaceChunk, AreFaceChunks, before, together}

-- Nothing before the chunks changes nothing.
pub before_none : (none : PrimitiveLists) (rest : Result PrimitiveLists NoMemory) → none.tris ≡ [] → none.paints ≡ [] → before none rest ≡ rest
before_none none (Ok more) t p = λ i. Ok (record { tris = t i ++ more.tris; paints = p i ++ more.paints })
before_none none (Err fault) t p = refl

-- One more chunk that was made.
pub one_more : (old new made : PrimitiveLists) (chunks rest : List (Result PrimitiveLists NoMemory)) (chunk : Result PrimitiveLists NoMemory) → chunks ≡ chunk ∷ rest → chunk ≡ Ok made
    → new.tris ≡ old.tris ++ made.tris → new.paints ≡ old.paints ++ made.paints → before new (together rest) ≡ before old (together chunks)
one_more old new made chunks rest chunk is ok t p =
    go (together rest) ∙ sym (ap (λ (l : List (Result PrimitiveLists NoMemory)). before old (together l)) (is ∙ ap (λ (r : Result PrimitiveLists NoMemory). r ∷ rest) ok)) where
      go : (more : Result PrimitiveLists NoMemory) → before new more ≡ before old (before made more)
      go (Ok more) =
          let tris = ap (λ (l : List OnScreen). l ++ more.tris) t ∙ append_assoc old.tris made.tris more.tris in
          let paints = ap (λ (l : List Paint). l ++ more.paints) p ∙ append_assoc old.paints made.paints more.paints in
          λ i. Ok (record { tris = tris i; paints = paints i })
      go (Err fault) = refl

-- No chunk is left.
pub at_end : (now : PrimitiveLists) (rest : List (Result PrimitiveLists NoMemory)) → length rest ≡ 0 → before now (together rest) ≡ Ok now
at_end now [] none = λ i. Ok (record { tris = append-nil now.tris i; paints = append-nil now.paints i })
at_end now (chunk ∷ rest) none = absurd (omega arith)

module _ (look : Look) (obj : Obj) (eye : Eye) where
  -- The first worker has the first faces.
  first_chunk : (per_chunk : ℕ) (faces : List Face) (chunk : Result PrimitiveLists NoMemory) (chunks : List (Result PrimitiveLists NoMemory))
      → AreFaceChunks look obj eye per_chunk faces (chunk ∷ chunks) → IsFaceChunk look obj eye (take per_chunk faces) chunk
  first_chunk per_chunk faces chunk chunks are =
      let start : 0 * per_chunk ≡ 0 = omega arith in
      subst (λ (k : ℕ). IsFaceChunk look obj eye (take per_chunk (drop k faces)) chunk) start (are.each 0 chunk (omega arith))

  -- The others have the faces after them.
  later_chunks : (per_chunk : ℕ) (faces : List Face) (chunk : Result PrimitiveLists NoMemory) (chunks : List (Result PrimitiveLists NoMemory))
      → AreFaceChunks look obj eye per_chunk faces (chunk ∷ chunks) → AreFaceChunks look obj eye per_chunk (drop per_chunk faces) chunks
  later_chunks per_chunk faces chunk chunks are = record {
    all = omega (arith, are.all, length-drop per_chunk faces);
    each = λ n d l.
        let next : suc n * per_chunk ≡ per_chunk + n * per_chunk = omega arith in
        let same : drop (suc n * per_chunk) faces ≡ drop (n * per_chunk) (drop per_chunk faces) = ap (λ (k : ℕ). drop k faces) next ∙ sym (drop-drop (n * per_chunk) per_chunk faces) in
        subst (λ (fs : List Face). IsFaceChunk look obj eye (take per_chunk fs) (get_or chunks n d)) same (are.each (suc n) d (omega (arith, l)));
  }

  -- No chunks are those of no faces.
  no_faces : (faces : List Face) (per_chunk : ℕ) → length faces ≤ 0 * per_chunk → faces ≡ []
  no_faces [] per_chunk few = refl
  no_faces (face ∷ faces) per_chunk few = absurd (omega (arith, few))

  -- What is made of two chunks of faces, one after another, is what is made of both.
  both_made : {A : Type 0} (g : Triangle → List A) (xs ys : List Face) → flat_map g (flat_map (triangles_of look obj) xs) ++ flat_map g (flat_map (triangles_of look obj) ys) ≡ flat_map g (flat_map (triangles_of look obj) (xs ++ ys))
  both_made g xs ys =
      sym (ap (flat_map g) (flat_map-append (triangles_of look obj) xs ys)
      ∙ flat_map-append g (flat_map (triangles_of look obj) xs) (flat_map (triangles_of look obj) ys))

  -- A chunk that was made, and what those after it give, are that of both.
  both : (xs ys : List Face) (made : PrimitiveLists) (rest : Result PrimitiveLists NoMemory) → IsFaceChunk look obj eye xs (Ok made) → IsFaceChunk look obj eye ys rest → IsFaceChunk look obj eye (xs ++ ys) (before made rest)
  both xs ys made (Ok more) front back = record {
    tris = ap₂ (λ (a b : List OnScreen). a ++ b) front.tris back.tris ∙ both_made (λ (t : Triangle). map (on_screen_by eye) (clipped_by eye t)) xs ys;
    paints = ap₂ (λ (a b : List Paint). a ++ b) front.paints back.paints ∙ both_made (λ (t : Triangle). map (λ (c : EyeTriangle). t.paint) (clipped_by eye t)) xs ys;
  }
  both xs ys made (Err fault) front back = record { tris = tt; paints = tt }

  -- The chunks together are that of all faces.
  pub all_face_chunks : (per_chunk : ℕ) (faces : List Face) (chunks : List (Result PrimitiveLists NoMemory)) → AreFaceChunks look obj eye per_chunk faces chunks → IsFaceChunk look obj eye faces (together chunks)
  all_face_chunks per_chunk faces [] are = rw (no_faces faces per_chunk are.all) (record { tris = refl; paints = refl })
  all_face_chunks per_chunk faces (Ok made ∷ chunks) are =
      subst (λ (fs : List Face). IsFaceChunk look obj eye fs (together (Ok made ∷ chunks))) (take-append-drop per_chunk faces)
      (both (take per_chunk faces) (drop per_chunk faces) made (together chunks) (first_chunk per_chunk faces (Ok made) chunks are) (all_face_chunks per_chunk (drop per_chunk faces) chunks (later_chunks per_chunk faces (Ok made) chunks are)))
  all_face_chunks per_chunk faces (Err fault ∷ chunks) are = record { tris = tt; paints = tt }

  -- So is what is answered.
  pub answered : (faces : List Face) (whole result : Result PrimitiveLists NoMemory) → IsFaceChunk look obj eye faces whole → IfOk result (λ made. whole ≡ Ok made) → IsFaceChunk look obj eye faces result
  answered faces whole (Ok made) are is = subst (IsFaceChunk look obj eye faces) is are
  answered faces whole (Err fault) are is = record { tris = tt; paints = tt }

-- One chunk more of faces that are cut.
pub cut_more : (p : ℕ) (faces : List Face) (chunks new : List FaceChunk) (chunk : FaceChunk) → new ≡ chunks ++ chunk ∷ []
    → ((n : ℕ) (d : FaceChunk) → n < length chunks → (get_or chunks n d).faces ≡ take p (drop (n * p) faces)) → chunk.faces ≡ take p (drop (length chunks * p) faces)
    → (n : ℕ) (d : FaceChunk) → n < length new → (get_or new n d).faces ≡ take p (drop (n * p) faces)
cut_more p faces chunks new chunk is each last n d within =
    let few : length new ≡ length chunks + 1 = ap length is ∙ length_push chunks chunk in
    ap (λ (rs : List FaceChunk). (get_or rs n d).faces) is
    ∙ ⊎_elim (λ (h : n < length chunks). ap (λ (r : FaceChunk). r.faces) (get_or_append_left chunks (chunk ∷ []) d n h) ∙ each n d h)
    (λ (h : length chunks ≤ n). let e : length chunks ≡ n = omega (arith, few, within) in
    ap (λ (r : FaceChunk). r.faces) (get_or_push chunks chunk d n e) ∙ (last ∙ ap (λ (k : ℕ). take p (drop (k * p) faces)) e)) (cases_lt n (length chunks))
