-- Chunks of faces, and what is made of each.
use Rattle.std.specs.Prelude.{◌≡◌, ℕ, ◌*◌, ◌<◌, ◌≤◌, List, [], ◌∷◌, ◌++◌, take, drop, length, slice_index_or, flat_map, Result, Ok, Err, IfOk}
use Rattle.abuf_num.specs.declared.list.NoMemory.{NoMemory}
use Rattle.abuf_obj.specs.declared.face.Face.{Face}
use Rattle.abuf_obj.specs.declared.scene.Obj.{Obj}
use Rattle.abuf_scene.specs.Triangles.{Look, triangles_of}
use Rattle.abuf_view.specs.Eye.{tris_by, paints_by}
use Rattle.abuf_view.specs.declared.chunks.FaceChunk.{FaceChunk}
use Rattle.abuf_view.specs.declared.eye.Eye.{Eye}
use Rattle.abuf_view.specs.declared.primitive_lists.PrimitiveLists.{PrimitiveLists}

-- All faces in their order, in chunks of so many.
pub record AreCut (per_chunk : ℕ) (faces : List Face) (chunks : List FaceChunk) : Type 0 where
  pub all : length faces ≤ length chunks * per_chunk
  pub each : (n : ℕ) (d : FaceChunk) → n < length chunks → (slice_index_or chunks n d).faces ≡ take per_chunk (drop (n * per_chunk) faces)

module _ (look : Look) (obj : Obj) (eye : Eye) where
  -- What a worker gives of a chunk of the file's faces, where memory doesn't run out: all their primitives.
  pub record IsFaceChunk (faces : List Face) (chunk : Result PrimitiveLists NoMemory) : Type 0 where
    pub tris : IfOk chunk (λ p. p.tris ≡ tris_by eye (flat_map (triangles_of look obj) faces))
    pub paints : IfOk chunk (λ p. p.paints ≡ paints_by eye (flat_map (triangles_of look obj) faces))

  -- The chunks of all faces in their order, each of so many faces.
  pub record AreFaceChunks (per_chunk : ℕ) (faces : List Face) (chunks : List (Result PrimitiveLists NoMemory)) : Type 0 where
    pub all : length faces ≤ length chunks * per_chunk
    pub each : (n : ℕ) (d : Result PrimitiveLists NoMemory) → n < length chunks → IsFaceChunk (take per_chunk (drop (n * per_chunk) faces)) (slice_index_or chunks n d)

-- A chunk that was made, before what those after it give: the primitives of both.
abbrev pub before : PrimitiveLists → Result PrimitiveLists NoMemory → Result PrimitiveLists NoMemory
before made (Ok more) = Ok (record { tris = made.tris ++ more.tris; paints = made.paints ++ more.paints })
before made (Err fault) = Err fault

-- The chunks together: all primitives in their order, if no chunk lacked memory.
abbrev pub together : List (Result PrimitiveLists NoMemory) → Result PrimitiveLists NoMemory
together [] = Ok (record { tris = []; paints = [] })
together (Ok made ∷ chunks) = before made (together chunks)
together (Err fault ∷ chunks) = Err fault
