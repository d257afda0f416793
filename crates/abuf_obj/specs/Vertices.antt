-- Vertices in 32 bits.
use Rattle.std.specs.Prelude.{ℕ, map, min}
use Rattle.abuf_obj.specs.declared.face.Face.{Face}

-- a vertex that doesn't fit is no point's, and the last one that fits stands for it
abbrev pub clamped : ℕ → ℕ
clamped vertex = min vertex 4294967295

abbrev pub clamped_face : Face → Face
clamped_face face = record face { corners = map clamped face.corners }
