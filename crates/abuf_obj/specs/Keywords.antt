-- The keywords of an OBJ file. Wavefront OBJ has many; this profile reads four, refuses those that
-- change what other lines mean, and passes over every other.
use Rattle.std.specs.Prelude.{◌&&◌, ℕ, Bool, nat_le, List, [], ◌∷◌, codes, if◌then◌else◌}
use Rattle.std.specs.List.{list_any, list_all}
use Rattle.std.specs.Str.{bytes_eq}
use Rattle.abuf_obj.specs.declared.keyword.Keyword.{Keyword}
use Rattle.abuf_obj.specs.declared.keyword.Keyword.TheVariants as keyword

-- the keywords that are refused by name, most of them of free-form curves and surfaces
abbrev pub refused : List (List ℕ)
refused =
    codes "cstype" ∷ codes "deg" ∷ codes "bmat" ∷ codes "step" ∷ codes "curv" ∷ codes "curv2" ∷ codes "surf" ∷ codes "parm"
    ∷ codes "trim" ∷ codes "hole" ∷ codes "scrv" ∷ codes "sp" ∷ codes "end" ∷ codes "con" ∷ codes "call" ∷ []

-- a visible ASCII character
abbrev pub is_graphic : ℕ → Bool
is_graphic b = nat_le 33 b && nat_le b 126

-- what kind of line a keyword begins; case matters
abbrev pub named : List ℕ → Keyword
named token =
    if bytes_eq token (codes "v") then keyword.Vertex
    else (if bytes_eq token (codes "f") then keyword.Face
    else (if bytes_eq token (codes "usemtl") then keyword.Material
    else (if bytes_eq token (codes "mtllib") then keyword.Library
    else (if list_any (bytes_eq token) refused then keyword.Refused
    else (if list_all is_graphic token then keyword.Passed else keyword.Refused)))))

-- the kind of a line that says this; a blank line says nothing and is passed over
abbrev pub keyword_of : List (List ℕ) → Keyword
keyword_of [] = keyword.Passed
keyword_of (token ∷ arguments) = named token
