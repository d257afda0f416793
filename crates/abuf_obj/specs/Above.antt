-- What stands above a line: counts and names over all the lines before it.
use Rattle.std.specs.Prelude.{◌-◌, ◌∷◌, [], ℕ, Bool, true, false, List, length, flat_map, count_by, sum_by, fold, option_and_then, Option, Some, None}
use Rattle.abuf_text.specs.Statement.{statement, arguments}
use Rattle.abuf_text.specs.Rest.{rest}
use Rattle.abuf_text.specs.Names.{with_names, index_of}
use Rattle.abuf_obj.specs.Keywords.{keyword_of}
use Rattle.abuf_obj.specs.declared.keyword.Keyword.{Keyword}
use Rattle.abuf_obj.specs.declared.keyword.Keyword.TheVariants as keyword

abbrev pub is_vertex : Keyword → Bool
is_vertex keyword.Vertex = true
is_vertex _ = false

-- a fan over n corners has n - 2 triangles
abbrev pub triangles_by : Keyword → List (List ℕ) → ℕ
triangles_by keyword.Face elements = length elements - 2
triangles_by _ arguments = 0

abbrev pub materials_by : Keyword → List ℕ → List (List ℕ)
materials_by keyword.Material name = name ∷ []
materials_by _ text = []

abbrev pub libraries_by : Keyword → List ℕ → List (List ℕ)
libraries_by keyword.Library name = name ∷ []
libraries_by _ text = []

-- how many `v` lines these lines have
abbrev pub points_on : List (List ℕ) → ℕ
points_on lines = count_by (λ line. is_vertex (keyword_of (statement line))) lines

-- how many triangles the fans of their `f` lines have
abbrev pub triangles_on : List (List ℕ) → ℕ
triangles_on lines = sum_by (λ line. triangles_by (keyword_of (statement line)) (arguments line)) lines

-- the names on their `usemtl` lines
abbrev pub materials_on : List (List ℕ) → List (List ℕ)
materials_on lines = flat_map (λ line. materials_by (keyword_of (statement line)) (rest line)) lines

-- the names on their `mtllib` lines
abbrev pub libraries_on : List (List ℕ) → List (List ℕ)
libraries_on lines = flat_map (λ line. libraries_by (keyword_of (statement line)) (rest line)) lines

-- the names of materials and those of libraries, each at its first appearance
abbrev pub names_of : List (List ℕ) → List (List ℕ)
names_of lines = with_names [] (materials_on lines)

abbrev pub libraries_of : List (List ℕ) → List (List ℕ)
libraries_of lines = with_names [] (libraries_on lines)

abbrev pub last_of : List (List ℕ) → Option (List ℕ)
last_of names = fold (λ earlier name. Some name) None names

-- the index, among the names, of the name on the last `usemtl` line
abbrev pub name_in_use : List (List ℕ) → Option ℕ
name_in_use lines = option_and_then (λ name. index_of name (names_of lines)) (last_of (materials_on lines))

pub record Above : Type 0 where
  pub points : ℕ
  pub triangles : ℕ
  pub names : List (List ℕ)
  pub libraries : List (List ℕ)
  pub name : Option ℕ

-- what stands above a line that has these lines before it
abbrev pub above_of : List (List ℕ) → Above
above_of before = record {
  points = points_on before;
  triangles = triangles_on before;
  names = names_of before;
  libraries = libraries_of before;
  name = name_in_use before;
}
