-- What reading one line leaves of the scene so far.
use Rattle.std.specs.Prelude.{◌≡◌, ◌+◌, ◌++◌, ℕ, List, length, map, Option, None, if◌then◌else◌}
use Rattle.abuf_text.specs.Statement.{statement, arguments}
use Rattle.abuf_text.specs.Rest.{rest}
use Rattle.abuf_text.specs.Names.{with_names, index_of}
use Rattle.abuf_obj.specs.Keywords.{keyword_of}
use Rattle.abuf_obj.specs.Above.{Above, is_vertex, triangles_by, materials_by, libraries_by}
use Rattle.abuf_obj.specs.Faults.{why_by}
use Rattle.abuf_obj.specs.Scene.{points_by, faces_by}
use Rattle.abuf_obj.specs.Vertices.{clamped_face}
use Rattle.abuf_obj.specs.declared.keyword.Keyword.{Keyword}
use Rattle.abuf_obj.specs.declared.keyword.Keyword.TheVariants as keyword
use Rattle.abuf_obj.specs.declared.reader.ObjReader.{ObjReader}

-- what has been counted
abbrev pub counted : ObjReader → Above
counted r = record { points = r.points_above + length r.points; triangles = r.triangles; names = r.names; libraries = r.libraries; name = r.name }

-- the name that is in use behind a line
abbrev pub name_by : Keyword → List ℕ → Above → Option ℕ
name_by keyword.Material name above = index_of name (with_names above.names (materials_by keyword.Material name))
name_by _ text above = above.name

-- what is counted behind one line more
abbrev pub with_line : Keyword → List (List ℕ) → List ℕ → Above → Above
with_line word arguments text above = record {
  points = above.points + (if is_vertex word then 1 else 0);
  triangles = above.triangles + triangles_by word arguments;
  names = with_names above.names (materials_by word text);
  libraries = with_names above.libraries (libraries_by word text);
  name = name_by word text above;
}

pub record TakesBy (number : ℕ) (word : Keyword) (arguments : List (List ℕ)) (text : List ℕ) (old new : ObjReader) : Type 0 where
  pub sound : why_by (counted old) word arguments text ≡ None
  pub points : new.points ≡ old.points ++ points_by word arguments
  pub faces : new.faces ≡ old.faces ++ map clamped_face (faces_by number (counted old) word arguments)
  pub counts : counted new ≡ with_line word arguments text (counted old)

abbrev pub TakesLine : ℕ → List ℕ → ObjReader → ObjReader → Type 0
TakesLine number line old new = TakesBy number (keyword_of (statement line)) (arguments line) (rest line) old new
