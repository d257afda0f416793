-- What is wrong with the elements of a face.
use Rattle.std.specs.Prelude.{◌≡◌, ◌≤◌, ℕ, nat_lt, List, length, map, Option, Some, None, is_some, option_map, if◌then◌else◌}
use Rattle.abuf_num.specs.declared.limits.TheConstants.{MAX_ELEMENTS}
use Rattle.abuf_obj.specs.Elements.{vertices_of}
use Rattle.abuf_obj.specs.Vertices.{clamped}
use Rattle.abuf_obj.specs.declared.fault.Why.{Why}
use Rattle.abuf_obj.specs.declared.fault.Why.TheVariants as why_

-- 3 to 1024 elements, each with a vertex
abbrev pub corners_why : ℕ → List (List ℕ) → Option Why
corners_why above elements =
    if nat_lt (length elements) 3 then Some why_.TooFewElements
    else (if nat_lt MAX_ELEMENTS (length elements) then Some why_.TooManyElements
    else (if is_some (vertices_of above elements) then None else Some why_.BadIndex))

-- the list has the vertices of 3 to 1024 elements, each of which has one
pub record AreCorners (above : ℕ) (elements : List (List ℕ)) (list : List ℕ) : Type 0 where
  pub least : 3 ≤ length elements
  pub most : length elements ≤ MAX_ELEMENTS
  pub count : length list ≡ length elements
  pub value : Some list ≡ option_map (map clamped) (vertices_of above elements)
  pub sound : corners_why above elements ≡ None
