-- Elements at the start of a text.
use Rattle.std.specs.Prelude.{◌≡◌, ◌<◌, ◌==◌, ◌||◌, ℕ, Bool, true, List, [], ◌∷◌, length, Option, Some, None, if◌then◌else◌}
use Rattle.std.specs.List.{list_all}
use Rattle.abuf_num.specs.Decimal.{is_negative}
use Rattle.abuf_obj.specs.Elements.{is_digit, is_slash, without_minus, spelled, from_first, from_last, vertex_of}
use Rattle.abuf_obj.specs.declared.element.Index.{Index}

-- a digit or `-`
abbrev pub is_index_byte : ℕ → Bool
is_index_byte b = is_digit b || b == 45

-- a byte of which elements are written: a digit, `-` or `/`
abbrev pub is_element_byte : ℕ → Bool
is_element_byte b = is_index_byte b || is_slash b

-- the text is an index, and these are its parts
pub record IsIndex (i : Index) (text : List ℕ) : Type 0 where
  pub some : 0 < length text
  pub bytes : list_all is_index_byte text ≡ true
  pub negative : i.negative ≡ is_negative text
  pub value : spelled (without_minus text) ≡ Some i.value

-- the vertex of an index with these parts
abbrev pub vertex_by : ℕ → Bool → ℕ → Option ℕ
vertex_by above negative value = if negative then from_last above value else from_first value

-- the vertex of the first element
abbrev pub first_vertex : ℕ → List (List ℕ) → Option ℕ
first_vertex above [] = None
first_vertex above (element ∷ elements) = vertex_of above element
