-- What reading a line leaves of the materials so far.
use Rattle.std.specs.Prelude.{◌≡◌, [], ℕ, List, Option, Some, None, option_map, slice_index_or, is_some, map, reverse, if◌then◌else◌}
use Rattle.std.specs.Str.{bytes_eq}
use Rattle.abuf_text.specs.Statement.{statement, arguments}
use Rattle.abuf_text.specs.Rest.{rest}
use Rattle.abuf_text.specs.Names.{index_of, with_names}
use Rattle.abuf_mtl.specs.Said.{Said, said, said_by, keyword_of, name, colour, alpha, nothing}
use Rattle.abuf_mtl.specs.Fault.{why_by, names_by, names_on, fault_from}
use Rattle.abuf_mtl.specs.Material.{paint_of, first_of, search_from}
use Rattle.abuf_mtl.specs.declared.keyword.Keyword.{Keyword}
use Rattle.abuf_num.specs.declared.plain.Paint.{Paint}
use Rattle.abuf_mtl.specs.declared.reader.MtlReader.{MtlReader}

-- the paint of each name
abbrev pub Look : Type 0
Look = List ℕ → Option Paint

-- the paint beside the name
abbrev pub paint_at : List (List ℕ) → List Paint → Look
paint_at names paints n = option_map (λ k. slice_index_or paints k (paint_of None None)) (index_of n names)

abbrev pub look : MtlReader → Look
look r = paint_at r.names r.paints.items

-- the name of the material that is open
abbrev pub current : MtlReader → Option (List ℕ)
current r = option_map (λ k. slice_index_or r.names k []) r.begun

-- a name begins anew
abbrev pub StartsName : Look → Look → List ℕ → Type 0
StartsName old new n = (other : List ℕ) → new other ≡ (if bytes_eq n other then Some (paint_of None None) else old other)

-- a name's paint changes
abbrev pub ChangesName : (Paint → Paint) → Look → Look → List ℕ → Type 0
ChangesName change old new n = (other : List ℕ) → new other ≡ (if bytes_eq n other then option_map change (old other) else old other)

abbrev pub with_colour : List ℕ → Paint → Paint
with_colour c paint = record paint { colour = c }

abbrev pub with_alpha : ℕ → Paint → Paint
with_alpha a paint = record paint { alpha = a }

-- a material is open, and its paint changes
pub record Changes (change : Paint → Paint) (old new : MtlReader) : Type 0 where
  pub n : List ℕ
  pub before : current old ≡ Some n
  pub after : current new ≡ Some n
  pub changes : ChangesName change (look old) (look new) n

abbrev pub Says : MtlReader → MtlReader → Said → Type 0
Says old new (name n) = StartsName (look old) (look new) n × (current new ≡ Some n)
Says old new (colour c) = Changes (with_colour c) old new
Says old new (alpha a) = Changes (with_alpha a) old new
Says old new nothing = new ≡ old

pub record TakesBy (keyword : Keyword) (values : List (List ℕ)) (text : List ℕ) (old new : MtlReader) : Type 0 where
  pub sound : why_by old.names (is_some old.begun) keyword values text ≡ None
  pub says : Says old new (said_by keyword values text)
  pub names : new.names ≡ with_names old.names (names_by keyword text)

abbrev pub TakesLine : List ℕ → MtlReader → MtlReader → Type 0
TakesLine line old new = TakesBy (keyword_of (statement line)) (arguments line) (rest line) old new

-- all lines of a library were taken
pub record ReadsAll (lines : List (List ℕ)) (old new : MtlReader) : Type 0 where
  pub sound : fault_from old.names [] lines ≡ None
  pub names : new.names ≡ with_names old.names (names_on lines)
  pub paints : (n : List ℕ) → look new n ≡ first_of (search_from n None None (reverse (map said lines))) (look old n)
