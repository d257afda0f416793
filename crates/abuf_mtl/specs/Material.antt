-- The paint that a list of Wavefront MTL libraries gives a name: that of its last `newmtl` line, found by
-- a search from the end.
use Rattle.std.specs.Prelude.{◌∷◌, [], ℕ, List, map, reverse, Option, Some, None, unwrap_or, if◌then◌else◌}
use Rattle.std.specs.Str.{bytes_eq}
use Rattle.abuf_num.specs.Paints.{white}
use Rattle.abuf_text.specs.Lines.{lines}
use Rattle.abuf_mtl.specs.Said.{Said, said, name, colour, alpha, nothing}
use Rattle.abuf_num.specs.declared.plain.Paint.{Paint}

-- the first of the two that is there
abbrev pub first_of : {A : Type 0} → Option A → Option A → Option A
first_of None later = later
first_of (Some x) later = Some x

-- a paint of the colour and the alpha that were met, and white and opaque where none was
abbrev pub paint_of : Option (List ℕ) → Option ℕ → Paint
paint_of c a = record { colour = unwrap_or c white.colour; alpha = unwrap_or a white.alpha }

-- The search for the name n, over what the lines say from the last to the first. A section is what stands
-- after a `newmtl` line, up to the next; c and a are the colour and the alpha of its last `Kd` and `d` line,
-- as far as they were met.
abbrev pub search_from : List ℕ → Option (List ℕ) → Option ℕ → List Said → Option Paint
search_from n c a [] = None
search_from n c a (name m ∷ before) = if bytes_eq m n then Some (paint_of c a) else search_from n None None before
search_from n c a (colour x ∷ before) = search_from n (first_of c (Some x)) a before
search_from n c a (alpha x ∷ before) = search_from n c (first_of a (Some x)) before
search_from n c a (nothing ∷ before) = search_from n c a before

-- the paint of the last material of that name in a library
abbrev pub search_library : List ℕ → List ℕ → Option Paint
search_library n library = search_from n None None (reverse (map said (lines library)))

-- the paint of the last material of that name over libraries, of which the last comes first
abbrev pub search_libraries : List ℕ → List (List ℕ) → Option Paint
search_libraries n [] = None
search_libraries n (library ∷ earlier) = first_of (search_library n library) (search_libraries n earlier)

-- the paint of the last material of that name, over the libraries in order
abbrev pub material : List (List ℕ) → List ℕ → Option Paint
material libraries n = search_libraries n (reverse libraries)
