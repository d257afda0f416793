-- What a line of a Wavefront MTL library says: `newmtl`, `Kd` and `d` are read, all else is ignored.
use Rattle.std.specs.Prelude.{ℕ, ℤ, List, [], ◌∷◌, codes, Option, Some, None, Result, Ok, Err, if◌then◌else◌}
use Rattle.std.specs.Str.{bytes_eq}
use Rattle.abuf_num.specs.Decimal.{scaled}
use Rattle.abuf_num.specs.Paints.{channel}
use Rattle.abuf_num.specs.declared.decimal.NumFault.{NumFault}
use Rattle.abuf_text.specs.Statement.{statement, arguments}
use Rattle.abuf_text.specs.Rest.{rest}
use Rattle.abuf_mtl.specs.declared.keyword.Keyword.{Keyword}
use Rattle.abuf_mtl.specs.declared.keyword.Keyword.TheVariants as keyword

-- the kind of a line with this keyword, in which case matters
abbrev pub named : List ℕ → Keyword
named word =
    if bytes_eq word (codes "newmtl") then keyword.Material
    else (if bytes_eq word (codes "Kd") then keyword.Colour
    else (if bytes_eq word (codes "d") then keyword.Alpha else keyword.Other))

-- the kind of a line with these tokens
abbrev pub keyword_of : List (List ℕ) → Keyword
keyword_of [] = keyword.Other
keyword_of (word ∷ _) = named word

abbrev pub share_from : Result ℤ NumFault → Option ℕ
share_from (Ok value) = Some (channel value)
share_from (Err fault) = None

-- a number, of which 1 counts as 65535, clamped to 0 to 65535
abbrev pub fraction_of : List ℕ → Option ℕ
fraction_of text = share_from (scaled text 65535)

-- a colour, if each channel can be read: red, green and blue
abbrev pub colour_from : Option ℕ → Option ℕ → Option ℕ → Option (List ℕ)
colour_from (Some red) (Some green) (Some blue) = Some (red ∷ green ∷ blue ∷ [])
colour_from (Some red) (Some green) None = None
colour_from (Some red) None blue = None
colour_from None green blue = None

-- one number for all three channels
abbrev pub grey : Option ℕ → Option (List ℕ)
grey None = None
grey (Some value) = Some (value ∷ value ∷ value ∷ [])

-- the colour of a `Kd` line: three numbers, or one that stands for all three; further tokens aren't read
abbrev pub colour_of : List (List ℕ) → Option (List ℕ)
colour_of [] = None
colour_of (value ∷ []) = grey (fraction_of value)
colour_of (red ∷ green ∷ []) = None
colour_of (red ∷ green ∷ blue ∷ more) = colour_from (fraction_of red) (fraction_of green) (fraction_of blue)

-- the alpha of a `d` line: one number; further tokens aren't read
abbrev pub alpha_of : List (List ℕ) → Option ℕ
alpha_of [] = None
alpha_of (value ∷ more) = fraction_of value

-- what a line says: a material of this name begins, or the material that is open has this colour or this
-- alpha, or nothing
pub data Said : Type 0 where
  name : List ℕ → Said
  colour : List ℕ → Said
  alpha : ℕ → Said
  nothing : Said

abbrev pub said_colour : Option (List ℕ) → Said
said_colour None = nothing
said_colour (Some c) = colour c

abbrev pub said_alpha : Option ℕ → Said
said_alpha None = nothing
said_alpha (Some a) = alpha a

abbrev pub said_by : Keyword → List (List ℕ) → List ℕ → Said
said_by keyword.Material values text = name text
said_by keyword.Colour values text = said_colour (colour_of values)
said_by keyword.Alpha values text = said_alpha (alpha_of values)
said_by keyword.Other values text = nothing

abbrev pub said : List ℕ → Said
said line = said_by (keyword_of (statement line)) (arguments line) (rest line)
