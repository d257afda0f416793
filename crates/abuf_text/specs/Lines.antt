-- The lines of a text file, as Wavefront OBJ and MTL have them: each ends at a line feed.
use Rattle.std.specs.Prelude.{◌==◌, ℕ, List, [], ◌∷◌, if◌then◌else◌}

-- a byte in front of the first line
abbrev pub in_front : ℕ → List (List ℕ) → List (List ℕ)
in_front b [] = (b ∷ []) ∷ []
in_front b (line ∷ lines) = (b ∷ line) ∷ lines

-- the lines, without their line feeds (10); bytes behind the last line feed are a line too
unfoldable pub lines : List ℕ → List (List ℕ)
lines [] = []
lines (b ∷ rest) = if b == 10 then [] ∷ lines rest else in_front b (lines rest)
