-- What a line says, in Wavefront OBJ and MTL: a keyword and its arguments, divided by white space.
use Rattle.std.specs.Prelude.{◌==◌, ◌||◌, ◌≡◌, ◌<◌, ℕ, Bool, false, nat_lt, List, length, filter, slice_index, drop}
use Rattle.std.specs.List.{slice_split, before_first, list_any}

-- a space, a tab or a carriage return
abbrev pub is_space : ℕ → Bool
is_space b = b == 32 || (b == 9 || b == 13)

-- the text has a byte
abbrev pub is_some_text : List ℕ → Bool
is_some_text text = nat_lt 0 (length text)

-- the tokens of a line: its longest runs of bytes that aren't spaces
unfoldable pub tokens : List ℕ → List (List ℕ)
tokens line = filter is_some_text (slice_split is_space line)

-- the token begins a comment, by `#` (35)
abbrev pub is_comment : List ℕ → Bool
is_comment token = slice_index token 0 == 35

-- the tokens up to the first that begins a comment
abbrev pub before_comment : List (List ℕ) → List (List ℕ)
before_comment tokens = before_first is_comment tokens

-- the keyword of a line and its arguments; a blank line, which has no token or begins with a comment, says nothing
abbrev pub statement : List ℕ → List (List ℕ)
statement line = before_comment (tokens line)

-- what follows the keyword
abbrev pub arguments : List ℕ → List (List ℕ)
arguments line = drop 1 (statement line)

-- bytes of one token that begins no comment
pub record IsPlain (text : List ℕ) : Type 0 where
  pub some : 0 < length text
  pub spaces : list_any is_space text ≡ false
  pub comment : is_comment text ≡ false
