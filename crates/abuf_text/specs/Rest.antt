-- The rest of a line, which is one name: all that follows the keyword, `#` and spaces within it too.
use Rattle.std.specs.Prelude.{◌-◌, ℕ, Bool, not, List, length, take, drop, reverse}
use Rattle.std.specs.List.{position_or_len, before_first}
use Rattle.abuf_text.specs.Statement.{is_space}

abbrev pub is_text : ℕ → Bool
is_text b = not (is_space b)

-- the bytes without the spaces in front of them
abbrev pub trim_start : List ℕ → List ℕ
trim_start bytes = drop (position_or_len is_text bytes) bytes

-- the bytes without the spaces at their end
abbrev pub trim_end : List ℕ → List ℕ
trim_end bytes = take (length bytes - position_or_len is_text (reverse bytes)) bytes

-- the bytes up to the first space
abbrev pub first_token : List ℕ → List ℕ
first_token bytes = before_first is_space bytes

-- the bytes from the first space on
abbrev pub after_token : List ℕ → List ℕ
after_token bytes = drop (position_or_len is_space bytes) bytes

-- all that follows the keyword, without spaces at both ends
abbrev pub rest : List ℕ → List ℕ
rest line = trim_end (trim_start (after_token (trim_start line)))
