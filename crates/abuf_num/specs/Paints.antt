-- Colours and paints.
use Rattle.std.specs.Prelude.{◌∷◌, [], ℕ, ℤ, pos, negsuc, min}
use Rattle.abuf_num.specs.declared.plain.Paint.{Paint}

-- A channel of a colour: the number, clamped to 0 to 65535.
abbrev pub channel : ℤ → ℕ
channel (pos n) = min n 65535
channel (negsuc n) = 0

-- White and opaque.
abbrev pub white : Paint
white = record { colour = 65535 ∷ 65535 ∷ 65535 ∷ []; alpha = 65535 }
