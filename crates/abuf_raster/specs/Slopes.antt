-- How the weighted depth of a triangle changes from position to position.
use Rattle.std.specs.Prelude.{ℕ, ℤ, pos, ◌+ℤ◌, ◌-ℤ◌, ◌*ℤ◌}
use Rattle.abuf_raster.specs.Triangle.{Triangle}

-- The differences of three coordinates, each weighted by the depth value across from it, in sum.
abbrev pub slope : ℤ → ℤ → ℤ → ℕ → ℕ → ℕ → ℤ
slope a b c qa qb qc = (b -ℤ c) *ℤ pos qa +ℤ (c -ℤ a) *ℤ pos qb +ℤ (a -ℤ b) *ℤ pos qc

-- The change of the weighted depth over 1/256 pixel to the right.
abbrev pub slope_across : Triangle → ℤ
slope_across t = slope t.a.y t.b.y t.c.y t.qa t.qb t.qc

-- The change of the weighted depth over 1/256 pixel downwards.
abbrev pub slope_down : Triangle → ℤ
slope_down t = slope t.a.x t.c.x t.b.x t.qa t.qc t.qb
