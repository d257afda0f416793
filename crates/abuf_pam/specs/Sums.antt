-- What the sums of a pixel keep to.
use Rattle.std.specs.Prelude.{ℕ, ◌*◌, ◌≤◌, slice_index_or}
use Rattle.abuf_num.specs.declared.plain.PixelSum.{PixelSum}

-- Each channel is the sum of so many samples from 0 to 65535.
abbrev pub HasSums : ℕ → PixelSum → Type 0
HasSums samples p =
    (slice_index_or p.channels 0 0 ≤ 65535 * samples) × (slice_index_or p.channels 1 0 ≤ 65535 * samples) × (slice_index_or p.channels 2 0 ≤ 65535 * samples)
