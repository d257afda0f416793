-- The bytes of an RGB image in Netpbm PAM, from the sum of the samples of each pixel.
use Rattle.std.specs.Prelude.{ℕ, ◌+◌, ◌*◌, ◌/◌, ◌%◌, ◌==◌, ◌++◌, List, [], ◌∷◌, flat_map, slice_index_or, codes, decimal, if◌then◌else◌}
use Rattle.abuf_num.specs.declared.plain.PixelSum.{PixelSum}

-- A header line with a number: its name, the number in decimal, and a line feed.
abbrev pub field : List ℕ → ℕ → List ℕ
field name n = name ++ decimal n ++ codes "\n"

-- The seven lines of the header.
abbrev pub header : ℕ → ℕ → ℕ → List ℕ
header width height maxval =
    codes "P7\n" ++ field (codes "WIDTH ") width ++ field (codes "HEIGHT ") height ++ codes "DEPTH 3\n" ++ field (codes "MAXVAL ") maxval ++ codes "TUPLTYPE RGB\nENDHDR\n"

-- The mean of the samples scaled to 0 .. 255, to the nearest whole number, halves up: sum / samples * 255 / 65535.
abbrev pub narrow : ℕ → ℕ → ℕ
narrow samples sum = (2 * sum + 257 * samples) / (514 * samples)

-- The mean of the samples, to the nearest whole number, halves up.
abbrev pub wide : ℕ → ℕ → ℕ
wide samples sum = (2 * sum + samples) / (2 * samples)

-- A value is one byte at MAXVAL 255, and two bytes, the high byte first, at 65535.
abbrev pub channel : ℕ → ℕ → ℕ → List ℕ
channel maxval samples sum =
    if maxval == 255 then narrow samples sum ∷ [] else (wide samples sum / 256 ∷ wide samples sum % 256 ∷ [])

-- The bytes of a pixel: three values of one byte at MAXVAL 255, of two at 65535.
abbrev pub pixel_size : ℕ → ℕ
pixel_size maxval = if maxval == 255 then 3 else 6

-- Red, green and blue.
abbrev pub pixel : ℕ → ℕ → PixelSum → List ℕ
pixel maxval samples p =
    channel maxval samples (slice_index_or p.channels 0 0) ++ channel maxval samples (slice_index_or p.channels 1 0) ++ channel maxval samples (slice_index_or p.channels 2 0)

-- The header, and then every pixel, row by row from the top.
unfoldable pub image : ℕ → ℕ → ℕ → ℕ → List PixelSum → List ℕ
image width height maxval samples sums = header width height maxval ++ flat_map (pixel maxval samples) sums
