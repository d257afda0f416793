-- What the texts of the options and values stand for. None is a text that isn't in its form, or a value out of its range.
use Rattle.std.specs.Prelude.{◌*◌, ◌≤◌, ℕ, ℤ, pos, unsigned_abs, ◌&&◌, nat_le, nat_lt, int_lt, not, List, [], ◌∷◌, codes, Option, Some, None, option_map, option_and_then, if◌then◌else◌}
use Rattle.std.specs.Str.{bytes_eq}
use Rattle.abuf_num.specs.Paints.{channel}
use Rattle.abuf_num.specs.Texts.{whole_number, scaled_number}
use Rattle.abuf_num.specs.declared.limits.TheConstants.{MAX_COORDINATE, MAX_NODES, MAX_PIXELS, MAX_SIDE, MAX_THREADS}
use Rattle.abuf_view.specs.Turns.{turn_component, turn_from}
use Rattle.abuf_cli.specs.Splits.{split_once, three_texts, four_texts}
use Rattle.abuf_cli.specs.declared.values.ImageSize.{ImageSize}
use Rattle.abuf_cli.specs.declared.values.PixelPosition.{PixelPosition}
use Rattle.abuf_cli.specs.declared.values.Triple.{Triple}
use Rattle.abuf_raster.specs.declared.pattern.Pattern.{Pattern}
use Rattle.abuf_raster.specs.declared.pattern.Pattern.TheVariants.{One, Two, Four, Eight, Sixteen}

-- A width and a height of 1 to 4096 pixels, whose product is at most 4194304.
abbrev pub size_within : ℕ → ℕ → Option ImageSize
size_within width height =
    if nat_le 1 width && (nat_le width MAX_SIDE && (nat_le 1 height && (nat_le height MAX_SIDE && nat_le (width * height) MAX_PIXELS)))
    then Some (record { width = width; height = height }) else None

-- The size of a width and a height, where both are numbers.
abbrev pub size_from : Option ℕ → Option ℕ → Option ImageSize
size_from None height = None
size_from (Some width) None = None
size_from (Some width) (Some height) = size_within width height

-- `WxH`, each one to four digits; the first `x` (120) divides.
abbrev pub size_of : List ℕ → Option ImageSize
size_of text = option_and_then (λ parts. size_from (whole_number 4 parts.0) (whole_number 4 parts.1)) (split_once 120 text)

-- `1`, `2`, `4`, `8` or `16`.
abbrev pub pattern_of : List ℕ → Option Pattern
pattern_of text =
    if bytes_eq text (codes "1") then Some One
    else (if bytes_eq text (codes "2") then Some Two
    else (if bytes_eq text (codes "4") then Some Four
    else (if bytes_eq text (codes "8") then Some Eight
    else (if bytes_eq text (codes "16") then Some Sixteen else None))))

-- A number from `least` to `most`.
abbrev pub counted : ℕ → ℕ → Option ℕ → Option ℕ
counted least most None = None
counted least most (Some n) = if nat_le least n && nat_le n most then Some n else None

-- One or two digits, 1 to 64.
abbrev pub threads_of : List ℕ → Option ℕ
threads_of text = counted 1 MAX_THREADS (whole_number 2 text)

-- One to seven digits, 1 to 8388608.
abbrev pub nodes_of : List ℕ → Option ℕ
nodes_of text = counted 1 MAX_NODES (whole_number 7 text)

-- `a,b,c,d`.
abbrev pub turn_of : List ℕ → Option (List ℤ)
turn_of text = option_and_then (λ t. turn_from (turn_component t.0) (turn_component t.1) (turn_component t.2) (turn_component t.3)) (four_texts text)

-- Three numbers, where there are all three.
abbrev pub triple_from : Option ℤ → Option ℤ → Option ℤ → Option Triple
triple_from None y z = None
triple_from (Some x) None z = None
triple_from (Some x) (Some y) None = None
triple_from (Some x) (Some y) (Some z) = Some (record { x = x; y = y; z = z })

-- `x,y,z`, each a decimal number, times k.
abbrev pub three_scaled : ℕ → List ℕ → Option Triple
three_scaled k text = option_and_then (λ t. triple_from (scaled_number k t.0) (scaled_number k t.1) (scaled_number k t.2)) (three_texts text)

-- Each of the three is at most 2147483647 either way.
abbrev pub AreInRange : Triple → Type 0
AreInRange t = (unsigned_abs t.x ≤ MAX_COORDINATE) × (unsigned_abs t.y ≤ MAX_COORDINATE) × (unsigned_abs t.z ≤ MAX_COORDINATE)

-- A shift, in units of 1/65536.
abbrev pub shift_of : List ℕ → Option (List ℤ)
shift_of text = option_map (λ t. t.x ∷ t.y ∷ t.z ∷ []) (three_scaled 65536 text)

-- A length from `least` to `most`.
abbrev pub between : ℤ → ℤ → Option ℤ → Option ℤ
between least most None = None
between least most (Some z) = if not (int_lt z least) && not (int_lt most z) then Some z else None

-- A focal length of 1 to 1048576, in units of 1/65536.
abbrev pub focal_of : List ℕ → Option ℤ
focal_of text = between (pos 1) (pos 1048576) (scaled_number 65536 text)

-- A near distance of 4096 to 2147483647, in units of 1/65536.
abbrev pub near_of : List ℕ → Option ℤ
near_of text = between (pos 4096) (pos 2147483647) (scaled_number 65536 text)

-- `r,g,b`, each a decimal number of which 1 is full; what lies past 0 or 1 is clamped.
abbrev pub background_of : List ℕ → Option (List ℕ)
background_of text = option_map (λ t. channel t.x ∷ channel t.y ∷ channel t.z ∷ []) (three_scaled 65535 text)

-- `255` or `65535`.
abbrev pub maxval_of : List ℕ → Option ℕ
maxval_of text =
    if bytes_eq text (codes "255") then Some 255 else (if bytes_eq text (codes "65535") then Some 65535 else None)

-- One to four digits, 1 to the height of the image.
abbrev pub bands_of : ℕ → List ℕ → Option ℕ
bands_of height text = counted 1 height (whole_number 4 text)

-- The pixel x from the left and y from the top, where it is within an image of this size.
abbrev pub pixel_within : ImageSize → ℕ → ℕ → Option PixelPosition
pixel_within size x y = if nat_lt x size.width && nat_lt y size.height then Some (record { x = x; y = y }) else None

-- The pixel of two numbers, where both are numbers.
abbrev pub pixel_from : ImageSize → Option ℕ → Option ℕ → Option PixelPosition
pixel_from size None y = None
pixel_from size (Some x) None = None
pixel_from size (Some x) (Some y) = pixel_within size x y

-- `X,Y`, each one to four digits, a pixel within an image of this size; the first comma (44) divides.
abbrev pub at_of : ImageSize → List ℕ → Option PixelPosition
at_of size text = option_and_then (λ parts. pixel_from size (whole_number 4 parts.0) (whole_number 4 parts.1)) (split_once 44 text)

-- One to six digits, 1 to 200000.
abbrev pub number_of : List ℕ → Option ℕ
number_of text = counted 1 200000 (whole_number 6 text)

-- The name of a path file, which isn't empty.
abbrev pub path_of : List ℕ → Option (List ℕ)
path_of [] = None
path_of (b ∷ bs) = Some (b ∷ bs)
