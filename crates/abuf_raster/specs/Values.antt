-- The numbers that a walk steps: edge functions from which the top-left rule is taken off, so that an edge accepts a sample
-- exactly where its number is not below 0.
use Rattle.std.specs.Prelude.{ℕ, zero, suc, ◌+◌, ◌*◌, ◌^◌, Bool, true, false, ◌&&◌, ◌||◌, not, if◌then◌else◌, ℤ, pos, ◌+ℤ◌, ◌-ℤ◌, ◌*ℤ◌, int_lt, unsigned_abs, List, length, slice_index_or, ◌≤◌, ◌≤ℤ◌}
use Rattle.abuf_raster.specs.declared.point.Point.{Point}
use Rattle.abuf_raster.specs.Edge.{edge_function, is_left_edge, is_top_edge}
use Rattle.abuf_raster.specs.Triangle.{Triangle}

-- The number of the edge from a to b at s.
abbrev pub edge_value : Point → Point → Point → ℤ
edge_value a b s = edge_function a b s -ℤ (if is_left_edge a b || is_top_edge a b then pos 0 else pos 1)

-- How it changes over a way of x to the right and y downwards.
abbrev pub edge_change : Point → Point → ℤ → ℤ → ℤ
edge_change a b x y = (b.x -ℤ a.x) *ℤ y +ℤ (a.y -ℤ b.y) *ℤ x

-- A slope where it falls, or else where it rises; otherwise 0.
abbrev pub one_way : Bool → ℤ → ℤ
one_way true z = if int_lt z (pos 0) then z else pos 0
one_way false z = if int_lt z (pos 0) then pos 0 else z

-- How much it falls at most, or else rises at most, over a way of at most w pixels to the right and h downwards.
abbrev pub edge_farthest : Bool → Point → Point → ℕ → ℕ → ℤ
edge_farthest falls a b w h = one_way falls (b.x -ℤ a.x) *ℤ pos (256 * h) +ℤ one_way falls (a.y -ℤ b.y) *ℤ pos (256 * w)

-- The numbers of the three edges.
pub record Numbers : Type 0 where
  pub ab : ℤ
  pub bc : ℤ
  pub ca : ℤ

-- The three numbers at a position, their changes, and how far they fall or rise.
abbrev pub values_at : Triangle → Point → Numbers
values_at t s = record { ab = edge_value t.a t.b s; bc = edge_value t.b t.c s; ca = edge_value t.c t.a s }

abbrev pub changes : Triangle → ℤ → ℤ → Numbers
changes t x y = record { ab = edge_change t.a t.b x y; bc = edge_change t.b t.c x y; ca = edge_change t.c t.a x y }

abbrev pub farthest : Bool → Triangle → ℕ → ℕ → Numbers
farthest falls t w h = record { ab = edge_farthest falls t.a t.b w h; bc = edge_farthest falls t.b t.c w h; ca = edge_farthest falls t.c t.a w h }

abbrev pub plus_all : Numbers → Numbers → Numbers
plus_all m n = record { ab = m.ab +ℤ n.ab; bc = m.bc +ℤ n.bc; ca = m.ca +ℤ n.ca }

-- None of the three is below 0.
abbrev pub none_below : Numbers → Bool
none_below n = not (int_lt n.ab (pos 0)) && not (int_lt n.bc (pos 0)) && not (int_lt n.ca (pos 0))

-- One of the three is below 0 and falls by such changes, so that it stays below.
abbrev pub stays_below : Numbers → Numbers → Bool
stays_below n change = (int_lt n.ab (pos 0) && int_lt change.ab (pos 0)) || (int_lt n.bc (pos 0) && int_lt change.bc (pos 0)) || (int_lt n.ca (pos 0) && int_lt change.ca (pos 0))

-- Each is at most this far from 0.
abbrev pub AreAtMost : ℕ → Numbers → Type 0
AreAtMost most n = (unsigned_abs n.ab ≤ most) × (unsigned_abs n.bc ≤ most) × (unsigned_abs n.ca ≤ most)

-- What is at most as far from 0 as the numbers of two others are, each by each.
abbrev pub KeepsBounds : Numbers → Numbers → Numbers → Type 0
KeepsBounds m n of_both = (most : ℕ) → AreAtMost most m → AreAtMost most n → AreAtMost most of_both

-- A width has room for them.
abbrev pub IsRoomFor : ℕ → Numbers → Type 0
IsRoomFor reach n = AreAtMost (14 * (reach * reach)) n

-- None of three numbers is above that of the others.
pub record AreUp (m n : Numbers) : Type 0 where
  pub ab : m.ab ≤ℤ n.ab
  pub bc : m.bc ≤ℤ n.bc
  pub ca : m.ca ≤ℤ n.ca

-- How the number of one edge, and those of the three, change from a pixel's centre to its sample k.
abbrev pub sample_change : Point → Point → List (ℤ × ℤ) → ℕ → ℤ
sample_change a b offsets k = let o : ℤ × ℤ = slice_index_or offsets k (pos 0, pos 0) in edge_change a b (pos 16 *ℤ o.0) (pos 16 *ℤ o.1)

abbrev pub sample_changes : Triangle → List (ℤ × ℤ) → ℕ → Numbers
sample_changes t offsets k = let o : ℤ × ℤ = slice_index_or offsets k (pos 0, pos 0) in changes t (pos 16 *ℤ o.0) (pos 16 *ℤ o.1)

-- The numbers at sample k of a pixel with these numbers at its centre.
abbrev pub at_sample : Triangle → List (ℤ × ℤ) → Numbers → ℕ → Numbers
at_sample t offsets n k = plus_all n (sample_changes t offsets k)

-- The mask of that pixel.
abbrev pub mask_of_values_below : Triangle → List (ℤ × ℤ) → Numbers → ℕ → ℕ
mask_of_values_below t offsets n zero = 0
mask_of_values_below t offsets n (suc k) = mask_of_values_below t offsets n k + (if none_below (at_sample t offsets n k) then 2 ^ k else 0)

abbrev pub mask_of_values : Triangle → List (ℤ × ℤ) → Numbers → ℕ
mask_of_values t offsets n = mask_of_values_below t offsets n (length offsets)

-- The sum of 2^k over the samples k below a number that one edge accepts, of a pixel with this number at its centre.
abbrev pub accepted_below : Point → Point → List (ℤ × ℤ) → ℤ → ℕ → ℕ
accepted_below a b offsets n zero = 0
accepted_below a b offsets n (suc k) = accepted_below a b offsets n k + (if not (int_lt (n +ℤ sample_change a b offsets k) (pos 0)) then 2 ^ k else 0)
