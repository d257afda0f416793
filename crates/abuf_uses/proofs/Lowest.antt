-- The sums of a layer are those of its samples' lowest primitives.
use Rattle.std.proofs.Common.{◌≡◌, ℕ, ◌+◌, ◌*◌, ◌/◌, ◌%◌, ◌<◌, List, [], get_or, refl, ap, ◌∙◌, arith}
use Rattle.abuf_num.specs.declared.plain.Paint.{Paint}
use Rattle.abuf_raster.specs.Triangle.{Triangle}
use Rattle.abuf_raster.specs.Samples.{offsets_of}
use Rattle.abuf_resolve.proofs.Totals.{summed_same, same_on_range}
use Rattle.abuf_peel.specs.Next.{Sample}
use Rattle.abuf_peel.specs.Layers.{Peeled, HaveLayer, count_of, layer, layer_sums, size_of, sum_of_place}
use Rattle.abuf_peel.proofs.Standing.{sample_is, sample_within}
use Rattle.abuf_uses.specs.Lowest.{lowest_colour, lowest_sum, lowest_sums}

pub sums_lowest : (background : List ℕ) (tris : List Triangle) (paints : List Paint) (n : ℕ) (l : Peeled) → HaveLayer background tris paints n l
    → layer_sums l ≡ lowest_sums (offsets_of l.pattern) background tris paints n l.region
sums_lowest background tris paints n l h =
    let r = l.region in
    let offsets = offsets_of l.pattern in
    let size = size_of l.pattern in
    same_on_range (sum_of_place l.colours size) (lowest_sum offsets background tris paints n r) 0 (r.w * r.h) (λ p z i.
    let inside : p < r.w * r.h = omega arith in
    summed_same (λ k. get_or l.colours (p * size + k) []) (lowest_colour offsets background tris paints n (r.x0 + p % r.w) (r.y0 + p / r.w)) size
    (λ k m.
    h (p * size + k) (sample_within p size (r.w * r.h) k (count_of r l.pattern) inside m refl)
    ∙ ap (λ (s : Sample). layer offsets background tris paints s n) (sample_is r size p k m)))
