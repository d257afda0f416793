use Rattle.std.proofs.Common.{◌≡◌, ◌*◌, ap, ap₂, sym, ◌∙◌, length, ℕ, List, rules}
use Rattle.std.proofs.lemmas.List.FromFn.{length-map-range_with_len}
use Rattle.abuf_num.specs.declared.plain.PixelSum.{PixelSum}
use Rattle.abuf_raster.specs.Samples.{offsets_of}
use Rattle.abuf_resolve.specs.Sums.{region_sums}
use Rattle.abuf_uses.proofs.image.image_of.Goals as goal

pub image_bytes-requires-clause-pixels : goal.image_bytes-requires-clause-pixels
image_bytes-requires-clause-pixels g c =
    let target = c.args.target.now in
    let projected = c.args.projected.now in
    let sums : c.as_slice-sums.result.now ≡ region_sums (offsets_of target.pattern) target.background projected.tris projected.paints target.region = search rules in
    let long : length (region_sums (offsets_of target.pattern) target.background projected.tris projected.paints target.region) ≡ target.region.w * target.region.h =
    length-map-range_with_len _ 0 (target.region.w * target.region.h) in
    ap (λ (xs : List PixelSum). length xs) sums ∙ (long ∙ sym (ap₂ (λ (a b : ℕ). a * b) c.w.ensures.value c.h.ensures.value))
