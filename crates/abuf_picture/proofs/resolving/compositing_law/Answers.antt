use Rattle.std.proofs.Common.{ℕ, List, ap, ap₂, arith}
use Rattle.abuf_num.specs.declared.plain.PixelSum.{PixelSum}
use Rattle.abuf_raster.specs.Samples.{offsets_of}
use Rattle.abuf_raster.proofs.Masks.{offsets_few}
use Rattle.abuf_resolve.specs.declared.shading.spans.Resolved.{Resolved}
use Rattle.abuf_resolve.specs.Lengths.{maximum}
use Rattle.abuf_resolve.proofs.Present.{lengths_are}
use Rattle.abuf_resolve.proofs.Totals.{sums_are}
use Rattle.abuf_picture.proofs.resolving.compositing_law.Goals as goal

pub returns : goal.returns
returns c =
    let p = c.args.primitives.now in
    let t = c.args.target.now in
    let os = offsets_of t.pattern in
    let few = offsets_few t.pattern in
    λ (lists : List (List ℕ)) size are.
    let sums = sums_are os t.background p.triangles.now p.paints.now t.region lists few (omega (arith, p.few)) c.region_law.ensures size are in
    let lengths = lengths_are os p.triangles.now t.region lists few (omega (arith, p.few)) c.region_law.ensures size are in
    ap₂ resolved_of sums (ap maximum lengths)
  where
    resolved_of : List PixelSum → ℕ → Resolved
    resolved_of sums longest = record { sums = sums; longest = longest }
