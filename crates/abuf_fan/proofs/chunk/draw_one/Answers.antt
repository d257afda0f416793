use Rattle.std.proofs.Common.{ℕ, List, sym, subst}
use Rattle.abuf_raster.specs.declared.pattern.Pattern.{Pattern}
use Rattle.abuf_raster.specs.Region.{Region}
use Rattle.abuf_raster.specs.Triangle.{Triangle}
use Rattle.abuf_raster.specs.Samples.{offsets_of}
use Rattle.abuf_raster.specs.Hits.{fragments}
use Rattle.abuf_draw.specs.Waiting.{Passes}
use Rattle.abuf_fan.proofs.Ordered.{fragments_at}
use Rattle.abuf_fan.proofs.chunk.draw_one.Goals as goal

pub returns-clause-passes : goal.returns-clause-passes
returns-clause-passes c =
    let v = c.args.pass.now.view in let w = c.draw.new.pass.view in let n = c.args.number in let b = c.requires.brush in
    let os = offsets_of c.args.work.now.pattern in let r = c.args.work.now.region in let ts : List Triangle = c.args.work.now.tris.now in
    let t : Triangle = c.args.triangle.now in
    let is = fragments_at ts os r n t c.requires.number c.requires.triangle in
    let old : List (ℕ × ℕ) = c.args.brush.now.batch in let new : List (ℕ × ℕ) = c.draw.new.self.batch in
    let same = subst (λ (p : Pattern). Passes old (fragments t n (offsets_of p) r) new v w) b.1
    (subst (λ (z : Region). Passes old (fragments t n (offsets_of c.args.brush.now.pattern) z) new v w) b.0 c.draw.ensures.passes) in
    subst (λ (l : List (ℕ × ℕ)). Passes old l new v w) (sym is) same
