use Rattle.std.proofs.Common.{ℕ, List, subst}
use Rattle.abuf_raster.specs.declared.pattern.Pattern.{Pattern}
use Rattle.abuf_raster.specs.Region.{Region}
use Rattle.abuf_raster.specs.Samples.{offsets_of}
use Rattle.abuf_raster.specs.Hits.{fragments}
use Rattle.abuf_frame.proofs.Draws.{draws_credit}
use Rattle.abuf_draw.specs.Waiting.{Passes}
use Rattle.abuf_draw.proofs.Drawing.{passes_end}
use Rattle.abuf_draw.proofs.for_users.draw.Goals as goal

pub returns-clause-draws : goal.returns-clause-draws
returns-clause-draws c =
    let t = c.args.t.now in let n = c.args.prim in let v = c.args.pass.now.view in let w = c.draw.new.pass.view in
    let waits : List (ℕ × ℕ) = c.draw.new.self.batch in let b = c.new-brush.ensures in
    let passes = subst (λ (xs : List (ℕ × ℕ)). Passes xs (fragments t n (offsets_of c.args.pattern) c.args.region) waits v w) b.none
    (subst (λ (p : Pattern). Passes c.new-brush.result.batch (fragments t n (offsets_of p) c.args.region) waits v w) b.brush.1
    (subst (λ (r : Region). Passes c.new-brush.result.batch (fragments t n (offsets_of c.new-brush.result.pattern) r) waits v w) b.brush.0 c.draw.ensures.passes)) in
    passes_end (fragments t n (offsets_of c.args.pattern) c.args.region) waits v w c.flush.new.pass.view passes c.flush.ensures.draws

pub returns-clause-credit : goal.returns-clause-credit
returns-clause-credit c = draws_credit _ _ _ (returns-clause-draws c)
