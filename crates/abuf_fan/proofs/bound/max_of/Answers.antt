use Rattle.std.proofs.Common.{rules, ◌≡◌, false, List, length, ap, arith}
use Rattle.abuf_raster.specs.declared.region.Hit.{Hit}
use Rattle.abuf_raster.specs.Samples.{offsets_of}
use Rattle.abuf_draw.proofs.Uncovered.{no_hits}
use Rattle.abuf_fan.proofs.bound.max_of.Goals as goal

pub returns-then-not-meets-clause-bound : goal.returns-then-not-meets-clause-bound
returns-then-not-meets-clause-bound c = λ prim.
    let outside : c.meets.result ≡ false = search rules in
    let e = ap (λ (hs : List Hit). length hs) (no_hits c.args.t.now prim (offsets_of c.args.pattern) c.args.region (c.meets.ensures outside)) in
    omega (arith, e)
