use Rattle.std.proofs.Common.{◌≡◌, ◌-◌, arith, min}
use Rattle.abuf_raster.proofs.tiles.Tiles.tile.Goals as goal

pub returns-clause-value : goal.returns-clause-value
returns-clause-value c =
    let t = c.args.self.now in
    let e : c.min.result ≡ min 8 (t.end_x - t.x) = omega arith in
    let f : c.min-2.result ≡ min 8 (t.end_y - t.y) = omega arith in
    λ i. record { x = t.x; y = t.y; w = e i; h = f i }
