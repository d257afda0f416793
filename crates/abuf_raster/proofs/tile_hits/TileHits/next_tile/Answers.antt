use Rattle.std.proofs.Common.{◌≤◌, ◌∙◌, refl, sym}
use Rattle.abuf_raster.specs.Samples.{offsets_of}
use Rattle.abuf_raster.proofs.Pieces.{left_none}
use Rattle.abuf_raster.proofs.tile_hits.TileHits.next_tile.Goals as goal

pub returns-clause-gives : goal.returns-clause-gives
returns-clause-gives c =
    let t = c.loop-self.self-inside.tiles in
    let done : t.end_y ≤ t.y = c.loop-self-test.ensures.0 refl in
    sym c.loop-self.invariant.left ∙ left_none t.triangle t.prim (offsets_of t.pattern) t.first t.x t.end_x t.y t.end_y done
