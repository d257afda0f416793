use Rattle.std.proofs.Common.{◌≡◌, ◌++◌, length, map, All}
use Rattle.abuf_raster.specs.Samples.{offsets_of}
use Rattle.abuf_raster.specs.Hits.{IsHitIn, fragments, placed}
use Rattle.abuf_draw.specs.Waiting.{KnowsFull}
use Rattle.abuf_draw.proofs.Drawing.{Midway}
use Rattle.abuf_draw.proofs.brush.Brush.draw.Given as goal

abbrev pub invariant-loop-count : goal.invariant-loop-count
invariant-loop-count l = record {
  same : l.pass.frame ≡ l.fn.pass.frame;
  brush : (l.self.region ≡ l.fn.self.region) × (l.self.pattern ≡ l.fn.self.pattern);
  full : KnowsFull l.self.full l.frame.nodes l.pass.view;
  within : All (IsHitIn l.fn.self.region) l.tiles;
  midway : Midway (l.fn.self.batch ++ fragments l.t l.prim (offsets_of l.fn.self.pattern) l.fn.self.region) (l.self.batch ++ map (placed l.fn.self.region) l.tiles) l.fn.pass.view l.pass.view;
}

abbrev pub decreases-loop-count : goal.decreases-loop-count
decreases-loop-count l = length l.tiles
