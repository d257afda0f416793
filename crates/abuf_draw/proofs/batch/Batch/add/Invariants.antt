use Rattle.std.proofs.Common.{◌≡◌, ◌<◌, ◌*◌, ◌++◌, take, map, All}
use Rattle.abuf_raster.specs.Hits.{placed}
use Rattle.abuf_draw.proofs.batch.Batch.add.Given as goal

abbrev pub invariant-loop-hit : goal.invariant-loop-hit
invariant-loop-hit l = record {
  items : l.self ≡ l.fn.self ++ map (placed l.region) (take l.hit-index l.hits);
  places : All (λ x. x.0 < l.region.w * l.region.h) l.self;
}
