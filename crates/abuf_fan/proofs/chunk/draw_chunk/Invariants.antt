use Rattle.std.proofs.Common.{◌≡◌, ◌+◌, ◌*◌, ◌≤◌, [], length, take, drop}
use Rattle.std.specs.List.{flat_map}
use Rattle.abuf_raster.specs.Samples.{offsets_of}
use Rattle.abuf_draw.specs.Waiting.{KnowsFull, Passes}
use Rattle.abuf_fan.specs.Chunks.{fragments_of}
use Rattle.abuf_fan.proofs.chunk.draw_chunk.Given as goal

abbrev pub invariant-loop-i : goal.invariant-loop-i
invariant-loop-i l = record {
  brush : (l.brush.region ≡ l.work.region) × (l.brush.pattern ≡ l.work.pattern);
  same : l.pass.frame ≡ l.fn.pass.frame;
  full : KnowsFull l.brush.full l.work.frame.now.nodes l.pass.view;
  room : length l.brush.batch + length (drop l.i l.numbers) * (l.work.region.w * l.work.region.h) ≤ l.pass.view.credit;
  few : l.fn.pass.view.credit + length (drop l.i l.numbers) * (l.work.region.w * l.work.region.h) + length l.brush.batch ≤ l.pass.view.credit + length l.numbers * (l.work.region.w * l.work.region.h);
  passes : Passes [] (flat_map (fragments_of l.work.tris.now (offsets_of l.work.pattern) l.work.region) (take l.i l.numbers)) l.brush.batch l.fn.pass.view l.pass.view;
}
