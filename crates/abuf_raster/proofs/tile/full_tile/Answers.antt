use Rattle.std.proofs.Common.{◌+◌, ◌++◌, List, arith, ap, sym, ◌∙◌}
use Rattle.abuf_raster.specs.declared.region.Hit.{Hit}
use Rattle.abuf_raster.specs.Walk.{full_row}
use Rattle.abuf_raster.proofs.Blocks.{full_more}
use Rattle.abuf_raster.proofs.tile.full_tile.Goals as goal

pub loop-line-preserved : goal.loop-line-preserved
loop-line-preserved c =
    let i = c.loop-line.invariant in
    let b = c.args.tile in
    record {
      room = let s = c.requires.tile.w_small in omega arith;
      hits = c.full_row-count.ensures.hits
          ∙ (ap (λ (xs : List Hit). xs ++ full_row c.args.prim c.args.mask b.x b.w (b.y + c.loop-line.line)) i.hits
          ∙ sym (full_more c.args.prim c.args.mask b.x b.w b.y c.loop-line.line));
    }
