use Rattle.std.proofs.Common.{◌+◌, ◌++◌, List, take, arith, ap, ap₂, sym, ◌∙◌, append_assoc}
use Rattle.abuf_raster.specs.declared.region.Hit.{Hit}
use Rattle.abuf_raster.specs.Walk.{full_row}
use Rattle.abuf_raster.proofs.Blocks.{full_row_more, hit_some}
use Rattle.abuf_raster.proofs.tile.full_row.Goals as goal

pub loop-column-preserved : goal.loop-column-preserved
loop-column-preserved c =
    let i = c.loop-column.invariant in
    let old = take c.args.count c.args.hits.now in
    let done = full_row c.args.prim c.args.mask c.args.span.x c.loop-column.column c.args.span.y in
    record {
      room = omega arith;
      hits = c.put-count.ensures.hits
          ∙ (ap₂ (λ (xs ys : List Hit). xs ++ ys) i.hits (hit_some c.args.prim (c.args.span.x + c.loop-column.column) c.args.span.y c.args.mask c.requires.some)
          ∙ (append_assoc old done _
          ∙ ap (λ (xs : List Hit). old ++ xs) (sym (full_row_more c.args.prim c.args.mask c.args.span.x c.loop-column.column c.args.span.y))));
    }
