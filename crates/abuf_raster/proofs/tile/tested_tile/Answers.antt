use Rattle.std.proofs.Common.{◌+◌, ◌++◌, List, ℕ, arith, ap, sym, ◌∙◌, refl}
use Rattle.abuf_raster.specs.declared.region.Hit.{Hit}
use Rattle.abuf_raster.specs.Samples.{offsets_of, pixel_centre}
use Rattle.abuf_raster.specs.Values.{values_at}
use Rattle.abuf_raster.specs.Walk.{row_hits}
use Rattle.abuf_raster.proofs.Changes.{room_down, step_down}
use Rattle.abuf_raster.proofs.Blocks.{block_more}
use Rattle.abuf_raster.proofs.tile.tested_tile.Goals as goal

pub loop-line-init : goal.loop-line-init
loop-line-init g c =
    let b = c.args.tile in
    record {
      at = c.requires.start ∙ ap (λ (y : ℕ). values_at c.args.t.now (pixel_centre b.x y)) (omega arith);
      room = omega arith;
      hits = refl;
    }

pub plus-at-requires : goal.plus-at-requires
plus-at-requires g c =
    let in_tile = c.requires.tile in
    room_down g.V.Width.reach c.args.t.now c.args.tile.x c.args.tile.y c.loop-line.line _ _ c.loop-line.invariant.at c.changes-down.ensures c.requires.wide c.requires.near (omega arith) (omega arith)

pub loop-line-preserved : goal.loop-line-preserved
loop-line-preserved g c =
    let b = c.args.tile in
    let y : ℕ = b.y + c.loop-line.line in
    let in_block = c.requires.tile in
    let i = c.loop-line.invariant in
    record {
      at = c.plus-at.ensures ∙ step_down g.V.Width.reach c.args.t.now b.x b.y c.loop-line.line _ _ i.at c.changes-down.ensures;
      room = omega arith;
      hits = c.row-count.ensures.hits
          ∙ (ap (λ (xs : List Hit). xs ++ row_hits c.args.t.now c.args.primitive.number (offsets_of c.args.primitive.pattern) b.x b.w y) i.hits
          ∙ sym (block_more c.args.t.now c.args.primitive.number (offsets_of c.args.primitive.pattern) b.x b.w b.y c.loop-line.line));
    }
