use Rattle.std.proofs.Common.{◌≡◌, ◌≤◌, ◌++◌, [], List, take, drop, arith, ap, ap₂, sym, ◌∙◌}
use Rattle.abuf_raster.specs.declared.region.Hit.{Hit}
use Rattle.abuf_raster.specs.Samples.{offsets_of}
use Rattle.abuf_raster.specs.TilesLeft.{hits_left}
use Rattle.abuf_raster.proofs.Pieces.{left_none}
use Rattle.abuf_raster.proofs.Ends.{none_behind, next_of}
use Rattle.abuf_raster.proofs.for_users.TileWalkIterator.next.Goals as goal

pub returns-then-is_done-clause-steps : goal.returns-then-is_done-clause-steps
returns-then-is_done-clause-steps c =
    let w = c.loop-self.self-inside in
    let t = w.tiles in
    let done : t.end_y ≤ t.y = c.is_done.ensures.0 c.if-is_done.true in
    let none : drop w.at (take w.count w.hits) ++ hits_left t ≡ [] =
    ap₂ (λ (xs ys : List Hit). xs ++ ys) (none_behind w.hits w.at w.count c.loop-self-test.true) (left_none t.triangle t.prim (offsets_of t.pattern) t.first t.x t.end_x t.y t.end_y done) in
    (sym c.loop-self.invariant.left ∙ none, none)

pub loop-self-preserved : goal.loop-self-preserved
loop-self-preserved c =
    let w = c.loop-self.self-inside in
    let n = c.next_tile-self-inside in
    let none : drop w.at (take w.count w.hits) ++ hits_left w.tiles ≡ hits_left w.tiles =
    ap (λ (xs : List Hit). xs ++ hits_left w.tiles) (none_behind w.hits w.at w.count c.loop-self-test.true) in
    record {
      tiles = n.ensures.tiles;
      within = omega arith;
      few = n.ensures.room;
      long = n.ensures.long;
      left = n.ensures.hits ∙ (sym none ∙ c.loop-self.invariant.left);
    }

pub returns-clause-steps : goal.returns-clause-steps
returns-clause-steps c =
    let w = c.loop-self.self-inside in
    let i = c.loop-self.invariant in
    let d : Hit = record { x = 0; y = 0; fragment = record { prim = 0; mask = 0 } } in
    sym i.left ∙ ap (λ (xs : List Hit). xs ++ hits_left w.tiles) (next_of w.hits w.at w.count d c.loop-self-test.false (omega (arith, i.long, i.few)))
