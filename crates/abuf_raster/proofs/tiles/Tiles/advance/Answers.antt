use Rattle.std.proofs.Common.{◌+◌, ◌-◌, ◌*◌, arith, min}
use Rattle.abuf_raster.specs.Samples.{offsets_of}
use Rattle.abuf_raster.proofs.Pieces.{left_right, left_down}
use Rattle.abuf_raster.proofs.Counts.{pixels_right, pixels_down}
use Rattle.abuf_raster.proofs.tiles.Tiles.advance.Goals as goal

pub returns-then-self-gt8-clause-hits : goal.returns-then-self-gt8-clause-hits
returns-then-self-gt8-clause-hits c =
    let w = c.args.self.now in
    left_right w.triangle w.prim (offsets_of w.pattern) w.first w.x w.end_x w.y w.end_y (omega arith)

pub returns-then-self-gt8-clause-pixels : goal.returns-then-self-gt8-clause-pixels
returns-then-self-gt8-clause-pixels c =
    let w = c.args.self.now in
    pixels_right w.x w.end_x (min 8 (w.end_y - w.y)) ((w.end_x - w.first) * (w.end_y - (w.y + 8))) (omega arith)

pub returns-else-self-gt8-clause-hits : goal.returns-else-self-gt8-clause-hits
returns-else-self-gt8-clause-hits c =
    let w = c.args.self.now in
    let some = c.requires.tiles.x_within in
    left_down w.triangle w.prim (offsets_of w.pattern) w.first w.x w.end_x w.y w.end_y (omega arith) (omega arith)

pub returns-else-self-gt8-clause-pixels : goal.returns-else-self-gt8-clause-pixels
returns-else-self-gt8-clause-pixels c =
    let w = c.args.self.now in
    pixels_down w.x w.end_x (w.end_x - w.first) w.y w.end_y (omega arith)
