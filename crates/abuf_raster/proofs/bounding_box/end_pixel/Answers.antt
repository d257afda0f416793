use Rattle.std.proofs.Common.{arith}
use Rattle.std.proofs.lemmas.Int.{ints}
use Rattle.abuf_raster.proofs.bounding_box.end_pixel.Goals as goal

pub returns-clause-behind : goal.returns-clause-behind
returns-clause-behind c = λ p l g.
    let h = c.pixel_of.ensures.behind p l g in
    let v = c.raised.ensures.value in
    let e = c.max_of.ensures in
    (omega (arith, ints), omega (arith, ints), omega (arith, ints))
