use Rattle.std.proofs.Common.{arith}
use Rattle.std.proofs.lemmas.Int.{ints}
use Rattle.abuf_raster.proofs.bounding_box.first_pixel.Goals as goal

pub returns-clause-before : goal.returns-clause-before
returns-clause-before c = λ p l g.
    let h = c.pixel_of.ensures.before p l g in
    let v = c.lowered.ensures.value in
    let e = c.min_of.ensures in
    (omega (arith, ints), omega (arith, ints), omega (arith, ints))
