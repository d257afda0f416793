use Rattle.std.proofs.Common.{◌∙◌, List, length, ap}
use Rattle.abuf_num.specs.declared.plain.PixelSum.{PixelSum}
use Rattle.abuf_top.proofs.Sums.{sums_long}
use Rattle.abuf_top.proofs.image.image_of.Goals as goal

pub image_from-requires-clause-pixels : goal.image_from-requires-clause-pixels
image_from-requires-clause-pixels c = ap (λ (xs : List PixelSum). length xs) c.requires.sums ∙ sums_long c.args.drawing.now
