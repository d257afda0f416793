use Rattle.std.proofs.Common.{◌∙◌, arith}
use Rattle.abuf_raster.specs.Samples.{offsets_of}
use Rattle.abuf_resolve.specs.Shading.{IsFragmentOf}
use Rattle.abuf_resolve.proofs.Composite.{alone, alone_fits}
use Rattle.abuf_resolve.proofs.shading.Shading.colour_at.Goals as goal

pub composite_over-requires : goal.composite_over-requires
composite_over-requires c =
    let shading = c.args.self.now in
    let known = (alone_fits (IsFragmentOf shading c.args.at) c.args.k c.args.list.now c.in-One.word c.in-One.ensures c.requires.words).known in
    omega (arith, known, shading.painted)

pub returns-in-One : goal.returns-in-One
returns-in-One c =
    let shading = c.args.self.now in
    let fits = alone_fits (IsFragmentOf shading c.args.at) c.args.k c.args.list.now c.in-One.word c.in-One.ensures c.requires.words in
    c.composite_over.ensures
    ∙ alone (offsets_of shading.pattern) shading.planes shading.few c.args.at.x c.args.at.y c.args.k shading.paints.now shading.background c.args.list.now c.in-One.word c.in-One.ensures fits
