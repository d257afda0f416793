use Rattle.std.proofs.Common.{ap, ◌∙◌}
use Rattle.abuf_raster.specs.Region.{Region, whole_image}
use Rattle.abuf_picture.specs.Picture.{total}
use Rattle.abuf_band.proofs.Above.{above_all, total_above}
use Rattle.abuf_band.proofs.laws.bands_law.Goals as goal

pub returns : goal.returns
returns c =
    let all : Region = whole_image c.args.width c.args.height in
    let bands = c.requires.bands in
    total_above all c.args.bands bands.0 bands.1 c.requires.size.width_some c.args.triangles.now c.args.pattern c.args.bands
    ∙ ap (total c.args.triangles.now c.args.pattern) (above_all all c.args.bands bands.0 bands.1)
