use Rattle.std.proofs.Common.{arith}
use Rattle.std.proofs.lemmas.List.Sorted.{IsPermutation-sym}
use Rattle.abuf_frame.specs.Draws.{payloads_at}
use Rattle.abuf_raster.specs.Samples.{offsets_of}
use Rattle.abuf_raster.proofs.Masks.{offsets_few}
use Rattle.abuf_raster.specs.Hits.{all_fragments}
use Rattle.abuf_resolve.proofs.Lists.{list_in_order}
use Rattle.abuf_resolve.proofs.Orders.{Alike-permutation}
use Rattle.abuf_resolve.proofs.laws.list_law.Goals as goal

pub returns : goal.returns
returns c = λ background paints.
    let os = offsets_of c.args.pattern in
    list_in_order os background c.args.triangles.now paints c.args.region c.args.place c.args.sample c.args.words.now
    (offsets_few c.args.pattern) c.requires.sample (omega arith) c.region_law.ensures c.requires.place
    (Alike-permutation (payloads_at c.args.place (all_fragments c.args.triangles.now 0 os c.args.region)) c.args.words.now (IsPermutation-sym _ _ c.requires.words))
