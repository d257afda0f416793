use Rattle.std.proofs.Common.{arith, ap, map, ◌∙◌, ◌≡◌, ◌^◌, ◌+◌, ◌%◌, ◌/◌, ◌≤◌, ℕ, length, nat_lt}
use Rattle.std.proofs.lemmas.List.Sorted.{All-permutation}
use Rattle.abuf_raster.specs.Samples.{offsets_of}
use Rattle.abuf_raster.proofs.Masks.{offsets_few}
use Rattle.abuf_resolve.specs.Order.{in_order}
use Rattle.abuf_resolve.specs.Pixel.{present}
use Rattle.abuf_resolve.specs.Words.{IsFragmentAt, layer_of, layer_word}
use Rattle.abuf_resolve.specs.Colour.{layers, layer_at}
use Rattle.abuf_raster.specs.Hits.{all_fragments}
use Rattle.abuf_resolve.proofs.Fits.{words_fit}
use Rattle.abuf_resolve.proofs.Lists.{layers_are, layers_below, told_is}
use Rattle.abuf_resolve.proofs.Totals.{Alike-drawn}
use Rattle.abuf_resolve.proofs.Orders.{permuted}
use Rattle.abuf_resolve.proofs.Present.{pixel_is, count_is, present_few}
use Rattle.abuf_resolve.proofs.Words.{map_below}
use Rattle.abuf_resolve.proofs.laws.pixel_law.Goals as goal

pub returns : goal.returns
returns c =
    let os = offsets_of c.args.pattern in
    let tris = c.args.triangles.now in
    let r = c.args.region in
    let p = c.args.place in
    let words = c.args.words.now in
    let x : ℕ = r.x0 + p % r.w in
    let y : ℕ = r.y0 + p / r.w in
    let few = offsets_few c.args.pattern in
    let limit : length tris ≤ 2 ^ 24 = omega arith in
    let are = c.requires.words in
    let alike = Alike-drawn (all_fragments tris 0 os r) are.entries words p are.drawn are.here in
    let count : length words ≡ length (present os tris x y) = count_is os tris r p words few limit c.region_law.ensures c.requires.place alike in
    let fit = words_fit tris limit os few r c.region_law.ensures p words are in
    record {
      fragments = pixel_is os tris r p words few limit c.region_law.ensures c.requires.place are;
      count = count;
      most = omega (arith, count, present_few os tris x y);
      layers = λ k l. layers_are os tris r p k words few l limit c.region_law.ensures c.requires.place alike;
      told = λ k l.
          ap (map layer_of) (layers_are os tris r p k words few l limit c.region_law.ensures c.requires.place alike)
          ∙ map_below (2 ^ 24) layer_of (layer_word os tris x y k) (layer_at os tris x y k) (told_is tris os x y k) (layers os tris x y k) (layers_below tris os x y k limit);
      fit = fit;
      ordered_fit = All-permutation (IsFragmentAt os tris x y) words (in_order nat_lt words) (permuted nat_lt words) fit;
    }
