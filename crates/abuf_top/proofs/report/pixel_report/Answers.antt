use Rattle.std.proofs.Common.{◌+◌, ◌*◌, ◌/◌, ◌%◌, ◌∙◌, All, List, ℕ, sym, subst}
use Rattle.std.specs.List.Sorted.{IsNonDecreasing, IsPermutation}
use Rattle.std.proofs.lemmas.List.Sorted.{IsPermutation-sym, IsPermutation-trans, IsNonDecreasingBy-from_sort}
use Rattle.abuf_raster.specs.Hits.{all_fragments}
use Rattle.abuf_raster.specs.Samples.{offsets_of}
use Rattle.abuf_resolve.specs.Laws.{TellLayers}
use Rattle.abuf_resolve.specs.Words.{AreWordsAt, IsFragmentAt}
use Rattle.abuf_top.proofs.Lines.{column_is, row_is}
use Rattle.abuf_top.proofs.report.pixel_report.Goals as goal

pub order_law-requires-clause-ascending : goal.order_law-requires-clause-ascending
order_law-requires-clause-ascending c =
    subst IsNonDecreasing (sym c.deref-2.ensures.value) (IsNonDecreasingBy-from_sort (λ x. x) c.sort_unstable.new.self.items c.sort_unstable.ensures.sorted)

pub pixel_law-requires-clause-words : goal.pixel_law-requires-clause-words
pixel_law-requires-clause-words c =
    let w = c.requires.words in
    let shuffled : IsPermutation c.deref-3.result.now c.args.words.items =
    IsPermutation-sym _ _ (subst (λ (xs : List ℕ). IsPermutation c.args.words.items xs) (sym c.deref-3.ensures.value) c.sort_unstable.ensures.permutation) in
    subst (λ (width : ℕ). AreWordsAt (all_fragments c.args.triangles.now 0 (offsets_of c.args.pattern) c.args.region) (c.args.at.y * width + c.args.at.x) c.deref-3.result.now) (sym c.w.ensures.value) (record {
      entries = w.entries;
      drawn = w.drawn;
      here = IsPermutation-trans _ _ _ shuffled w.here;
    })

-- What is told of the words of the pixel at its place in the region holds of the pixel, under the names of the call.
module _ (c : goal.After-deref-4) (Told : ℕ → ℕ → List ℕ → Type 0) where
  pub moved : Told (c.args.region.x0 + (c.args.at.y * c.w.result + c.args.at.x) % c.args.region.w) (c.args.region.y0 + (c.args.at.y * c.w.result + c.args.at.x) / c.args.region.w) c.deref-3.result.now → Told c.args.at.x c.args.at.y c.deref-4.result.now
  moved told =
      let r = c.args.region in
      let at = c.args.at in
      let place : ℕ = at.y * r.w + at.x in
      let words : List ℕ = c.deref-3.result.now in
      let column = column_is r at.x at.y c.requires.corner.0 c.requires.pixel.0 in
      let row = row_is r at.x at.y c.requires.corner.1 c.requires.pixel.0 in
      let here : Told at.x at.y words =
      subst (λ (x : ℕ). Told x at.y words) column (subst (λ (y : ℕ). Told (r.x0 + place % r.w) y words) row
      (subst (λ (width : ℕ). Told (r.x0 + (at.y * width + at.x) % r.w) (r.y0 + (at.y * width + at.x) / r.w) words) c.w.ensures.value told)) in
      subst (λ (ws : List ℕ). Told at.x at.y ws) (c.deref-3.ensures.value ∙ sym c.deref-4.ensures.value) here

pub pixel_text-requires-clause-fit : goal.pixel_text-requires-clause-fit
pixel_text-requires-clause-fit c =
    moved c (λ x y words. All (IsFragmentAt (offsets_of c.args.pattern) c.args.triangles.now x y) words) c.pixel_law.ensures.fit

pub pixel_text-requires-clause-layers : goal.pixel_text-requires-clause-layers
pixel_text-requires-clause-layers c = moved c (λ x y words. TellLayers (offsets_of c.args.pattern) c.args.triangles.now x y words) c.pixel_law.ensures.told
