use Rattle.std.proofs.Common.{◌≡◌, ◌∙◌, ◌*◌, List, length, ap, arith}
use Rattle.std.proofs.lemmas.List.FromFn.{length-map-range_with_len}
use Rattle.std.proofs.lemmas.Slice.Zip.{AllZip-long}
use Rattle.abuf_num.specs.declared.plain.PixelSum.{PixelSum}
use Rattle.abuf_watching.proofs.report.report.Goals as goal

pub push_places-requires-clause-count : goal.push_places-requires-clause-count
push_places-requires-clause-count g c = AllZip-long _ c.args.watch.now.places.now c.args.words.now c.requires.words

pub sum_of-sum-requires : goal.sum_of-sum-requires
sum_of-sum-requires g c =
    let r = c.args.watch.now.target.region in
    let count : length c.as_slice.result.now ≡ r.w * r.h = ap (λ (xs : List PixelSum). length xs) (c.as_slice.ensures ∙ c.in_ok-resolved.ensures.sums) ∙ length-map-range_with_len _ 0 (r.w * r.h) in
    omega (arith, count, c.region_law.ensures.not_large)
