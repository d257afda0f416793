use Rattle.std.proofs.Common.{◌*◌, ◌∙◌, List, length, ap}
use Rattle.std.proofs.lemmas.List.FromFn.{length-map-range_with_len}
use Rattle.abuf_num.specs.declared.plain.PixelSum.{PixelSum}
use Rattle.abuf_picture.proofs.resolving.CompositingResolve.resolve.Goals as goal

pub returns-clause-fits : goal.returns-clause-fits
returns-clause-fits g c =
    let r = c.args.target.now.region in
    record {
      each = ap (λ (xs : List PixelSum). length xs) c.in_ok-all.ensures.value ∙ length-map-range_with_len _ 0 (r.w * r.h);
      small = c.in_ok-all.ensures.small;
    }
