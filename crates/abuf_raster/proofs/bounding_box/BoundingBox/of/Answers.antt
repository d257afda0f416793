use Rattle.std.proofs.Common.{arith, subst}
use Rattle.std.proofs.lemmas.Int.{ints}
use Rattle.abuf_raster.specs.declared.pattern.Pattern.{Pattern}
use Rattle.abuf_raster.specs.Triangle.{Triangle}
use Rattle.abuf_raster.specs.Samples.{offsets_of}
use Rattle.abuf_raster.specs.BoundingBox.{IsBoxOf}
use Rattle.abuf_raster.proofs.Outside.{none_left, none_right, none_above, none_under}
use Rattle.abuf_raster.proofs.bounding_box.BoundingBox.of.Goals as goal

pub returns : goal.returns
returns c =
    let u : Triangle = record { a = c.t.inside.a; b = c.t.inside.b; c = c.t.inside.c; qa = c.t.inside.qa; qb = c.t.inside.qb; qc = c.t.inside.qc } in
    let p : Pattern = c.args.pattern in
    let m = c.reach-margin.ensures in
    let r = c.args.region in
    let low_x = c.first_pixel-left.ensures in
    let high_x = c.end_pixel-right.ensures in
    let low_y = c.first_pixel-top.ensures in
    let high_y = c.end_pixel-bottom.ensures in
    let all : IsBoxOf u (offsets_of p) r (record { left = c.first_pixel-left.result; right = c.max.result; top = c.first_pixel-top.result; bottom = c.max-2.result }) = record {
      x_order = omega arith;
      y_order = omega arith;
      x_low = omega arith;
      x_high = omega arith;
      y_low = omega arith;
      y_high = omega arith;
      left = λ i j l g. let f = low_x.before i (omega arith) g in none_left u p i j (omega (arith, ints, f.0, m, c.t.invariant)) (omega (arith, ints, f.1, m, c.t.invariant)) (omega (arith, ints, f.2, m, c.t.invariant));
      right = λ i j l g. let f = high_x.behind i (omega arith) (omega arith) in none_right u p i j (omega (arith, ints, f.0, m, c.t.invariant)) (omega (arith, ints, f.1, m, c.t.invariant)) (omega (arith, ints, f.2, m, c.t.invariant));
      above = λ i j l g. let f = low_y.before j (omega arith) g in none_above u p i j (omega (arith, ints, f.0, m, c.t.invariant)) (omega (arith, ints, f.1, m, c.t.invariant)) (omega (arith, ints, f.2, m, c.t.invariant));
      under = λ i j l g. let f = high_y.behind j (omega arith) (omega arith) in none_under u p i j (omega (arith, ints, f.0, m, c.t.invariant)) (omega (arith, ints, f.1, m, c.t.invariant)) (omega (arith, ints, f.2, m, c.t.invariant));
    } in
    subst (λ (v : Triangle). IsBoxOf v (offsets_of p) r (record { left = c.first_pixel-left.result; right = c.max.result; top = c.first_pixel-top.result; bottom = c.max-2.result })) c.t.view_is all
