use Rattle.std.proofs.Common.{rules, ◌≡◌, ◌≤◌, ◌+◌, ◌-◌, ◌⊎◌, inl, inr, ◌<ℤ◌, pos, true, false, List, IsPermutation, arith, sym, ◌∙◌, subst}
use Rattle.abuf_raster.specs.declared.region.Hit.{Hit}
use Rattle.abuf_raster.specs.Edge.{edge_function}
use Rattle.abuf_raster.specs.Triangle.{Triangle, positive_order}
use Rattle.abuf_raster.specs.Samples.{offsets_of}
use Rattle.abuf_raster.specs.Hits.{hits}
use Rattle.abuf_raster.specs.Walk.{left_hits}
use Rattle.abuf_raster.specs.TilesLeft.{hits_left}
use Rattle.abuf_raster.proofs.Acceptance.{positive_area}
use Rattle.abuf_raster.proofs.Boxes.{permutation_of_none, no_hits, box_hits}
use Rattle.abuf_raster.proofs.Counts.{box_pixels}
use Rattle.abuf_raster.proofs.Turned.{hits_turned, hits_of_none, box_turned}
use Rattle.abuf_raster.proofs.tiles.Tiles.new.Goals as goal

pub returns-then-is_empty-clause-hits : goal.returns-then-is_empty-clause-hits
returns-then-is_empty-clause-hits c =
    let b = c.of-bounds.result in
    let i = c.of-bounds.ensures in
    let empty : (b.right ≤ b.left) ⊎ (b.bottom ≤ b.top) = elim (c.is_empty.ensures.0 c.if-is_empty.true) [ inl e ↦ inl (omega (arith, e)) | inr e ↦ inr (omega (arith, e)) ] in
    permutation_of_none (hits_left c.none.result) _ c.none.ensures.none (no_hits c.args.t.now c.args.prim (offsets_of c.args.pattern) c.args.region (omega (arith, c.region_law.ensures.w_some)) b.left b.right b.top b.bottom i.x_low i.x_high i.y_low i.y_high i.left i.right i.above i.under empty)

pub returns-then-not-has_area-clause-hits : goal.returns-then-not-has_area-clause-hits
returns-then-not-has_area-clause-hits c =
    let none : c.has_area.result ≡ false = search rules in
    permutation_of_none (hits_left c.none-then-not-has_area.result) _ c.none-then-not-has_area.ensures.none (hits_of_none c.args.t.now c.args.prim (offsets_of c.args.pattern) c.args.region (omega (arith, c.region_law.ensures.w_some)) (sym c.has_area.ensures.value ∙ none))

pub returns-clause-tiles : goal.returns-clause-tiles
returns-clause-tiles c =
    let yes : c.has_area.result ≡ true = search rules in
    let b = c.of-bounds.result in
    let i = c.of-bounds.ensures in
    record {
      x_low = omega arith;
      x_within = search rules;
      end_x_within = omega (arith, i.x_high, c.region_law.ensures.x_within);
      end_y_within = omega (arith, i.y_high, c.region_law.ensures.y_within);
      positive = λ _. subst (λ (u : Triangle). pos 0 <ℤ edge_function u.a u.b u.c) (sym c.positive_order-triangle.ensures.value) (positive_area c.args.t.now (sym c.has_area.ensures.value ∙ yes));
      setup = λ _. c.narrow_setup.ensures;
    }

pub returns-clause-hits : goal.returns-clause-hits
returns-clause-hits c =
    let yes : c.has_area.result ≡ true = search rules in
    let t = c.args.t.now in
    let os = offsets_of c.args.pattern in
    let r = c.args.region in
    let b = c.of-bounds.result in
    let h = sym c.has_area.ensures.value ∙ yes in
    let i = box_turned t os r b h c.of-bounds.ensures in
    let all = box_hits (positive_order t) c.args.prim os r (omega (arith, c.region_law.ensures.w_some)) b.left b.right b.top b.bottom i.x_low i.x_high i.y_low i.y_high i.left i.right i.above i.under i.x_order i.y_order in
    subst (λ (u : Triangle). IsPermutation (left_hits u c.args.prim os b.left b.left b.right b.top b.bottom) (hits t c.args.prim os r)) (sym c.positive_order-triangle.ensures.value)
    (subst (λ (xs : List Hit). IsPermutation (left_hits (positive_order t) c.args.prim os b.left b.left b.right b.top b.bottom) xs) (hits_turned t c.args.prim os r h) all)

pub returns-clause-pixels : goal.returns-clause-pixels
returns-clause-pixels c =
    let b = c.of-bounds.result in
    let i = c.of-bounds.ensures in
    box_pixels (b.right - b.left) (b.bottom - b.top) c.args.region.w c.args.region.h (b.bottom - (b.top + 8)) (omega arith) (omega (arith, i.x_low, i.x_high)) (omega (arith, i.y_low, i.y_high))
