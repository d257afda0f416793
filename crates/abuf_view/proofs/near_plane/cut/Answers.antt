use Rattle.std.proofs.Common.{arith, ◌≡◌, ◌∙◌, ℤ, pos, ◌-ℤ◌, ◌+ℤ◌, ◌*ℤ◌, ◌<ℤ◌, ◌≤ℤ◌, ◌<◌, ◌^◌, unsigned_abs, SFits, w64, ap₂}
use Rattle.std.proofs.lemmas.Int.{ints, to_z-of_z}
use Rattle.abuf_num.specs.Division.{floor_div}
use Rattle.abuf_view.proofs.Bounds.{eye_point_small, cut_spans, fits55}
use Rattle.abuf_view.proofs.near_plane.cut.Goals as goal
use Rattle.abuf_view.proofs.near_plane.cut.Goals.{After-difference-span}

module _ (c : After-difference-span) where
  p_small : (unsigned_abs c.args.p.x < 2 ^ 55) × (unsigned_abs c.args.p.y < 2 ^ 55) × (unsigned_abs c.args.p.w < 2 ^ 55)
  p_small = eye_point_small c.args.near_plane.norm c.args.near_plane.w c.args.p c.requires.near_plane c.requires.p_bounded

  q_small : (unsigned_abs c.args.q.x < 2 ^ 55) × (unsigned_abs c.args.q.y < 2 ^ 55) × (unsigned_abs c.args.q.w < 2 ^ 55)
  q_small = eye_point_small c.args.near_plane.norm c.args.near_plane.w c.args.q c.requires.near_plane c.requires.q_bounded

  near_is : c.difference-near.result ≡ c.args.p.w -ℤ c.args.near_plane.w
  near_is = c.difference-near.ensures.value ∙ ap₂ (λ (x y : ℤ). x -ℤ y) (to_z-of_z w64 c.args.p.w (fits55 _ p_small.2)) (to_z-of_z w64 c.args.near_plane.w (fits55 _ (omega (arith, c.requires.near_plane.w_high))))

  span_is : c.difference-span.result ≡ c.args.p.w -ℤ c.args.q.w
  span_is = c.difference-span.ensures.value ∙ ap₂ (λ (x y : ℤ). x -ℤ y) (to_z-of_z w64 c.args.p.w (fits55 _ p_small.2)) (to_z-of_z w64 c.args.q.w (fits55 _ q_small.2))

  spans : (pos 0 ≤ℤ c.difference-near.result) × (pos 0 <ℤ c.difference-span.result) × (c.difference-near.result ≤ℤ c.difference-span.result)
  spans = cut_spans c.args.near_plane.norm c.args.near_plane.w c.difference-near.result c.difference-span.result c.args.p c.args.q c.requires.near_plane c.requires.inside c.requires.outside near_is span_is

  near_small : unsigned_abs c.difference-near.result < 2 ^ 56
  near_small = omega (arith, ints, near_is, p_small.2, c.requires.near_plane.w_high)

  near_fits : SFits w64 c.difference-near.result
  near_fits = record { sfits = c.difference-near.type_inv }

  span_fits : SFits w64 c.difference-span.result
  span_fits = record { sfits = c.difference-span.type_inv }

pub cut_coordinate-requires : goal.cut_coordinate-requires
cut_coordinate-requires c =
    let d = (goal.at.cut_coordinate-requires c).After-difference-span in
    let f1 : SFits w64 c.args.p.x = fits55 _ (p_small d).0 in
    let f2 : SFits w64 c.args.q.x = fits55 _ (q_small d).0 in
    let f3 = near_fits d in
    let f4 = span_fits d in
    simp to_z-of_z (record { p = (p_small d).0; q = (q_small d).0; near = (spans d).0; small = near_small d; span = (spans d).1; order = (spans d).2 })

pub cut_coordinate-requires-2 : goal.cut_coordinate-requires-2
cut_coordinate-requires-2 c =
    let d = (goal.at.cut_coordinate-requires-2 c).After-difference-span in
    let f1 : SFits w64 c.args.p.y = fits55 _ (p_small d).1 in
    let f2 : SFits w64 c.args.q.y = fits55 _ (q_small d).1 in
    let f3 = near_fits d in
    let f4 = span_fits d in
    simp to_z-of_z (record { p = (p_small d).1; q = (q_small d).1; near = (spans d).0; small = near_small d; span = (spans d).1; order = (spans d).2 })

pub returns : goal.returns
returns c =
    let d = (goal.at.returns c).After-difference-span in
    let f1 : SFits w64 c.args.p.x = fits55 _ (p_small d).0 in
    let f2 : SFits w64 c.args.q.x = fits55 _ (q_small d).0 in
    let f3 : SFits w64 c.args.p.y = fits55 _ (p_small d).1 in
    let f4 : SFits w64 c.args.q.y = fits55 _ (q_small d).1 in
    let f5 = near_fits d in
    let f6 = span_fits d in
    let f7 : SFits w64 c.cut_coordinate.result = record { sfits = c.cut_coordinate.type_inv } in
    let f8 : SFits w64 c.cut_coordinate-2.result = record { sfits = c.cut_coordinate-2.type_inv } in
    let f9 : SFits w64 c.args.near_plane.w = fits55 _ (omega (arith, c.requires.near_plane.w_high)) in
    let ex = (simp to_z-of_z at c.cut_coordinate.ensures.value) ∙ ap₂ (λ (n s : ℤ). c.args.p.x +ℤ floor_div ((c.args.q.x -ℤ c.args.p.x) *ℤ n) s) (near_is d) (span_is d) in
    let ey = (simp to_z-of_z at c.cut_coordinate-2.ensures.value) ∙ ap₂ (λ (n s : ℤ). c.args.p.y +ℤ floor_div ((c.args.q.y -ℤ c.args.p.y) *ℤ n) s) (near_is d) (span_is d) in
    let wx = simp to_z-of_z at c.cut_coordinate.ensures.within in
    let wy = simp to_z-of_z at c.cut_coordinate-2.ensures.within in
    simp to_z-of_z (record {
      value = λ i. record { x = ex i; y = ey i; w = c.args.near_plane.w };
      bounded = record {
        x_small = omega (arith, wx, c.requires.p_bounded.x_small, c.requires.q_bounded.x_small);
        y_small = omega (arith, wy, c.requires.p_bounded.y_small, c.requires.q_bounded.y_small);
        w_small = omega (arith, ints, c.requires.p_bounded.w_small, c.requires.inside, c.requires.near_plane.w_some);
      };
    })
