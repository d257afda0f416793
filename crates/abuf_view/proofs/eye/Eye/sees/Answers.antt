use Rattle.std.proofs.Common.{arith, ◌∙◌, ap, ◌≤◌, ◌*◌, ℤ, neg_ℤ, unsigned_abs, SFits, w64}
use Rattle.std.proofs.lemmas.Int.{ints, to_z-of_z}
use Rattle.abuf_view.proofs.Bounds.{fits55, neg_back}
use Rattle.abuf_view.proofs.eye.Eye.sees.Goals as goal
use Rattle.abuf_view.proofs.eye.Eye.sees.Goals.{After-eye_coordinate-z}

module _ (c : After-eye_coordinate-z) where
  abbrev norm : ℤ
  norm = c.args.self.now.near_plane.norm

  norm_le : unsigned_abs norm ≤ 4194304
  norm_le = omega (arith, ints, c.requires.eye.near_plane.norm_low, c.requires.eye.near_plane.norm_high)

  norm_fits : SFits w64 norm
  norm_fits = fits55 norm (omega (arith, norm_le))

  z_le : unsigned_abs c.eye_coordinate-z.result ≤ unsigned_abs norm * 8589934588
  z_le = let f = norm_fits in simp to_z-of_z at c.eye_coordinate-z.ensures.bound

pub overflow_sub-result : goal.overflow_sub-result
overflow_sub-result c = let d = (goal.at.overflow_sub-result c).After-eye_coordinate-z in omega (arith, ints, z_le d, norm_le d)

pub returns : goal.returns
returns c =
    let d = (goal.at.returns c).After-eye_coordinate-z in
    let eye = c.args.self.now in
    let f1 = norm_fits d in
    let f2 : SFits w64 c.eye_coordinate-x.result = record { sfits = c.eye_coordinate-x.type_inv } in
    let f3 : SFits w64 c.eye_coordinate-y.result = record { sfits = c.eye_coordinate-y.type_inv } in
    let f4 = fits55 eye.shift.x (omega (arith, c.requires.eye.shift.0)) in
    let f5 = fits55 eye.shift.y (omega (arith, c.requires.eye.shift.1)) in
    let f6 = fits55 eye.shift.z (omega (arith, c.requires.eye.shift.2)) in
    let x = to_z-of_z w64 c.eye_coordinate-x.result f2 in
    let y = to_z-of_z w64 c.eye_coordinate-y.result f3 in
    let w = neg_back c.eye_coordinate-z.result (omega (arith, z_le d, norm_le d)) in
    let ex = x ∙ simp to_z-of_z at c.eye_coordinate-x.ensures.value in
    let ey = y ∙ simp to_z-of_z at c.eye_coordinate-y.ensures.value in
    let ew = w ∙ ap neg_ℤ (simp to_z-of_z at c.eye_coordinate-z.ensures.value) in
    record {
      value = λ i. record { x = ex i; y = ey i; w = ew i };
      bounded = record {
        x_small = rw x (simp to_z-of_z at c.eye_coordinate-x.ensures.bound);
        y_small = rw y (simp to_z-of_z at c.eye_coordinate-y.ensures.bound);
        w_small = rw w (omega (arith, ints, z_le d));
      };
    }
