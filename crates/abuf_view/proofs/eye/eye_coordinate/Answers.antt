use Rattle.std.proofs.Common.{arith, ◌∙◌, ◌≤◌, ◌*◌, ◌+ℤ◌, unsigned_abs, SFits, w64}
use Rattle.std.proofs.lemmas.Int.{to_z-of_z}
use Rattle.abuf_view.proofs.Bounds.{fits55}
use Rattle.abuf_view.proofs.eye.eye_coordinate.Goals as goal

pub returns : goal.returns
returns c =
    let f1 : SFits w64 c.args.row.x = fits55 _ (omega (arith, c.requires.row.0, c.requires.norm)) in
    let f2 : SFits w64 c.args.row.y = fits55 _ (omega (arith, c.requires.row.1, c.requires.norm)) in
    let f3 : SFits w64 c.args.row.z = fits55 _ (omega (arith, c.requires.row.2, c.requires.norm)) in
    let f4 : SFits w64 c.args.p.x = fits55 _ (omega (arith, c.requires.p.0)) in
    let f5 : SFits w64 c.args.p.y = fits55 _ (omega (arith, c.requires.p.1)) in
    let f6 : SFits w64 c.args.p.z = fits55 _ (omega (arith, c.requires.p.2)) in
    let f7 = c.ranges.norm in
    let f8 = c.ranges.shift in
    let g1 : SFits w64 c.times-first.result = record { sfits = c.times-first.type_inv } in
    let g2 : SFits w64 c.times-second.result = record { sfits = c.times-second.type_inv } in
    let g3 : SFits w64 c.times-third.result = record { sfits = c.times-third.type_inv } in
    let g4 : SFits w64 c.times-fourth.result = record { sfits = c.times-fourth.type_inv } in
    let g5 : SFits w64 c.sum.result = record { sfits = c.sum.type_inv } in
    let g6 : SFits w64 c.sum-2.result = record { sfits = c.sum-2.type_inv } in
    let g7 : SFits w64 c.sum-3.result = record { sfits = c.sum-3.type_inv } in
    let a = simp to_z-of_z at c.times-first.ensures in
    let b = simp to_z-of_z at c.times-second.ensures in
    let d = simp to_z-of_z at c.times-third.ensures in
    let e = simp to_z-of_z at c.times-fourth.ensures in
    let s = simp to_z-of_z at c.sum.ensures in
    let t = simp to_z-of_z at c.sum-2.ensures in
    let u = simp to_z-of_z at c.sum-3.ensures in
    let small : unsigned_abs c.sum-3.result ≤ unsigned_abs c.args.norm * 8589934588 = omega (arith, a.bound, b.bound, d.bound, e.bound, s.bound, t.bound, u.bound, c.requires.row) in
    simp to_z-of_z (record {
      value = u.value ∙ (λ i. (t.value ∙ (λ j. (s.value ∙ (λ k. a.value k +ℤ b.value k)) j +ℤ d.value j)) i +ℤ e.value i);
      bound = small;
      small = omega (arith, small, c.requires.norm);
    })
