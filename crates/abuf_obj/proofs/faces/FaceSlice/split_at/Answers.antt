use Rattle.std.proofs.Common.{◌≡◌, ◌∙◌, ℕ, List, length, take, drop, ap, ap₂, arith}
use Rattle.std.proofs.lemmas.List.{length-drop}
use Rattle.abuf_obj.specs.declared.face.Face.{Face}
use Rattle.abuf_obj.specs.FaceRows.{corners_in, faces_in_rows}
use Rattle.abuf_obj.proofs.Rows.{rows-length, rows-take, rows-drop, corners-take, corners-split}
use Rattle.abuf_obj.proofs.faces.FaceSlice.split_at.Goals as goal

pub split_at-requires : goal.split_at-requires
split_at-requires c =
    let there = rows-length c.self.inside.corners.now c.self.inside.rows.now in
    let same = ap length c.self.view_is in
    omega (arith, c.requires, there, same)

pub count_corners-requires : goal.count_corners-requires
count_corners-requires c =
    let own = c.self.inside in
    let front = ap corners_in c.split_at.ensures.front in
    let few = corners-take c.args.count own.rows.now in
    omega (arith, front, few, c.self.invariant, c.self.ranges)

pub split_at-requires-2 : goal.split_at-requires-2
split_at-requires-2 c =
    let own = c.self.inside in
    let front = ap corners_in c.split_at.ensures.front in
    let few = corners-take c.args.count own.rows.now in
    omega (arith, c.count_corners.ensures, front, few, c.self.invariant)

pub invariant_of-rest : goal.invariant_of-rest
invariant_of-rest c =
    let own = c.self.inside in
    let n = c.args.count in
    let front = ap corners_in c.split_at.ensures.front in
    let back = ap corners_in c.split_at.ensures.back in
    let parts = corners-split n own.rows.now in
    let left = ap length c.split_at-2.ensures.back in
    let fewer = length-drop c.count_corners.result own.corners.now in
    omega (arith, c.count_corners.ensures, front, back, parts, left, fewer, c.self.invariant)

pub returns-clause-first : goal.returns-clause-first
returns-clause-first c =
    let own = c.self.inside in
    let n = c.args.count in
    let count : c.count_corners.result ≡ corners_in (take n own.rows.now) = c.count_corners.ensures ∙ ap corners_in c.split_at.ensures.front in
    ap₂ faces_in_rows (c.split_at-2.ensures.front ∙ ap (λ (k : ℕ). take k own.corners.now) count) c.split_at.ensures.front
    ∙ (rows-take n own.corners.now own.rows.now
    ∙ ap (λ (fs : List Face). take n fs) c.self.view_is)

pub returns-clause-rest : goal.returns-clause-rest
returns-clause-rest c =
    let own = c.self.inside in
    let n = c.args.count in
    let count : c.count_corners.result ≡ corners_in (take n own.rows.now) = c.count_corners.ensures ∙ ap corners_in c.split_at.ensures.front in
    ap₂ faces_in_rows (c.split_at-2.ensures.back ∙ ap (λ (k : ℕ). drop k own.corners.now) count) c.split_at.ensures.back
    ∙ (rows-drop n own.corners.now own.rows.now
    ∙ ap (λ (fs : List Face). drop n fs) c.self.view_is)
