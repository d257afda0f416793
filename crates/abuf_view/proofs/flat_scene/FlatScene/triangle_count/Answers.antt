use Rattle.std.proofs.Common.{◌≡◌, ◌+◌, ◌*◌, ap, arith, length, List}
use Rattle.abuf_obj.specs.FaceRows.{corners_of}
use Rattle.abuf_obj.specs.declared.face.Face.{Face}
use Rattle.abuf_scene.specs.Lookup.{look_up}
use Rattle.abuf_scene.specs.declared.triangles.Triangle.{Triangle}
use Rattle.abuf_view.proofs.Known.{counted, none_found}
use Rattle.abuf_view.proofs.flat_scene.FlatScene.triangle_count.Goals as goal
use Rattle.abuf_view.proofs.flat_scene.FlatScene.triangle_count.Goals.{After-len}

-- The triangles, and two for each face, are as many as the corners.
all : (c : After-len) → length c.args.self.now + 2 * c.len.result ≡ c.corner_count.result
all c =
    let obj = c.self.inside.obj in
    let count = counted (look_up c.self.inside.palette.materials.value) obj (length obj.points) obj.faces c.self.invariant.0.faces (none_found _ c.self.invariant.2) in
    omega (arith, count, ap (λ (ts : List Triangle). length ts) c.self.view_is, c.len.ensures, c.corner_count.ensures, ap (λ (fs : List Face). length fs) c.faces-faces.ensures, ap corners_of c.faces-faces.ensures)

pub overflow_mul-result : goal.overflow_mul-result
overflow_mul-result c = omega (arith, all c, c.corner_count.type_inv)

pub overflow_sub-result : goal.overflow_sub-result
overflow_sub-result c = omega (arith, all (goal.at.overflow_sub-result c).After-len)

pub returns : goal.returns
returns c = omega (arith, all c)
