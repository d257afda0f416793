use Rattle.std.proofs.Common.{◌≡◌, sym, subst, List, ◌++◌, map, OnOk}
use Rattle.abuf_num.specs.declared.plain.Paint.{Paint}
use Rattle.abuf_raster.specs.Triangle.{Triangle as OnScreen}
use Rattle.abuf_scene.specs.declared.triangles.Triangle.{Triangle}
use Rattle.abuf_view.specs.declared.near_plane.EyeTriangle.{EyeTriangle}
use Rattle.abuf_view.specs.Eye.{clipped_by}
use Rattle.abuf_view.proofs.primitive_lists.PrimitiveLists.push_fan_triangle.Goals as goal

pub returns-in-Some-clause-tris : goal.returns-in-Some-clause-tris
returns-in-Some-clause-tris c =
    subst (λ (l : List OnScreen). OnOk c.push.result (c.push.new.self.tris ≡ c.args.self.now.tris ++ l)) (sym (c.in-Some.ensures c.args.paint).tris) c.push.ensures.tris

pub returns-in-Some-clause-paints : goal.returns-in-Some-clause-paints
returns-in-Some-clause-paints c =
    subst (λ (l : List Paint). OnOk c.push.result (c.push.new.self.paints ≡ c.args.self.now.paints ++ l)) (sym (c.in-Some.ensures c.args.paint).paints) c.push.ensures.paints

pub returns-in-None-clause-paints : goal.returns-in-None-clause-paints
returns-in-None-clause-paints c =
    subst (λ (t : Triangle). OnOk c.push_triangle.result (c.push_triangle.new.self.paints ≡ c.args.self.now.paints ++ map (λ (k : EyeTriangle). t.paint) (clipped_by c.args.table.now.eye t))) c.fan_triangle-in-None.ensures.value c.push_triangle.ensures.paints
