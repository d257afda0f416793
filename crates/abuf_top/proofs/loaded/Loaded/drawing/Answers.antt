use Rattle.std.proofs.Common.{◌≡◌, ◌∙◌, ℕ, List, Option, None, Ok, map, ap, sym}
use Rattle.abuf_num.specs.declared.plain.Paint.{Paint}
use Rattle.abuf_raster.specs.Triangle as screen
use Rattle.abuf_scene.specs.Triangles.{triangles, unknown}
use Rattle.abuf_scene.specs.declared.triangles.Triangle.{Triangle}
use Rattle.abuf_view.specs.Camera.{Camera}
use Rattle.abuf_view.specs.Primitives.{prims}
use Rattle.abuf_cli.specs.Job.{Job}
use Rattle.abuf_cli.specs.declared.job.What.{What}
use Rattle.abuf_top.specs.Image.{Drawing}
use Rattle.abuf_top.specs.Verdict.{drawing_verdict, or_unknown}
use Rattle.abuf_top.specs.declared.task.Task.TheVariants.{Draw}
use Rattle.abuf_top.proofs.loaded.Loaded.drawing.Goals as goal

-- a scene of which no material is unknown is drawn as the camera sees it
drawn : (job : Job) (what : What) (seen : Camera) (line : Option ℕ) (scene : List Triangle) (tris : List screen.Triangle) (paints : List Paint) (d : Drawing)
    → seen ≡ job.camera → line ≡ None → tris ≡ map (λ p. p.triangle) (prims seen scene) → paints ≡ map (λ p. p.paint) (prims seen scene)
    → d ≡ record { job = job; what = what; triangles = tris; paints = paints } → drawing_verdict job what (or_unknown line scene) ≡ Ok (Draw d)
drawn job what seen line scene tris paints d same none t p is =
    let all : d ≡ record { job = job; what = what; triangles = map (λ q. q.triangle) (prims job.camera scene); paints = map (λ q. q.paint) (prims job.camera scene) } =
    is ∙ (λ i. record {
      job = job;
      what = what;
      triangles = (t ∙ ap (λ (k : Camera). map (λ q. q.triangle) (prims k scene)) same) i;
      paints = (p ∙ ap (λ (k : Camera). map (λ q. q.paint) (prims k scene)) same) i;
    }) in
    ap (λ (u : Option ℕ). drawing_verdict job what (or_unknown u scene)) none ∙ ap (λ (x : Drawing). Ok (Draw x)) (sym all)

pub returns-clause-told : goal.returns-clause-told
returns-clause-told g c = λ libraries stands.
    let scene = c.in_ok-scene.ensures in
    let seen = c.in-Ok.ensures in
    let same = ap (prims c.camera.result.now) (scene.triangles libraries stands) in
    drawn c.args.job c.args.what c.camera.result.now (unknown libraries c.args.self.obj) (triangles libraries c.args.self.obj) _ _ c.new-2.result
    c.camera.ensures.value (scene.known libraries stands)
    (seen.tris ∙ ap (map (λ p. p.triangle)) same) (seen.paints ∙ ap (map (λ p. p.paint)) same) c.new-2.ensures
