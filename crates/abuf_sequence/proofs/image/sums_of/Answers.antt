use Rattle.std.proofs.Common.{◌≡◌, sym, ◌∙◌, arith}
use Rattle.abuf_sequence.specs.Sequences.{total_of}
use Rattle.abuf_sequence.proofs.Drawing.{count, sums_are}
use Rattle.abuf_sequence.proofs.image.sums_of.Goals as goal

pub returns : goal.returns
returns g c =
    let plan = c.args.plan.now in
    let pool = c.target_of-pool.ensures in
    let t = c.target_of-target.ensures in
    let k = c.camera_of-camera in
    let projected = c.in_ok-projected in
    let p = c.of-primitives in
    let drawn = rw (pool.pattern, pool.region, pool.nodes) at c.in_ok-closed.ensures in
    let all : total_of plan (g.S.Subject.triangles c.args.scene.now) c.args.job.shot ≡ c.in_ok-closed.closed.fragments =
    sym (drawn.frame.count ∙ count plan (g.S.Subject.triangles c.args.scene.now) c.args.job.shot k.result k.ensures p.result.triangles.now projected.projected.tris p.ensures.triangles projected.ensures.tris) in
    record {
      fit = omega (arith, all, drawn.pool.few, c.in_default.ensures.none);
      are = rw (t.pattern, t.region, t.background) at c.in_ok-resolved.ensures.sums
          ∙ sums_are plan (g.S.Subject.triangles c.args.scene.now) c.args.job.shot k.result k.ensures p.result.triangles.now projected.projected.tris p.ensures.triangles projected.ensures.tris
          p.result.paints.now projected.projected.paints p.ensures.paints projected.ensures.paints;
      small = rw t.pattern at c.in_ok-resolved.ensures.small;
    }
