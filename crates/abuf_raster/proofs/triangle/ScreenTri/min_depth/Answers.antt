use Rattle.std.proofs.Common.{◌≡◌, ℕ, min, ap, ◌∙◌, sym, subst}
use Rattle.abuf_raster.specs.Depth.{min_depth, HasNoKeyBelow}
use Rattle.abuf_raster.specs.Triangle.{Triangle}
use Rattle.abuf_raster.proofs.Means.{no_key_below}
use Rattle.abuf_raster.proofs.triangle.ScreenTri.min_depth.Goals as goal

pub returns-clause-keys : goal.returns-clause-keys
returns-clause-keys c =
    let is : c.min-2.result ≡ min_depth c.args.self.now =
    c.min-2.ensures ∙ (ap (λ (n : ℕ). min c.self.inside.qa n) c.min.ensures ∙ ap (λ (t : Triangle). min_depth t) c.self.view_is) in
    subst (HasNoKeyBelow c.args.self.now) (sym is) (no_key_below c.args.self.now)
