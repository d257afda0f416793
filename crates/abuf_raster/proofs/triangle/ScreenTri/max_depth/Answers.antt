use Rattle.std.proofs.Common.{◌≡◌, ℕ, max, ap, ◌∙◌, sym, subst}
use Rattle.abuf_raster.specs.Depth.{max_depth, HasNoKeyAbove}
use Rattle.abuf_raster.specs.Triangle.{Triangle}
use Rattle.abuf_raster.proofs.Means.{no_key_above}
use Rattle.abuf_raster.proofs.triangle.ScreenTri.max_depth.Goals as goal

pub returns-clause-keys : goal.returns-clause-keys
returns-clause-keys c =
    let is : c.max-2.result ≡ max_depth c.args.self.now =
    c.max-2.ensures ∙ (ap (λ (n : ℕ). max c.self.inside.qa n) c.max.ensures ∙ ap (λ (t : Triangle). max_depth t) c.self.view_is) in
    subst (HasNoKeyAbove c.args.self.now) (sym is) (no_key_above c.args.self.now)
