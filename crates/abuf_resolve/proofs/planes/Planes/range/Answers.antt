use Rattle.std.proofs.Common.{◌≡◌, ◌≤◌, ◌<◌, ◌∙◌, ℕ, List, Option, IfSome, Some, get_or, length, ap, sym, subst, arith}
use Rattle.std.proofs.lemmas.List.{get_or-map}
use Rattle.abuf_raster.specs.Depth.{HasNoKeyAbove, HasNoKeyBelow}
use Rattle.abuf_raster.specs.Triangle.{Triangle}
use Rattle.abuf_raster.proofs.Means.{no_key_above, no_key_below}
use Rattle.abuf_resolve.specs.Colour.{triangle_at}
use Rattle.abuf_resolve.specs.Precomputed.{depth_range, IsOf}
use Rattle.abuf_resolve.specs.declared.planes.Bounds.{Bounds}
use Rattle.abuf_resolve.specs.declared.planes.Precomputed.{Precomputed}
use Rattle.abuf_resolve.proofs.planes.Planes.range.Goals as goal

-- What was worked out of a triangle is its range.
is_range : (tris : List Triangle) (precomputed : Option Precomputed) (one : Precomputed) (n : ℕ) (range : Bounds) → IfSome precomputed (IsOf tris) → precomputed ≡ Some one → n < length tris → range ≡ get_or one.ranges.items n range
    → range ≡ depth_range (triangle_at tris n)
is_range tris precomputed one n range of some within at =
    at
    ∙ (ap (λ (ranges : List Bounds). get_or ranges n range) (subst (λ (m : Option Precomputed). IfSome m (IsOf tris)) some of).ranges
    ∙ get_or-map depth_range tris n _ range within)

pub returns-in-Some-clause-low : goal.returns-in-Some-clause-low
returns-in-Some-clause-low c =
    let t = triangle_at c.args.self.now c.args.prim in
    let of = subst (λ (ts : List Triangle). IfSome c.self.inside.precomputed (IsOf ts)) c.self.view_is c.self.invariant in
    let is = is_range c.args.self.now c.self.inside.precomputed c.in-Some.precomputed c.args.prim c.index.result.now of c.in-Some.is c.requires.prim c.index.ensures in
    subst (λ (b : Bounds). HasNoKeyBelow t b.low) (sym is) (no_key_below t)

pub returns-in-Some-clause-high : goal.returns-in-Some-clause-high
returns-in-Some-clause-high c =
    let t = triangle_at c.args.self.now c.args.prim in
    let of = subst (λ (ts : List Triangle). IfSome c.self.inside.precomputed (IsOf ts)) c.self.view_is c.self.invariant in
    let is = is_range c.args.self.now c.self.inside.precomputed c.in-Some.precomputed c.args.prim c.index.result.now of c.in-Some.is c.requires.prim c.index.ensures in
    subst (λ (b : Bounds). HasNoKeyAbove t b.high) (sym is) (no_key_above t)

pub returns-in-Some-clause-rising : goal.returns-in-Some-clause-rising
returns-in-Some-clause-rising c =
    let t = triangle_at c.args.self.now c.args.prim in
    let of = subst (λ (ts : List Triangle). IfSome c.self.inside.precomputed (IsOf ts)) c.self.view_is c.self.invariant in
    let is = is_range c.args.self.now c.self.inside.precomputed c.in-Some.precomputed c.args.prim c.index.result.now of c.in-Some.is c.requires.prim c.index.ensures in
    subst (λ (b : Bounds). b.low ≤ b.high) (sym is) (omega arith)
