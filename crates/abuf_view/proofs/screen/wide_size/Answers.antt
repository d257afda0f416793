use Rattle.std.proofs.Common.{arith, ◌≡◌, ◌∙◌, ap₂, ◌≤◌, ◌<◌, ◌^◌, ◌*◌, ℤ, pos, ◌*ℤ◌, w64, to_z, of_z, unsigned_abs}
use Rattle.std.specs.Int.{w128}
use Rattle.std.proofs.lemmas.Int.{ints, to_z-of_z, fits_signed_from_abs}
use Rattle.abuf_view.proofs.Bounds.{abs-mul}
use Rattle.abuf_view.proofs.screen.wide_size.Goals as goal
use Rattle.abuf_view.proofs.screen.wide_size.Goals.{After-product}

small : (c : After-product) → unsigned_abs (pos (128 * c.args.height) *ℤ c.args.focal) ≤ 2 ^ 39
small c = omega (arith, abs-mul (pos (128 * c.args.height)) c.args.focal (2 ^ 19) (2 ^ 20) (omega (arith, c.requires.height)) (omega (arith, ints, c.requires.focal)))

scale : (c : After-product) → to_z w64 (of_z w64 (to_z w64 (128 * c.args.height) *ℤ to_z w64 (of_z w64 c.args.focal))) ≡ pos (128 * c.args.height) *ℤ c.args.focal
scale c =
    let h : to_z w64 (128 * c.args.height) ≡ pos (128 * c.args.height) = omega (arith, ints, c.requires.height) in
    ap₂ (λ (x y : ℤ). to_z w64 (of_z w64 (x *ℤ y))) h (to_z-of_z w64 c.args.focal c.ranges.focal)
    ∙ to_z-of_z w64 (pos (128 * c.args.height) *ℤ c.args.focal) (fits_signed_from_abs w64 _ (omega (arith, small c)))

value : (c : After-product) → c.product.result ≡ pos (128 * c.args.height) *ℤ c.args.focal *ℤ c.args.x
value c = c.product.ensures ∙ ap₂ (λ (x y : ℤ). x *ℤ y) (scale c) (to_z-of_z w64 c.args.x c.ranges.x)

bound : (c : After-product) → unsigned_abs c.product.result < 2 ^ 95
bound c =
    let m = abs-mul (pos (128 * c.args.height) *ℤ c.args.focal) c.args.x (2 ^ 39) (2 ^ 55) (small c) (omega (arith, c.requires.x)) in
    rw (value c) (omega (arith, m))

pub returns : goal.returns
returns c =
    let d = (goal.at.returns c).After-product in
    let e = to_z-of_z w128 c.product.result (record { sfits = c.product.type_inv }) in
    record { value = e ∙ value d; bound = rw e (bound d) }
