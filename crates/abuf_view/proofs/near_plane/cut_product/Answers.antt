use Rattle.std.proofs.Common.{arith, ◌≡◌, ◌∙◌, ap₂, ◌<◌, ◌^◌, ℤ, ◌*ℤ◌, ◌-ℤ◌, w64, to_z, of_z, unsigned_abs}
use Rattle.std.specs.Int.{w128}
use Rattle.std.proofs.lemmas.Int.{ints, to_z-of_z}
use Rattle.abuf_view.proofs.Bounds.{abs-mul}
use Rattle.abuf_view.proofs.near_plane.cut_product.Goals as goal
use Rattle.abuf_view.proofs.near_plane.cut_product.Goals.{After-product}

value : (c : After-product) → c.product.result ≡ (c.args.q -ℤ c.args.p) *ℤ c.args.near
value c =
    let d : to_z w64 (of_z w64 (to_z w64 (of_z w64 c.args.q) -ℤ to_z w64 (of_z w64 c.args.p))) ≡ c.args.q -ℤ c.args.p = omega (arith, ints, c.requires.p, c.requires.q) in
    c.product.ensures ∙ ap₂ (λ (x y : ℤ). x *ℤ y) d (to_z-of_z w64 c.args.near c.ranges.near)

bound : (c : After-product) → unsigned_abs c.product.result < 2 ^ 112
bound c =
    let m = abs-mul (c.args.q -ℤ c.args.p) c.args.near (2 ^ 56) 72057594037927935 (omega (arith, ints, c.requires.p, c.requires.q)) (omega (arith, c.requires.near)) in
    rw (value c) (omega (arith, m))

pub returns : goal.returns
returns c =
    let d = (goal.at.returns c).After-product in
    let e = to_z-of_z w128 c.product.result (record { sfits = c.product.type_inv }) in
    record { value = e ∙ value d; bound = rw e (bound d) }
