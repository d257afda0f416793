use Rattle.std.proofs.Common.{◌≡◌, ◌∙◌, ap₂, ℤ, ◌+ℤ◌, arith}
use Rattle.abuf_raster.proofs.Rooms.{change_room, clean_product}
use Rattle.abuf_raster.specs.Values.{edge_change}
use Rattle.abuf_raster.proofs.stepping.change_of_edge.Goals as goal
use Rattle.abuf_raster.proofs.stepping.change_of_edge.Goals.{After-product-2}

both : (g : _) (c : After-product-2 g) → g.V.Width.number c.product.result +ℤ g.V.Width.number c.product-2.result ≡ edge_change c.args.a c.args.b c.args.x c.args.y
both g c = ap₂ (λ (x y : ℤ). x +ℤ y)
    (clean_product (g.V.Width.number c.product.result) c.difference.result c.args.b.x c.args.a.x c.args.y (omega arith) (omega arith) (omega arith) c.difference.ensures.value c.product.ensures)
    (clean_product (g.V.Width.number c.product-2.result) c.difference-2.result c.args.a.y c.args.b.y c.args.x (omega arith) (omega arith) (omega arith) c.difference-2.ensures.value c.product-2.ensures)

pub plus-requires : goal.plus-requires
plus-requires g c = let h = change_room g.V.Width.reach c.args.a c.args.b c.args.x c.args.y c.requires.wide c.requires.a_near c.requires.b_near c.requires.x_small c.requires.y_small in rw (both g c) (omega (arith, h))

pub returns : goal.returns
returns g c = c.plus.ensures ∙ both g (goal.at.returns g c).After-product-2
