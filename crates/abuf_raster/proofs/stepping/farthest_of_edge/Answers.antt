use Rattle.std.proofs.Common.{◌≡◌, ◌∙◌, ap₂, ℤ, ◌*◌, ◌+ℤ◌, arith}
use Rattle.abuf_raster.specs.Values.{edge_farthest}
use Rattle.abuf_raster.proofs.Rooms.{part_room, clean_part}
use Rattle.abuf_raster.proofs.stepping.farthest_of_edge.Goals as goal
use Rattle.abuf_raster.proofs.stepping.farthest_of_edge.Goals.{After-product-across}

both : (g : _) (c : After-product-across g) → g.V.Width.number c.product-down.result +ℤ g.V.Width.number c.product-across.result ≡ edge_farthest c.args.falls c.args.a c.args.b c.args.w c.args.h
both g c = ap₂ (λ (x y : ℤ). x +ℤ y)
    (clean_part c.args.falls (g.V.Width.number c.product-down.result) c.one_way.result c.args.b.x c.args.a.x (256 * c.args.h) (omega arith) (omega arith) (omega arith) c.one_way.ensures.value c.product-down.ensures)
    (clean_part c.args.falls (g.V.Width.number c.product-across.result) c.one_way-2.result c.args.a.y c.args.b.y (256 * c.args.w) (omega arith) (omega arith) (omega arith) c.one_way-2.ensures.value c.product-across.ensures)

pub plus-requires : goal.plus-requires
plus-requires g c = let h = part_room c.args.falls g.V.Width.reach c.args.a c.args.b c.args.w c.args.h c.requires.wide c.requires.a_near c.requires.b_near c.requires.w_small c.requires.h_small in rw (both g c) (omega (arith, h))

pub returns : goal.returns
returns g c = c.plus.ensures ∙ both g (goal.at.returns g c).After-product-across
