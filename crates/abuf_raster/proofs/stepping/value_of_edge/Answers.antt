use Rattle.abuf_raster.proofs.Rooms.{less_one_room}
use Rattle.abuf_raster.proofs.stepping.value_of_edge.Goals as goal

pub less_one-requires : goal.less_one-requires
less_one-requires g c = less_one_room g.V.Width.reach c.args.a c.args.b c.args.s (g.V.Width.number c.edge_function-value.result) c.requires.wide c.requires.a_near c.requires.b_near c.requires.s_near c.edge_function-value.ensures
