use Rattle.std.proofs.Common.{true}
use Rattle.abuf_raster.specs.TrioNumbers.{numbers_of}
use Rattle.abuf_raster.proofs.Rooms.{tile_fits, tile_samples_fit}
use Rattle.abuf_raster.proofs.setup.Setup.accepts.Goals as goal

pub plus-lowest-requires : goal.plus-lowest-requires
plus-lowest-requires g c = tile_fits g.V.Width.reach c.args.t.now c.args.tile true (numbers_of g.V.Width.number c.args.start) (numbers_of g.V.Width.number c.farthest.result) c.requires.wide c.requires.near c.requires.tile c.requires.start c.farthest.ensures

pub plus-requires : goal.plus-requires
plus-requires g c = tile_samples_fit g.V.Width.reach c.args.t.now c.args.tile true (numbers_of g.V.Width.number c.args.start) (numbers_of g.V.Width.number c.farthest.result) c.requires.wide c.requires.near c.requires.tile c.requires.start c.farthest.ensures
    (numbers_of g.V.Width.number c.plus-lowest.result) (numbers_of g.V.Width.number c.args.self.now.samples.min) c.plus-lowest.ensures c.requires.samples
