use Rattle.std.proofs.Common.{false}
use Rattle.abuf_raster.specs.TrioNumbers.{numbers_of}
use Rattle.abuf_raster.proofs.Rooms.{tile_fits, tile_samples_fit}
use Rattle.abuf_raster.proofs.setup.Setup.rejects.Goals as goal

pub plus-highest-requires : goal.plus-highest-requires
plus-highest-requires g c = tile_fits g.V.Width.reach c.args.t.now c.args.tile false (numbers_of g.V.Width.number c.args.start) (numbers_of g.V.Width.number c.farthest.result) c.requires.wide c.requires.near c.requires.tile c.requires.start c.farthest.ensures

pub plus-requires : goal.plus-requires
plus-requires g c = tile_samples_fit g.V.Width.reach c.args.t.now c.args.tile false (numbers_of g.V.Width.number c.args.start) (numbers_of g.V.Width.number c.farthest.result) c.requires.wide c.requires.near c.requires.tile c.requires.start c.farthest.ensures
    (numbers_of g.V.Width.number c.plus-highest.result) (numbers_of g.V.Width.number c.args.self.now.samples.max) c.plus-highest.ensures c.requires.samples
