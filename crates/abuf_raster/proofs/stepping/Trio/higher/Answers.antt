use Rattle.abuf_raster.proofs.stepping.Trio.higher.Goals as goal

pub returns-clause-bound : goal.returns-clause-bound
returns-clause-bound g c = λ n h k. (c.max_of.ensures.bound n h.0 k.0, c.max_of-2.ensures.bound n h.1 k.1, c.max_of-3.ensures.bound n h.2 k.2)
