use Rattle.abuf_raster.proofs.stepping.Trio.lower.Goals as goal

pub returns-clause-bound : goal.returns-clause-bound
returns-clause-bound g c = λ n h k. (c.min_of.ensures.bound n h.0 k.0, c.min_of-2.ensures.bound n h.1 k.1, c.min_of-3.ensures.bound n h.2 k.2)
