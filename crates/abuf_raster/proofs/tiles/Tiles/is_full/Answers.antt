use Rattle.std.proofs.Common.{◌-◌, ◌^◌, ◌∙◌, ℤ, List, ap, sym, subst, length}
use Rattle.abuf_raster.specs.declared.region.Hit.{Hit}
use Rattle.abuf_raster.specs.Samples.{offsets_of}
use Rattle.abuf_raster.specs.TilesLeft.{StandsFor}
use Rattle.abuf_raster.specs.TrioNumbers.{numbers_of}
use Rattle.abuf_raster.proofs.Changes.{fully_accepted}
use Rattle.abuf_raster.proofs.Full.{full_count, some_samples}
use Rattle.abuf_raster.proofs.tiles.Tiles.is_full.Goals as goal

pub returns-in-Some : goal.returns-in-Some
returns-in-Some c = λ yes.
    let w = c.args.self.now in
    let b = c.args.tile in
    let os = offsets_of w.pattern in
    let s = subst (StandsFor w.triangle os) c.in-Some.is c.requires.setup in
    let full = fully_accepted w.triangle w.prim os b (numbers_of (λ (z : ℤ). z) c.values_at-start.result) (numbers_of (λ (z : ℤ). z) c.in-Some.setup.samples.min) c.requires.positive c.requires.tile c.values_at-start.ensures.value
    s.1.samples.low (sym c.accepts.ensures ∙ yes) (some_samples w.pattern) in
    sym (ap (λ (hs : List Hit). length hs) full) ∙ full_count w.prim (2 ^ length os - 1) b.x b.w b.y b.h
