use Rattle.std.proofs.Common.{◌∙◌, subst, ap, All, ℕ, List, length, sym}
use Rattle.abuf_raster.specs.Samples.{offsets_of}
use Rattle.abuf_resolve.specs.Words.{folded, sample_words, IsDepthWord}
use Rattle.abuf_resolve.proofs.shading.Shading.colour_by_keys.Goals as goal

pub composite_all-requires : goal.composite_all-requires
composite_all-requires c =
    let n = length c.args.self.now.paints.now in
    record { words = subst (All (IsDepthWord n)) (sym c.deref.ensures.value) (c.order_from.ensures.words n c.in_ok-least.ensures.fits) }

pub returns : goal.returns
returns c =
    let shading = c.args.self.now in
    let all : List ℕ = sample_words (offsets_of shading.pattern) shading.planes c.args.at.x c.args.at.y c.args.k c.args.list.now in
    c.composite_all.ensures
    ∙ (ap (folded shading.background shading.paints.now) c.deref.ensures.value
    ∙ c.order_from.ensures.same shading.paints.now all shading.background c.in_ok-least.ensures.seen)
