use Rattle.std.proofs.Common.{◌≤◌, ℕ, subst, arith}
use Rattle.abuf_raster.specs.Samples.{offsets_of}
use Rattle.abuf_resolve.specs.Keys.{NoWordAbove}
use Rattle.abuf_resolve.specs.Words.{sample_word}
use Rattle.abuf_resolve.proofs.Seen.{still_seen}
use Rattle.abuf_resolve.proofs.shading.Shading.push_fragment.Goals as goal

pub returns-then-max_word-least-clause-seen : goal.returns-then-max_word-least-clause-seen
returns-then-max_word-least-clause-seen c =
    let shading = c.args.self.now in
    let os = offsets_of shading.pattern in
    let at = c.args.at in
    let word = sample_word os shading.planes at.x at.y c.args.k c.args.word in
    let above = subst (λ (n : ℕ). NoWordAbove shading.planes n c.max_word.result) c.primitive.ensures c.max_word.ensures in
    let bound : word ≤ c.max_word.result = above os at.x at.y c.args.k (c.requires.word.covered c.args.k c.requires.sample c.requires.has) in
    still_seen shading.paints.now word c.args.keys.now.items c.args.least (omega (arith, bound, c.if-max_word-least.true))
