use Rattle.std.proofs.Common.{◌≡◌, ℕ, ◌+◌, ◌≤◌, ◌++◌, length, min, List, subst, ap₂, ◌∙◌, take-append-drop}
use Rattle.abuf_raster.specs.Triangle.{Triangle}
use Rattle.abuf_raster.specs.Samples.{offsets_of}
use Rattle.abuf_raster.specs.Hits.{all_fragments}
use Rattle.abuf_fan.proofs.Counted.{most_both}
use Rattle.abuf_fan.proofs.bound.+bound_on_threads+fn-bound_on_threads-join+arg2+fn-bound_on_threads-join+arg3.Goals as goal

pub returns-clause-bound : goal.returns-clause-bound
returns-clause-bound g t c = λ first.
    let os = offsets_of c.args.pattern in let m : ℕ = c.join-before.result.0 in let n : ℕ = c.join-before.result.1 in
    let all : c.split_at.result.0.now ++ c.split_at.result.1.now ≡ c.args.tris.now =
    ap₂ (λ (xs ys : List Triangle). xs ++ ys) c.split_at.ensures.front c.split_at.ensures.back ∙ take-append-drop _ c.args.tris.now in
    let both = most_both os c.args.region c.split_at.result.0.now c.split_at.result.1.now c.args.enough m n c.join-before.ensures.first.0 c.join-before.ensures.second.0 first in
    subst (λ (ts : List Triangle). min (length (all_fragments ts first os c.args.region)) c.args.enough ≤ m + n) all both
