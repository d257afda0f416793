use Rattle.std.proofs.Common.{◌≡◌, ◌<◌, ℕ, List, inl, inr, arith, length, slice_index_or, set, ◌∙◌}
use Rattle.std.proofs.lemmas.List.{length-set, get_or-set_same, get_or-set_other, get_or_default}
use Rattle.std.proofs.lemmas.List.Elements.{All-get_or}
use Rattle.std.proofs.lemmas.Bool.{cases_lt}
use Rattle.abuf_raster.specs.Triangle.{Triangle}
use Rattle.abuf_fan.proofs.chunk.triangles_of.Goals as goal

pub loop-i-preserved : goal.loop-i-preserved
loop-i-preserved c =
    let i = c.loop-i.i in
    let old : List Triangle = c.loop-i.triangles in
    let ts : List Triangle = c.args.tris.now in
    let n : ℕ = slice_index_or c.args.numbers.now i 0 in
    let u : Triangle = c.index-tris-numbers.result in
    let within : n < length ts = All-get_or (λ m. m < length ts) c.args.numbers.now i 0 c.loop-i-test.true c.requires.numbers in
    record {
      long = length-set old i u ∙ c.loop-i.invariant.long;
      each = λ k t l. elim (cases_lt k i) as (λ _. slice_index_or (set old i u) k t ≡ slice_index_or ts (slice_index_or c.args.numbers.now k 0) t) [
        | inl f ↦ get_or-set_other old i k u t (λ e. omega arith) ∙ c.loop-i.invariant.each k t f
        | inr f ↦ let z : k ≡ i = omega arith in rw z (get_or-set_same old i u t (omega arith) ∙ (c.index-tris-numbers.is ∙ get_or_default ts n u t within))
      ];
    }
