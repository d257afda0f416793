use Rattle.std.proofs.Common.{◌≡◌, ◌∙◌, ◌+◌, ◌*◌, ◌<◌, ◌++◌, List, ℕ, min, ap, sym, subst, arith}
use Rattle.abuf_num.specs.declared.plain.PixelSum.{PixelSum}
use Rattle.abuf_peel.specs.Rows.{AreSums, chunk_rows}
use Rattle.abuf_peel.proofs.Chunks.{sums_more}
use Rattle.abuf_peel.proofs.input.PeelInput.put_together.Goals as goal

pub loop-chunk-preserved : goal.loop-chunk-preserved
loop-chunk-preserved c =
    let input = c.args.self.now in
    let i : ℕ = c.loop-chunk.chunk-index in
    let some : 4 * i < input.height = omega (arith, c.requires.count) in
    let above : min (4 * i) input.height + chunk_rows input.height i ≡ min (4 * (i + 1)) input.height = omega arith in
    subst (λ (n : ℕ). AreSums input 0 n c.extend_from_slice.new.self.items) above
    (subst (AreSums input 0 (min (4 * i) input.height + chunk_rows input.height i)) (sym (c.in_ok-extend_from_slice.ensures.items ∙ ap (λ (xs : List PixelSum). c.loop-chunk.sums.items ++ xs) (c.as_slice.ensures ∙ c.chunk-item.is)))
    (sums_more input 0 (min (4 * i) input.height) (chunk_rows input.height i) (4 * i) c.loop-chunk.sums.items _ (omega arith) c.loop-chunk.invariant (c.requires.each i _ (omega arith))))
