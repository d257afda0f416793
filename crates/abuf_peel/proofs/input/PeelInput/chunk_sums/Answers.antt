use Rattle.std.proofs.Common.{◌+◌, ◌*◌, ◌++◌, List, sym, subst, ap, ◌∙◌, refl}
use Rattle.abuf_num.specs.declared.plain.PixelSum.{PixelSum}
use Rattle.abuf_peel.specs.Rows.{AreSums}
use Rattle.abuf_peel.proofs.Chunks.{row_members, sums_more}
use Rattle.abuf_peel.proofs.input.PeelInput.chunk_sums.Goals as goal

pub loop-i-preserved : goal.loop-i-preserved
loop-i-preserved c =
    let a = c.args in
    subst (AreSums a.self.now (4 * a.n) (c.loop-i.i + 1)) (sym (c.in_ok-extend_from_slice.ensures.items ∙ ap (λ (xs : List PixelSum). c.loop-i.sums.items ++ xs) c.as_slice.ensures))
    (sums_more a.self.now (4 * a.n) c.loop-i.i 1 _ c.loop-i.sums.items c.in_ok-row.row refl c.loop-i.invariant c.in_ok-row.ensures)

pub row_sums-requires-clause-members : goal.row_sums-requires-clause-members
row_sums-requires-clause-members c =
    row_members c.args.self.now (4 * c.args.n) c.chunk_rows-rows.result c.loop-i.i _ _ _ _ _ c.rows_of.ensures c.rows_of-in-loop-i.ensures c.deref.ensures.value c.loop-i-test.true c.in_ok-chunk.ensures c.in_ok-keep.ensures
