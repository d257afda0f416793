use Rattle.std.proofs.Common.{◌∙◌, sym, arith}
use Rattle.abuf_obj.proofs.Joining.{counted-none, counted-first, are_corners}
use Rattle.abuf_obj.proofs.corners.few_corners.Goals as goal

pub returns-then-is_end-2 : goal.returns-then-is_end-2
returns-then-is_end-2 c =
    let above = c.args.above in
    let fourth = counted-first above _ _ c.in-Some-next_vertex-3.fourth _ (sym c.next_vertex-4.ensures.value ∙ c.in-Some-next_vertex-3.is) c.in-Some-next_vertex-3.ensures.rest
    (counted-none above _ (c.is_end-2.ensures c.if-is_end-2.true)) in
    let third = counted-first above _ _ c.in-Some-next_vertex-2.third _ (sym c.next_vertex-3.ensures.value ∙ c.in-Some-next_vertex-2.is) c.in-Some-next_vertex-2.ensures.rest fourth in
    let second = counted-first above _ _ c.in-Some-next_vertex.second _ (sym c.next_vertex-2.ensures.value ∙ c.in-Some-next_vertex.is) c.in-Some-next_vertex.ensures.rest third in
    let first = counted-first above _ _ c.in-Some.first _ (sym c.next_vertex.ensures.value ∙ c.in-Some.is) c.in-Some.ensures.rest second in
    are_corners above _ _ first (omega arith) (omega arith)
