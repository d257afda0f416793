use Rattle.std.proofs.Common.{◌*◌, ℕ, List, min, sym, subst, rules, arith}
use Rattle.std.specs.List.{range_with_len}
use Rattle.abuf_resolve.specs.declared.shading.spans.Resolved.{Resolved}
use Rattle.abuf_resolve.specs.Spans.{AreSpanSums, IsSpan}
use Rattle.abuf_resolve.proofs.Spans.{span_join}
use Rattle.abuf_resolve.proofs.Places.{span_next}
use Rattle.abuf_resolve.proofs.shading.Shading.joined.Goals as goal

pub loop-span-preserved : goal.loop-span-preserved
loop-span-preserved c =
    let k = c.loop-span.span-index in
    let span = c.span-item.result in
    let pixels = c.args.region.w * c.args.region.h in
    let Is : ℕ → Resolved → Type 0 = IsSpan c.args.self.now c.args.region c.args.closed.now.lists c.args.size in
    let here : Is k span = subst (Is k) (sym c.span-item.is) (c.requires.spans k span (omega arith)) in
    let new : Resolved = record { sums = c.extend_from_slice.new.self.items; longest = c.max-longest.result } in
    subst (λ (ps : List ℕ). AreSpanSums c.args.self.now c.args.region c.args.closed.now.lists ps new) (span_next pixels c.args.size k here.0)
    (span_join _ _ _ (range_with_len 0 (min (c.args.size * k) pixels)) _ _ span new c.loop-span.invariant here.1 (search rules) (search rules))
