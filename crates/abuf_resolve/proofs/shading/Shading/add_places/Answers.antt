use Rattle.std.proofs.Common.{◌≡◌, ◌∙◌, ◌+◌, ◌++◌, ◌∷◌, [], List, ℕ, ap, sym, subst, length, slice_index_or, arith}
use Rattle.std.proofs.lemmas.List.{append_assoc}
use Rattle.std.specs.List.{range_with_len}
use Rattle.abuf_raster.proofs.Blocks.{range_more}
use Rattle.abuf_resolve.specs.Spans.{IsOffset, AreSpanSums}
use Rattle.abuf_resolve.specs.Shading.{sum_in, sum_of_list}
use Rattle.abuf_resolve.proofs.Spans.{span_more}
use Rattle.abuf_resolve.proofs.shading.Shading.add_places.Goals as goal

pub loop-i-preserved : goal.loop-i-preserved
loop-i-preserved c =
    let shading = c.args.self.now in
    let r = c.args.region in
    let lists = c.args.reading.now.reader.frame.lists in
    let from = c.args.span.from in
    let i = c.loop-i.i in
    let place = from + i in
    let list_is : c.list-list.result.now ≡ slice_index_or lists place [] =
    c.list-list.ensures ∙ (c.in_ok-read.ensures.list ∙ ap (λ f. slice_index_or f.lists place []) c.loop-i.invariant.reads) in
    let here : c.in_ok-sum.sum ≡ sum_in shading r lists place = c.in_ok-sum.ensures.value ∙ ap (sum_of_list shading r place) list_is in
    let count : length c.list-list.result.now ≡ length (slice_index_or lists place []) = ap (λ (ws : List ℕ). length ws) list_is in
    record {
      sums = λ places before.
          let order : (places ++ range_with_len from i) ++ place ∷ [] ≡ places ++ range_with_len from (i + 1) =
          append_assoc places (range_with_len from i) (place ∷ []) ∙ ap (λ (ps : List ℕ). places ++ ps) (sym (range_more from i)) in
          subst (λ (ps : List ℕ). AreSpanSums shading r lists ps c.push.new.self) order
          (span_more shading r lists (places ++ range_with_len from i) place c.loop-i.to c.push.new.self c.in_ok-sum.sum (length c.list-list.result.now)
          (c.loop-i.invariant.sums places before) c.in_ok-push.ensures.sums c.in_ok-push.ensures.longest here count c.in_ok-sum.ensures.small);
      reads = c.read.ensures.frame ∙ c.loop-i.invariant.reads;
      offset =
          let wide = c.w-in-loop-i.ensures.value in
          let on : place + 1 ≡ from + (i + 1) = omega arith in
          subst (λ (p : ℕ). IsOffset r.w p c.next-next.result) on
          (subst (λ (w : ℕ). IsOffset w (place + 1) c.next-next.result) wide
          (c.next-next.ensures place (subst (λ (w : ℕ). IsOffset w place c.loop-i.offset) (sym wide) c.loop-i.invariant.offset)));
    }
