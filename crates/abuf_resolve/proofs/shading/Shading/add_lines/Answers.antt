use Rattle.std.proofs.Common.{◌≡◌, ◌∙◌, ◌+◌, ◌-◌, ◌≤◌, ◌++◌, [], List, ℕ, ap, min, subst, arith}
use Rattle.std.proofs.lemmas.List.{append_assoc}
use Rattle.std.specs.List.{range_with_len}
use Rattle.abuf_raster.proofs.Blocks.{range_cut}
use Rattle.abuf_resolve.specs.Spans.{AreSpanSums}
use Rattle.abuf_resolve.proofs.Spans.{places_more, span_join}
use Rattle.abuf_resolve.proofs.shading.Shading.add_lines.Goals as goal
use Rattle.abuf_resolve.proofs.shading.Shading.add_lines.Goals.{then-done-lower+in_ok-add_places-2, else-done-lower}

pub loop-done-preserved : goal.loop-done-preserved
loop-done-preserved c =
    let shading = c.args.self.now in
    let r = c.args.region in
    let frame = c.args.reading.now.reader.frame in
    let from = c.args.span.from in
    let upper = c.min-upper.result in
    let lower = c.args.span.count - upper in
    let done = c.loop-done.done in
    let n = c.min.result in
    let before = c.loop-done.invariant in
    let few : lower ≤ upper = omega (arith, c.requires.two, c.min-upper.ensures) in
    let is : n ≡ min 8 (upper - done) = omega (arith, c.min.ensures) in
    let all = λ (places : List ℕ) (was : AreSpanSums shading r frame.lists places c.args.lines.now.all).
    places_more shading r c.loop-done.reading.reader.frame frame before.reads places from done n c.loop-done.lines.all c.add_places.new.to c.in_ok-add_places.ensures.sums (before.all places was) in
    elim c.if-done-lower.branch [
      | then-done-lower+in_ok-add_places-2 w ↦
          let m = w.min-then-done-lower.result in
          let here : min done lower ≡ done = omega (arith, w.if-done-lower.true) in
          let next : done + m ≡ min (done + n) lower = omega (arith, is, few, before.within, w.min-then-done-lower.ensures, w.if-done-lower.true) in
          let same = c.add_places.ensures.reads ∙ before.reads in
          let more = places_more shading r c.add_places.new.reading.reader.frame frame same [] (from + upper) done m c.loop-done.lines.lower w.add_places-then-done-lower.new.to w.in_ok-add_places-2.ensures.sums
          (subst (λ (k : ℕ). AreSpanSums shading r frame.lists (range_with_len (from + upper) k) c.loop-done.lines.lower) here before.lower) in
          rw (w.lines-is, w.reading-is) (record {
            within = omega (arith, is, before.within);
            all = all;
            lower = subst (λ (k : ℕ). AreSpanSums shading r frame.lists (range_with_len (from + upper) k) w.add_places-then-done-lower.new.to) next more;
            reads = w.add_places-then-done-lower.ensures.reads ∙ same;
          })
      | else-done-lower w ↦
          let still : min done lower ≡ min (done + n) lower = omega (arith, w.if-done-lower.false) in
          rw (w.lines-is, w.reading-is) (record {
            within = omega (arith, is, before.within);
            all = all;
            lower = subst (λ (k : ℕ). AreSpanSums shading r frame.lists (range_with_len (from + upper) k) c.loop-done.lines.lower) still before.lower;
            reads = c.add_places.ensures.reads ∙ before.reads;
          })
    ]

pub returns-clause-sums : goal.returns-clause-sums
returns-clause-sums c = λ places was.
    let shading = c.args.self.now in
    let r = c.args.region in
    let lists = c.args.reading.now.reader.frame.lists in
    let from = c.args.span.from in
    let upper = c.min-upper.result in
    let lower = c.args.span.count - upper in
    let before = c.loop-done.invariant in
    let few : lower ≤ upper = omega (arith, c.requires.two, c.min-upper.ensures) in
    let end : c.loop-done.done ≡ upper = omega (arith, before.within, c.loop-done-test.false) in
    let below : min c.loop-done.done lower ≡ lower = omega (arith, end, few) in
    let count : upper + lower ≡ c.args.span.count = omega (arith, c.min-upper.ensures) in
    let first = subst (λ (k : ℕ). AreSpanSums shading r lists (places ++ range_with_len from k) c.loop-done.lines.all) end (before.all places was) in
    let second = subst (λ (k : ℕ). AreSpanSums shading r lists (range_with_len (from + upper) k) c.loop-done.lines.lower) below before.lower in
    let order : (places ++ range_with_len from upper) ++ range_with_len (from + upper) lower ≡ places ++ range_with_len from c.args.span.count =
    append_assoc places (range_with_len from upper) (range_with_len (from + upper) lower)
    ∙ ap (λ (ps : List ℕ). places ++ ps) (range_cut from upper lower ∙ ap (range_with_len from) count) in
    subst (λ (ps : List ℕ). AreSpanSums shading r lists ps c.append.new.self) order
    (span_join shading r lists (places ++ range_with_len from upper) (range_with_len (from + upper) lower) c.loop-done.lines.all c.loop-done.lines.lower c.append.new.self first second c.in_ok-append.ensures.sums c.in_ok-append.ensures.longest)
