use Rattle.std.proofs.Common.{◌∙◌, ◌++◌, ◌∷◌, ◌≡◌, ◌<◌, None, Some, [], sym, ap, List, ℕ, arith, length, length-append}
use Rattle.abuf_obj.specs.Elements.{vertices_of}
use Rattle.abuf_obj.proofs.Joining.{joined, vertices-next, vertices-stop, one-less, vertices-end, vertices-fail}
use Rattle.abuf_obj.proofs.element.vertices.Goals as goal

pub loop-i-init : goal.loop-i-init
loop-i-init c = record {
  value = ap (λ (list : List ℕ). joined list (vertices_of c.args.above c.args.elements)) c.in_ok-list.ensures.items;
  count = omega (arith, ap length c.in_ok-list.ensures.items, c.requires);
  index = ap length c.in_ok-list.ensures.items;
}

pub loop-i-preserved : goal.loop-i-preserved
loop-i-preserved c =
    let is = sym c.next_vertex.ensures.value ∙ c.in-Some.is in
    record {
      value =
          ap (λ (list : List ℕ). joined list (vertices_of c.args.above c.next_vertex.new.elements)) c.in_ok-push-in-Some.ensures.items
          ∙ ap (λ (rest : List (List ℕ)). joined (c.loop-i.list.items ++ c.in-Some.vertex ∷ []) (vertices_of c.args.above rest)) c.in-Some.ensures.rest
          ∙ vertices-next c.args.above c.loop-i.elements c.loop-i.list.items c.in-Some.vertex is
          ∙ c.loop-i.invariant.value;
      count = omega (
        arith,
        c.loop-i.invariant.count,
        ap length c.in_ok-push-in-Some.ensures.items,
        length-append c.loop-i.list.items (c.in-Some.vertex ∷ []),
        one-less c.args.above c.loop-i.elements c.in-Some.vertex is,
        ap length c.in-Some.ensures.rest,
      );
      index = omega (arith, c.loop-i.invariant.index, ap length c.in_ok-push-in-Some.ensures.items, length-append c.loop-i.list.items (c.in-Some.vertex ∷ []));
    }

pub returns-in-None-clause-value : goal.returns-in-None-clause-value
returns-in-None-clause-value c =
    let some : 0 < length c.loop-i.elements = omega (arith, c.loop-i.invariant.count, c.loop-i.invariant.index) in
    let none : vertices_of c.args.above c.loop-i.elements ≡ None = vertices-stop c.args.above c.loop-i.elements some (sym c.next_vertex.ensures.value ∙ c.in-None.is) in
    vertices-fail c.args.above c.loop-i.elements c.args.elements c.loop-i.list.items none c.loop-i.invariant.value

pub returns-clause-value : goal.returns-clause-value
returns-clause-value c =
    ap Some c.from_vec.ensures
    ∙ vertices-end c.args.above c.loop-i.elements c.args.elements c.loop-i.list.items (omega (arith, c.loop-i.invariant.count, c.loop-i.invariant.index, c.loop-i-test.false)) c.loop-i.invariant.value

pub returns-clause-count : goal.returns-clause-count
returns-clause-count c = omega (arith, c.loop-i.invariant.count, c.loop-i.invariant.index, c.loop-i-test.false, ap length c.from_vec.ensures)
