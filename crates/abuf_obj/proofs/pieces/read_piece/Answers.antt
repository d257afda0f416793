use Rattle.std.proofs.Common.{◌≡◌, ◌∙◌, ◌+◌, ◌∷◌, [], List, ℕ, length, subst, sym, ap, arith}
use Rattle.std.proofs.lemmas.List.{map-append}
use Rattle.abuf_text.specs.Lines.{lines}
use Rattle.abuf_obj.specs.Pieces.{texts}
use Rattle.abuf_obj.proofs.PieceReading.{IsReading, begins, piece-more, ends}
use Rattle.abuf_obj.proofs.pieces.read_piece.Goals as goal

pub overflow_add-number : goal.overflow_add-number
overflow_add-number c = omega (
  arith,
  c.loop-line.invariant.count,
  ap (λ (ls : List (List ℕ)). length ls) c.in-Some.ensures.steps,
  c.new-line-items.ensures.count,
  ap (λ (ls : List (List ℕ)). length ls) c.new-line-items.ensures.lines,
  c.requires,
)

pub loop-line-init : goal.loop-line-init
loop-line-init c =
    let all = lines c.args.bytes.now in
    let items : c.into_iter-line-iterator.result ≡ all = c.into_iter-line-iterator.ensures.into_iter_gives ∙ c.new-line-items.ensures.lines in
    let r = c.in_ok-reader in
    record {
      count = ap (λ (ls : List (List ℕ)). c.args.lines_above + length ls) items;
      reading = λ before count begin.
          subst (λ (ls : List (List ℕ)). IsReading before [] ls all c.args.lines_above r.reader) (sym items)
          (begins before all c.args.lines_above r.reader count (r.ensures.begins before begin) r.ensures.points r.ensures.faces r.ensures.triangles);
    }

pub loop-line-preserved : goal.loop-line-preserved
loop-line-preserved c = record {
  count = omega (arith, c.loop-line.invariant.count, ap (λ (ls : List (List ℕ)). length ls) c.in-Some.ensures.steps);
  reading = λ before count begin.
      let all = lines c.args.bytes.now in
      let done = texts c.loop-line.yielded in
      let line = c.in-Some.line.now in
      let read : IsReading before done (line ∷ c.next.new.self) all c.loop-line.number c.loop-line.reader =
      subst (λ (ls : List (List ℕ)). IsReading before done ls all c.loop-line.number c.loop-line.reader) c.in-Some.ensures.steps (c.loop-line.invariant.reading before count begin) in
      subst (λ (ls : List (List ℕ)). IsReading before ls c.next.new.self all (c.loop-line.number + 1) c.take.new.self)
      (sym (map-append _ c.loop-line.yielded (c.in-Some.line ∷ [])))
      (piece-more before done c.next.new.self all c.loop-line.number c.loop-line.reader line read c.take.new.self c.in_ok-take.ensures.ok);
}

pub returns : goal.returns
returns c = λ before count begin.
    let all = lines c.args.bytes.now in
    let done = texts c.loop-line.yielded in
    ends before done all c.loop-line.number c.loop-line.reader
    (subst (λ (ls : List (List ℕ)). IsReading before done ls all c.loop-line.number c.loop-line.reader) c.in-None.ensures.steps.0 (c.loop-line.invariant.reading before count begin))
