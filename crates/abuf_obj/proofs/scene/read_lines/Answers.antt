use Rattle.std.proofs.Common.{◌+◌, ◌∷◌, [], List, ℕ, subst, sym}
use Rattle.std.proofs.lemmas.List.{map-append}
use Rattle.abuf_text.specs.Lines.{lines}
use Rattle.abuf_obj.proofs.Reading.{HasRead, read-more, texts}
use Rattle.abuf_obj.proofs.scene.read_lines.Goals as goal

pub loop-line-preserved : goal.loop-line-preserved
loop-line-preserved c =
    let all = lines c.args.bytes.now in
    let before = texts c.loop-line.yielded in
    let line = c.in-Some.line.now in
    let read : HasRead before (line ∷ c.next.new.self) all c.loop-line.number c.loop-line.reader =
    subst (λ (ls : List (List ℕ)). HasRead before ls all c.loop-line.number c.loop-line.reader) c.in-Some.ensures.steps c.loop-line.invariant in
    subst (λ (ls : List (List ℕ)). HasRead ls c.next.new.self all (c.loop-line.number + 1) c.take.new.self)
    (sym (map-append _ c.loop-line.yielded (c.in-Some.line ∷ [])))
    (read-more before c.next.new.self all c.loop-line.number c.loop-line.reader line read c.take.new.self c.in_ok-take.ensures.ok)
