use Rattle.std.proofs.Common.{◌+◌, ◌∷◌, [], List, ℕ, subst, sym}
use Rattle.std.proofs.lemmas.List.{map-append}
use Rattle.abuf_text.specs.Lines.{lines}
use Rattle.abuf_mtl.proofs.Reading.{HasRead, read-more, texts}
use Rattle.abuf_mtl.proofs.materials.read_lines.Goals as goal

pub loop-line-preserved : goal.loop-line-preserved
loop-line-preserved c =
    let start = c.args.reader.now in
    let all = lines c.args.bytes.now in
    let before = texts c.loop-line.yielded in
    let line = c.in-Some.line.now in
    let read : HasRead start before (line ∷ c.next.new.self) all c.loop-line.number c.loop-line.reader =
    subst (λ (ls : List (List ℕ)). HasRead start before ls all c.loop-line.number c.loop-line.reader) c.in-Some.ensures.steps c.loop-line.invariant in
    subst (λ (ls : List (List ℕ)). HasRead start ls c.next.new.self all (c.loop-line.number + 1) c.take.new.self)
    (sym (map-append _ c.loop-line.yielded (c.in-Some.line ∷ [])))
    (read-more start before c.next.new.self all c.loop-line.number c.loop-line.reader line read c.take.new.self c.in_ok-take.ensures.ok)
