use Rattle.std.proofs.Common.{◌++◌, take, List, ℕ, subst}
use Rattle.abuf_obj.specs.Pieces.{texts, HasNames}
use Rattle.abuf_obj.proofs.Tallies.{names-more, texts-more}
use Rattle.abuf_obj.proofs.reader.ObjReader.take_named.Goals as goal

pub loop-line-preserved : goal.loop-line-preserved
loop-line-preserved c = λ before has.
    let k = c.loop-line.line-index in
    let ls = c.args.lines.now in
    subst (λ (xs : List (List ℕ)). HasNames xs c.take.new.self) (texts-more before ls k _ c.loop-line-test.true)
    (names-more (before ++ texts (take k ls)) 0 _ c.loop-line.self c.take.new.self (c.loop-line.invariant before has) c.in_ok-take.ensures.ok)
