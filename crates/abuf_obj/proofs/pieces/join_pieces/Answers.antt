use Rattle.std.proofs.Common.{◌∙◌, sym, arith}
use Rattle.abuf_obj.proofs.Parts.{joined_first, joined_next, joined_last}
use Rattle.abuf_obj.proofs.pieces.join_pieces.Goals as goal

pub loop-reader-init : goal.loop-reader-init
loop-reader-init c = λ before ls have.
    joined_first before ls c.args.readers.items _ c.remove-all.result (omega (arith, c.args.readers.ok.0, c.requires)) c.remove-all.ensures.value (c.into_iter-reader-iterator.ensures.into_iter_gives.0 ∙ c.remove-all.ensures.items) have

pub loop-reader-preserved : goal.loop-reader-preserved
loop-reader-preserved c = λ before ls have.
    joined_next before ls c.loop-reader.all c.in_ok-all.all c.in-Some.reader _ c.next.new.self.rest.items c.in-Some.ensures.steps.0
    (λ xs ys first second. c.in_ok-all.ensures before xs ys first second) (c.loop-reader.invariant before ls have)

pub returns : goal.returns
returns c = λ before ls have.
    joined_last before ls c.loop-reader.all c.loop-reader.reader-iterator.rest.items (sym c.loop-reader.reader-iterator.rest.ok.0 ∙ c.in-None.ensures.steps.0) (c.loop-reader.invariant before ls have)
