use Rattle.std.proofs.Common.{◌≡◌, ◌∙◌, ◌+◌, ◌++◌, ◌∷◌, [], sym, take, get_or, arith}
use Rattle.std.proofs.lemmas.List.{take_more}
use Rattle.abuf_raster.specs.Samples.{offsets_of}
use Rattle.abuf_resolve.proofs.Seen.{with_one, without_one}
use Rattle.abuf_resolve.proofs.shading.Shading.gather_seen.Goals as goal
use Rattle.abuf_resolve.proofs.shading.Shading.gather_seen.Goals.{then-covers+in_ok-next, else-covers}

pub loop-word-preserved : goal.loop-word-preserved
loop-word-preserved c =
    let shading = c.args.self.now in
    let os = offsets_of shading.pattern in
    let at = c.args.at in
    let k = c.args.k in
    let list = c.args.list.now in
    let i = c.loop-word.word-index in
    let more : take (i + 1) list ≡ take i list ++ get_or list i 0 ∷ [] = take_more list i 0 (omega arith) in
    elim c.if-covers.branch [
      | then-covers+in_ok-next w ↦ record {
        seen = rw (w.keys-is, w.least-is, more, with_one os shading.planes at.x at.y k (take i list) (get_or list i 0) (sym c.covers.ensures ∙ w.if-covers.true))
            (w.in_ok-next.ensures.seen _ c.loop-word.invariant.seen);
        fit = rw w.keys-is (w.in_ok-next.ensures.words c.loop-word.invariant.fit);
      }
      | else-covers w ↦ record {
        seen = rw (w.keys-is, w.least-is, more, without_one os shading.planes at.x at.y k (take i list) (get_or list i 0) (sym c.covers.ensures ∙ w.if-covers.false)) c.loop-word.invariant.seen;
        fit = rw w.keys-is c.loop-word.invariant.fit;
      }
    ]
