use Rattle.std.proofs.Common.{◌≡◌, ℕ, true, All, take, get_or, sym, subst, arith, rules}
use Rattle.std.proofs.lemmas.List.{take_more, take_all}
use Rattle.std.proofs.lemmas.List.Elements.{All-push}
use Rattle.abuf_raster.specs.Samples.{offsets_of}
use Rattle.abuf_resolve.specs.Words.{IsFragmentAt}
use Rattle.abuf_drawing_rows.proofs.resolving.are_fragments.Goals as goal

pub loop-word-preserved : goal.loop-word-preserved
loop-word-preserved c =
    let P : ℕ → Type 0 = IsFragmentAt (offsets_of c.args.pattern) c.args.tris.now c.args.x c.args.y in
    let words = c.args.words.now in
    let i = c.loop-word.word-index in
    let is : c.is_fragment.result ≡ true = search (rules, c.if-not-is_fragment.false) in
    subst (All P) (sym (take_more words i 0 (omega arith))) (All-push P (take i words) (get_or words i 0) c.loop-word.invariant (c.is_fragment.ensures is))

pub returns : goal.returns
returns c = λ _.
    subst (All (IsFragmentAt (offsets_of c.args.pattern) c.args.tris.now c.args.x c.args.y)) (take_all c.loop-word.word-index c.args.words.now (omega arith)) c.loop-word.invariant
