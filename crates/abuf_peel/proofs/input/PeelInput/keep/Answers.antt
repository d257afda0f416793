use Rattle.std.proofs.Common.{List, ℕ, take, sym, subst, arith}
use Rattle.std.proofs.lemmas.List.{take_more}
use Rattle.abuf_raster.specs.Samples.{offsets_of}
use Rattle.abuf_peel.specs.Members.{Keep}
use Rattle.abuf_peel.proofs.input.PeelInput.keep.Goals as goal

pub loop-n-preserved : goal.loop-n-preserved
loop-n-preserved c =
    let a = c.args in
    let i = c.loop-n.n-index in
    subst (λ (ns : List ℕ). Keep (offsets_of a.self.now.pattern) a.self.now.tris.now a.region ns c.keep_one.new.members.items) (sym (take_more a.among.now i _ (omega arith)))
    (c.in_ok-keep_one.ensures (take i a.among.now) c.loop-n.invariant)
