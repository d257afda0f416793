use Rattle.std.proofs.Common.{List, ℕ, sym, subst}
use Rattle.std.specs.List.{range_with_len}
use Rattle.abuf_raster.specs.Samples.{offsets_of}
use Rattle.abuf_peel.specs.Members.{Keep}
use Rattle.abuf_peel.proofs.Found.{range_more}
use Rattle.abuf_peel.proofs.input.PeelInput.keep_all.Goals as goal

pub loop-n-preserved : goal.loop-n-preserved
loop-n-preserved c =
    let a = c.args in
    subst (λ (ns : List ℕ). Keep (offsets_of a.self.now.pattern) a.self.now.tris.now a.region ns c.keep_one.new.members.items) (sym (range_more c.loop-n.n))
    (c.in_ok-keep_one.ensures (range_with_len 0 c.loop-n.n) c.loop-n.invariant)
