use Rattle.std.proofs.Common.{◌++◌, List, ℕ, Bor, subst, arith}
use Rattle.abuf_obj.specs.Pieces.{texts, HasNames}
use Rattle.abuf_obj.proofs.Tallies.{begins-behind}
use Rattle.abuf_obj.proofs.reader.ObjReader.behind.Goals as goal

pub returns : goal.returns
returns c = λ before lines begin is.
    let r = c.in_ok-behind.ensures in
    let has = c.in_ok-take_named.ensures before (c.in_ok-reader.ensures.begins before begin).names in
    begins-behind before lines c.args.tally.now c.args.self.now c.take_named.new.self c.in_ok-behind.behind begin is
    (subst (λ (ls : List (Bor (List ℕ))). HasNames (before ++ texts ls) c.take_named.new.self) c.as_slice.ensures.value has)
    (omega (arith, r.above, c.point_count.ensures)) r.points r.names r.libraries r.name
