use Rattle.std.proofs.Common.{refl, arith}
use Rattle.abuf_mtl.proofs.Standing.{none-stand}
use Rattle.abuf_mtl.proofs.materials.Materials.new.Goals as goal

pub invariant_of-result : goal.invariant_of-result
invariant_of-result c = rw (c.new.ensures, c.new-2.ensures.items) (refl, omega arith, none-stand)
