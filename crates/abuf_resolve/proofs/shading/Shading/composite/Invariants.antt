use Rattle.std.proofs.Common.{◌≡◌, take}
use Rattle.abuf_resolve.specs.Shading.{composite_at}
use Rattle.abuf_resolve.proofs.shading.Shading.composite.Given as goal

abbrev pub invariant-loop-word : goal.invariant-loop-word
invariant-loop-word l = l.colour ≡ composite_at l.self (take l.word-index l.words) l.k
