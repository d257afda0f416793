use Rattle.std.proofs.Common.{◌≡◌, map, take}
use Rattle.abuf_scene.specs.Lookup.{look_up}
use Rattle.abuf_view.proofs.palette.Palette.new.Given as goal

abbrev pub invariant-loop-name : goal.invariant-loop-name
invariant-loop-name l = l.paints.items ≡ map (look_up l.materials) (take l.name-index l.names)
