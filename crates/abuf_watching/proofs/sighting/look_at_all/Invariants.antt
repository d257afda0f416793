use Rattle.std.proofs.Common.{◌≡◌, length, take}
use Rattle.std.specs.List.{AllZip}
use Rattle.abuf_picture.specs.Picture.{fragments}
use Rattle.abuf_watching.specs.Watching.{HasLooked, IsSight}
use Rattle.abuf_watching.proofs.sighting.look_at_all.Given as goal

abbrev pub invariant-loop-place : goal.invariant-loop-place
invariant-loop-place l = record {
  same : l.pass.frame ≡ l.fn.pass.frame;
  room : length l.out.items ≡ length l.triangles;
  looked : HasLooked l.fn.pass.view l.pass.view;
  words : AllZip (IsSight (fragments l.triangles l.watch.target.pattern l.watch.target.region) l.fn.pass.view.entries) (take l.place-index l.watch.places.now) l.words;
}
