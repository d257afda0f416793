use Rattle.std.proofs.Common.{◌≡◌, ◌∙◌, ◌*◌, ap₂, pos, arith, sym, subst, to_z, w64}
use Rattle.std.proofs.lemmas.Int.{ints}
use Rattle.abuf_raster.specs.Samples.{pixel_centre}
use Rattle.abuf_raster.specs.Values.{values_at, changes, plus_all, AreAtMost, IsRoomFor}
use Rattle.abuf_raster.specs.TrioNumbers.{numbers_of}
use Rattle.abuf_raster.proofs.Changes.{values_stepped, values_room, values_small, centre_near}
use Rattle.abuf_raster.proofs.setup.Setup.values_at.Goals as goal
use Rattle.abuf_raster.proofs.setup.Setup.values_at.Goals.{After-changes}

-- the start, and the way from there to the pixel
stepped : (g : _) (c : After-changes g) → plus_all (numbers_of g.V.Width.number c.args.self.now.start) (numbers_of g.V.Width.number c.changes.result) ≡ values_at c.args.t.now (pixel_centre c.args.x c.args.y)
stepped g c =
    let right : to_z w64 (256 * c.args.x) ≡ pos (256 * c.args.x) = omega (arith, ints) in
    let down : to_z w64 (256 * c.args.y) ≡ pos (256 * c.args.y) = omega (arith, ints) in
    ap₂ plus_all c.requires.start (c.changes.ensures ∙ ap₂ (changes c.args.t.now) right down)
    ∙ values_stepped c.args.t.now (pixel_centre 0 0) (pixel_centre c.args.x c.args.y) (pos (256 * c.args.x)) (pos (256 * c.args.y)) (omega (arith, ints)) (omega (arith, ints))

pub plus-requires : goal.plus-requires
plus-requires g c = subst (IsRoomFor g.V.Width.reach) (sym (stepped g c)) (values_room g.V.Width.reach c.args.t.now (pixel_centre c.args.x c.args.y) c.requires.wide c.requires.near (centre_near g.V.Width.reach c.args.x c.args.y c.requires.wide (omega arith) (omega arith)))

pub returns : goal.returns
returns g c =
    let r = g.V.Width.reach in
    let is = c.plus.ensures ∙ stepped g (goal.at.returns g c).After-changes in
    record {
      value = is;
      small = subst (AreAtMost (9 * (r * r))) (sym is) (values_small r c.args.t.now (pixel_centre c.args.x c.args.y) c.requires.wide c.requires.near (centre_near r c.args.x c.args.y c.requires.wide (omega arith) (omega arith)));
    }
