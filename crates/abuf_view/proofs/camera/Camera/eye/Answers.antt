use Rattle.std.proofs.Common.{arith, ◌≡◌, ◌∙◌, sym, ap, ap₂, subst, ℤ, ◌*ℤ◌, SFits, w64, to_z, of_z}
use Rattle.std.proofs.lemmas.Int.{ints, to_z-of_z}
use Rattle.abuf_view.specs.Camera.{Camera}
use Rattle.abuf_view.specs.Eye.{eye_of, IsEye}
use Rattle.abuf_view.specs.declared.eye.Eye.{Eye}
use Rattle.abuf_view.proofs.Turning.{norm_low, norm_high, eye_sound}
use Rattle.abuf_view.proofs.Bounds.{fits55}
use Rattle.abuf_view.proofs.camera.Camera.eye.Goals as goal
use Rattle.abuf_view.proofs.camera.Camera.eye.Goals.{After-row_z}

pub times-plane-requires-clause-entry : goal.times-plane-requires-clause-entry
times-plane-requires-clause-entry c =
    let f : SFits w64 c.norm-norm.result = record { sfits = c.norm-norm.type_inv } in
    let low = norm_low c.self.inside.turn c.self.invariant.turn in
    let high = norm_high c.self.inside.turn c.self.invariant.turn in
    rw (to_z-of_z w64 c.norm-norm.result f, c.norm-norm.ensures) (omega (arith, ints, low, high))

module _ (c : After-row_z) where
  -- the camera, from its fields
  abbrev fields : Camera
  fields = record {
    width = c.self.inside.width;
    height = c.self.inside.height;
    turn = c.self.inside.turn;
    shift = c.self.inside.shift;
    focal = c.self.inside.lens.focal;
    near = c.self.inside.lens.near;
  }

  abbrev made : Eye
  made = record {
    x = c.row_x.result;
    y = c.row_y.result;
    z = c.row_z.result;
    shift = c.self.inside.shift;
    near_plane = record { norm = to_z w64 (of_z w64 c.norm-norm.result); w = to_z w64 (of_z w64 c.times-plane.result) };
    screen = record { width = c.self.inside.width; height = c.self.inside.height; focal = to_z w64 (of_z w64 c.self.inside.lens.focal) };
  }

  made_is : made ≡ eye_of fields
  made_is =
      let f1 : SFits w64 c.norm-norm.result = record { sfits = c.norm-norm.type_inv } in
      let f2 : SFits w64 c.times-plane.result = record { sfits = c.times-plane.type_inv } in
      let f3 : SFits w64 c.self.inside.lens.focal = fits55 _ (omega (arith, ints, c.self.invariant.lens)) in
      let f4 : SFits w64 c.self.inside.lens.near = fits55 _ (omega (arith, ints, c.self.invariant.lens)) in
      let n = to_z-of_z w64 c.norm-norm.result f1 ∙ c.norm-norm.ensures in
      let p = to_z-of_z w64 c.times-plane.result f2 ∙ (c.times-plane.ensures.value ∙ ap₂ (λ (x y : ℤ). x *ℤ y) n (to_z-of_z w64 c.self.inside.lens.near f4)) in
      let f = to_z-of_z w64 c.self.inside.lens.focal f3 in
      λ i. record {
        x = c.row_x.ensures i;
        y = c.row_y.ensures i;
        z = c.row_z.ensures i;
        shift = c.self.inside.shift;
        near_plane = record { norm = n i; w = p i };
        screen = record { width = c.self.inside.width; height = c.self.inside.height; focal = f i };
      }

pub returns-clause-value : goal.returns-clause-value
returns-clause-value c = made_is (goal.at.returns-clause-value c).After-row_z ∙ ap eye_of c.self.view_is

pub returns-clause-sound : goal.returns-clause-sound
returns-clause-sound c =
    let d = (goal.at.returns-clause-sound c).After-row_z in
    subst IsEye (sym (made_is d)) (eye_sound (fields d) c.self.invariant)
