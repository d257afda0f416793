-- What the pose of a camera keeps to.
use Rattle.abuf_view.specs.Camera.{IsTurn, IsBounded, quaternion_of, point_of}
use Rattle.abuf_cli.specs.declared.settings.Pose.{Pose}

pub record IsPose (p : Pose) : Type 0 where
  pub turn : IsTurn (quaternion_of p.turn)
  pub shift : IsBounded (point_of p.shift)
