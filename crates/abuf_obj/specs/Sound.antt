-- What every scene that was read keeps to.
use Rattle.std.specs.Prelude.{◌≤◌, ◌<◌, ◌-◌, ℕ, ℤ, unsigned_abs, List, length, All, IfSome, sum_by}
use Rattle.abuf_num.specs.declared.limits.TheConstants.{MAX_COORDINATE, MAX_TRIANGLES}
use Rattle.abuf_obj.specs.declared.face.Face.{Face}
use Rattle.abuf_obj.specs.declared.scene.Obj.{Obj}

-- each coordinate is at most 2147483647 either way, in units of 1/65536
abbrev pub IsInRange : List ℤ → Type 0
IsInRange point = All (λ z. unsigned_abs z ≤ MAX_COORDINATE) point

-- a face has at least three corners, each of them a point, and its name is one of the names
pub record IsFace (points names : ℕ) (face : Face) : Type 0 where
  pub three : 3 ≤ length face.corners
  pub corners : All (λ corner. corner < points) face.corners
  pub name : IfSome face.name (λ n. n < names)

-- the face has at least three corners, and its name is one of the names: what a reader knows before it has the number of points
abbrev pub IsFan : ℕ → Face → Type 0
IsFan names face = (3 ≤ length face.corners) × IfSome face.name (λ n. n < names)

-- how many triangles the fans of the faces have together
abbrev pub triangles_in : List Face → ℕ
triangles_in faces = sum_by (λ face. length face.corners - 2) faces

pub record IsScene (obj : Obj) : Type 0 where
  pub near : All IsInRange obj.points
  pub faces : All (IsFace (length obj.points) (length obj.names)) obj.faces
  pub few : triangles_in obj.faces ≤ MAX_TRIANGLES
