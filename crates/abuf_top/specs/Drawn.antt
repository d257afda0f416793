-- What a drawing gives.
use Rattle.std.specs.Prelude.{◌≤◌, ℕ, List, Option, IfSome, Result}
use Rattle.abuf_frame.specs.Closing.{Ended}
use Rattle.abuf_top.specs.Image.{Drawing, has_one_frame}
use Rattle.abuf_top.specs.Verdict.{pool_verdict}
use Rattle.abuf_top.specs.Ending.{IsFrameOf, Produces, HandsBack}
use Rattle.abuf_top.specs.declared.stop.Stop.{Stop}

-- A closed frame in which every fragment has a node.
abbrev pub IsWholeFrameOf : Drawing → Ended → Type 0
IsWholeFrameOf d closed = IsFrameOf d closed × (closed.fragments ≤ closed.nodes)

-- The bytes that a drawing writes, or how it stops, and its closed frame.
pub record IsOutputOf (d : Drawing) (bytes : Result (List ℕ) Stop) (closed : Option Ended) : Type 0 where
  pub produced : Produces (pool_verdict d) bytes
  pub frame : IfSome closed (IsFrameOf d)
  pub handed : HandsBack (has_one_frame d.job) bytes closed
