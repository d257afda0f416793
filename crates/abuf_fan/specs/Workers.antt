-- What a group of workers is given, and what it has done.
use Rattle.std.specs.Prelude.{◌≡◌, ℕ, ◌+◌, ◌*◌, ◌<◌, ◌≤◌, ℤ, List, ◌++◌, length}
use Rattle.std.specs.List.{flat_map}
use Rattle.abuf_raster.specs.Region.{Region}
use Rattle.abuf_raster.specs.Samples.{offsets_of}
use Rattle.abuf_raster.specs.Triangle.{Triangle}
use Rattle.abuf_frame.specs.declared.view.View.{View}
use Rattle.abuf_num.specs.Counting.{times}
use Rattle.abuf_frame.specs.Pass.{PassState}
use Rattle.abuf_frame.specs.Steps.{split_left, split_right}
use Rattle.abuf_share.specs.declared.desk.TheConstants.{MAX_NUMBERS}
use Rattle.abuf_share.specs.declared.rule.TurnView.{TurnView}
use Rattle.abuf_fan.specs.declared.work.Work.{Work}
use Rattle.abuf_share.specs.Desk.{EachOnceIfWhole, TurnState}
use Rattle.abuf_fan.specs.Grows.{Grows}
use Rattle.abuf_fan.specs.Chunks.{chunk_fragments, chunks_of}

-- the credit of a pass that so many workers need: each of them could draw every triangle on each pixel
abbrev pub credit_for : Work → ℕ → ℕ
credit_for work workers = workers * (length work.tris.now * (work.region.w * work.region.h))

-- The turn and the pass are of the work's desk and frame, and have credit for so many workers: a turn draws each chunk's number
-- and one more.
pub record CanServe (work : Work) (workers : ℕ) (turn : TurnState) (pass : PassState) : Type 0 where
  pub of_frame : pass.frame ≡ work.frame.now
  pub of_desk : turn.table ≡ work.desk.now.table
  pub numbers : workers * (MAX_NUMBERS + 1) ≤ turn.view.credit
  pub fragments : credit_for work workers ≤ pass.view.credit

-- v was split into what was left of it and the view of a new pass
pub record Parted (v left right : View) : Type 0 where
  pub moved : ℕ
  pub enough : moved ≤ v.credit
  pub left_is : left ≡ split_left moved v
  pub right_is : right ≡ split_right moved v

-- From h to k a turn has drawn these numbers, one of them beyond the chunks, and from v to w a pass has drawn the chunks of
-- the numbers.
pub record Served (ts : List Triangle) (offsets : List (ℤ × ℤ)) (r : Region) (order : List ℕ) (h k : TurnView) (v w : View) : Type 0 where
  pub numbers : List ℕ
  pub drawn_are : k.drawn ≡ h.drawn ++ numbers
  pub spent_turn : k.credit + length numbers ≡ h.credit
  pub beyond : ℕ
  pub taken : 0 < times beyond numbers
  pub is_beyond : chunks_of (length order) ≤ beyond
  pub each_once : EachOnceIfWhole k
  pub grows : Grows (flat_map (chunk_fragments ts offsets r order) numbers) v w

-- From h to k a turn, and from p to q a pass, have served the work.
pub record HaveServed (work : Work) (h k : TurnState) (p q : PassState) : Type 0 where
  pub same_frame : q.frame ≡ p.frame
  pub same_desk : k.table ≡ h.table
  pub served : Served work.tris.now (offsets_of work.pattern) work.region work.order.now h.view k.view p.view q.view
