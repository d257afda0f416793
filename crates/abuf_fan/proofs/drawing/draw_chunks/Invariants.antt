use Rattle.std.proofs.Common.{◌≡◌, ℕ, ◌+◌, ◌-◌, ◌*◌, ◌≤◌, ◌<◌, List, ◌++◌, length, drop, All}
use Rattle.std.specs.List.{flat_map}
use Rattle.abuf_raster.specs.Samples.{offsets_of}
use Rattle.abuf_frame.specs.Draws.{Draws}
use Rattle.abuf_fan.specs.Chunks.{chunk_fragments, chunks_of}
use Rattle.abuf_fan.proofs.drawing.draw_chunks.Given as goal

abbrev pub invariant-loop-chunk : goal.invariant-loop-chunk
invariant-loop-chunk g l = record {
  same : l.pass.frame ≡ l.fn.pass.frame;
  seat : l.turn.table ≡ l.fn.turn.table;
  numbers : List ℕ;
  drawn_are : l.turn.view.drawn ≡ l.fn.turn.view.drawn ++ numbers;
  spent : l.turn.view.credit + length numbers ≡ l.fn.turn.view.credit;
  above : (m : ℕ) → All (λ n. n < m) l.turn.view.drawn → l.next ≤ m;
  low : l.next ≤ chunks_of (length l.work.order.now);
  turns : chunks_of (length l.work.order.now) + 1 ≤ l.turn.view.credit + l.next;
  room : length (drop (64 * l.next) l.work.order.now) * (l.work.region.w * l.work.region.h) ≤ l.pass.view.credit;
  drawn : Draws (flat_map (chunk_fragments l.work.tris.now (offsets_of l.work.pattern) l.work.region l.work.order.now) numbers) l.fn.pass.view l.pass.view;
}

abbrev pub decreases-loop-chunk : goal.decreases-loop-chunk
decreases-loop-chunk g l = chunks_of (length l.work.order.now) - l.next
