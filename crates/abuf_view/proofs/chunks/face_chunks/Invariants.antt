use Rattle.std.proofs.Common.{◌≡◌, ◌≤◌, ◌+◌, ◌*◌, ◌<◌, ℕ, take, drop, length, slice_index_or}
use Rattle.abuf_view.specs.declared.chunks.FaceChunk.{FaceChunk}
use Rattle.abuf_view.proofs.chunks.face_chunks.Given as goal

abbrev pub invariant-loop-left : goal.invariant-loop-left
invariant-loop-left l = record {
  count : length l.fn.faces ≤ length l.left + length l.chunks.items * l.per_chunk;
  left : l.left ≡ drop (length l.chunks.items * l.per_chunk) l.fn.faces;
  each : (n : ℕ) (d : FaceChunk) → n < length l.chunks.items → (slice_index_or l.chunks.items n d).faces ≡ take l.per_chunk (drop (n * l.per_chunk) l.fn.faces);
}

abbrev pub decreases-loop-left : goal.decreases-loop-left
decreases-loop-left l = length l.left
