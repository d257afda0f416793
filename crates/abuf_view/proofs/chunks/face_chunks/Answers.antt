use Rattle.std.proofs.Common.{◌≡◌, ◌+◌, ◌*◌, ◌++◌, ◌∷◌, [], ◌∙◌, ℕ, take, drop, length, min, ap, sym, arith}
use Rattle.std.proofs.lemmas.List.{take_min, drop_min, drop-drop, length-drop, length_push}
use Rattle.abuf_view.specs.declared.chunks.FaceChunk.{FaceChunk}
use Rattle.abuf_view.proofs.Together.{cut_more}
use Rattle.abuf_view.proofs.chunks.face_chunks.Goals as goal

pub loop-left-preserved : goal.loop-left-preserved
loop-left-preserved c =
    let left = c.loop-left.left in
    let chunks = c.loop-left.chunks.items in
    let before = c.loop-left.invariant in
    let p = c.args.per_chunk in
    let chunk = c.split_at-chunk.result.0 in
    let made : FaceChunk = record { faces = chunk; room = c.loop-left.room } in
    let count : c.min.result ≡ min p (length left) = c.min.ensures ∙ ap (min p) c.len-in-loop-left.ensures in
    let first : chunk ≡ take p left = c.split_at-chunk.ensures.first ∙ (ap (λ (n : ℕ). take n left) count ∙ take_min p left) in
    let later : c.split_at-chunk.result.1 ≡ drop p left = c.split_at-chunk.ensures.rest ∙ (ap (λ (n : ℕ). drop n left) count ∙ drop_min p left) in
    let pushed : c.push.new.self.items ≡ chunks ++ made ∷ [] = c.in_ok-push.ensures.items in
    let longer : length c.push.new.self.items ≡ length chunks + 1 = ap length pushed ∙ length_push chunks made in
    let grown : length c.push.new.self.items * p ≡ length chunks * p + p = ap (λ (n : ℕ). n * p) longer ∙ (omega arith) in
    let fewer : length c.split_at-chunk.result.1 ≡ length (drop p left) = ap length later in
    let dropped = length-drop p left in
    record {
      count = omega (arith, before.count, grown, fewer, dropped);
      left = later ∙ (ap (drop p) before.left ∙ (drop-drop p (length chunks * p) c.args.faces ∙ ap (λ (n : ℕ). drop n c.args.faces) (sym grown)));
      each = cut_more p c.args.faces chunks c.push.new.self.items made pushed before.each (first ∙ ap (take p) before.left);
    }
