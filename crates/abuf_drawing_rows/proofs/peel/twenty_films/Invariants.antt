use Rattle.std.proofs.Common.{◌≡◌, length}
use Rattle.abuf_drawing_rows.proofs.peel.twenty_films.Given as goal

abbrev pub invariant-loop-n : goal.invariant-loop-n
invariant-loop-n l = record { tris : length l.tris ≡ l.n; paints : length l.paints ≡ l.n }
