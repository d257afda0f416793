use Rattle.std.proofs.Common.{◌≡◌, ◌∙◌, ◌≤◌, ◌+◌, [], None, List, ℤ, ap, sym, refl, arith, length}
use Rattle.abuf_text.specs.Lines.{lines}
use Rattle.abuf_obj.specs.Above.{Above, points_on}
use Rattle.abuf_obj.specs.Faults.{fault_from}
use Rattle.abuf_obj.specs.Scene.{points, faces, names, libraries, obj_fault, or_astray}
use Rattle.abuf_obj.specs.Pieces.{BeginsBehind, HasPiece, HavePieces}
use Rattle.abuf_obj.proofs.Late.{first_late, found_of_all, faces_of_all}
use Rattle.abuf_obj.proofs.PieceReading.{sound-whole}
use Rattle.abuf_obj.proofs.threads.read_in_pieces.Goals as goal

pub returns : goal.returns
unfolding obj_fault points faces names libraries
returns g c =
    let all = lines c.args.bytes.now in
    let r = c.in_ok-reader.reader in
    let start = c.in_ok-start in
    let none : length start.start.points ≡ 0 = ap (λ (ps : List (List ℤ)). length ps) start.ensures.points in
    let above : start.start.points_above + length start.start.points ≡ points_on [] = omega (arith, start.ensures.above, none) in
    let begin : BeginsBehind [] start.start = record {
      points = above;
      names = record { names = start.ensures.names ∙ c.new.ensures; libraries = start.ensures.libraries ∙ c.new-2.ensures; name = start.ensures.name };
    } in
    let parts : HavePieces c.in_ok-readers.readers.items [] all = c.in_ok-readers.ensures.pieces [] refl begin in
    let whole : HasPiece [] all r = c.in_ok-reader.ensures [] all parts in
    let o = c.finish-obj.result in
    let made = c.finish-obj.ensures in
    let few : length o.points ≤ 1048576 = omega (arith, r.few_points, ap length made.points) in
    let points_are = made.points ∙ whole.points in
    let faces_are = made.faces ∙ whole.faces in
    let within = sym c.first_astray.ensures ∙ c.in-None.is in
    let sound : fault_from [] all ≡ None = sound-whole all r r.few_triangles whole in
    let found = found_of_all all o.points o.faces few points_are faces_are c.first_astray.result c.first_astray.ensures in
    record {
      sound = first_late all c.first_astray.result sound found ∙ ap (or_astray None) c.in-None.is;
      points = points_are;
      faces = faces_of_all all o.points o.faces few points_are faces_are within;
      names = made.names ∙ ap (λ (a : Above). a.names) whole.above;
      libraries = made.libraries ∙ ap (λ (a : Above). a.libraries) whole.above;
      scene = made.scene within;
    }
