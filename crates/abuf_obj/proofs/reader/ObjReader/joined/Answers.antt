use Rattle.std.proofs.Common.{◌+◌, ◌∙◌, refl, length, get_or, ap, ap₂, arith, length-append}
use Rattle.std.proofs.lemmas.List.Elements.{All-append, All-same}
use Rattle.std.proofs.lemmas.List.Sums.{sum_by-append}
use Rattle.abuf_obj.specs.Sound.{IsInRange, IsFan, triangles_in}
use Rattle.abuf_obj.proofs.PieceReading.{both-pieces, more-names}
use Rattle.abuf_obj.proofs.reader.ObjReader.joined.Goals as goal

pub invariant_of-result : goal.invariant_of-result
invariant_of-result c =
    let a = c.args.first in
    let b = c.args.second in
    let follows = c.if-not-may_follow.ensures in
    let points = c.in_ok-points.ensures in
    let faces = c.in_ok-faces.ensures in
    record {
      few_points = omega (arith, follows.points refl, b.few_points, ap length points, length-append a.points b.points);
      few_triangles = follows.triangles refl;
      few_names = b.few_names;
      few_libraries = b.few_libraries;
      near = All-same IsInRange _ _ points (All-append IsInRange a.points b.points a.near b.near);
      fans = All-same (IsFan (length b.names)) _ _ faces (All-append (IsFan (length b.names)) a.faces b.faces (λ k d here. more-names (length a.names) (length b.names) (get_or a.faces k d) (follows.names refl) (a.fans k d here)) b.fans);
      counts = ap triangles_in faces ∙ sum_by-append _ a.faces b.faces ∙ ap₂ (λ m n. m + n) a.counts b.counts;
      named = b.named;
    }

pub returns : goal.returns
returns c = λ before xs ys first second.
    let a = c.args.first in
    let b = c.args.second in
    let follows = c.if-not-may_follow.ensures in
    both-pieces before xs ys a b _
    (record { follows = follows.points refl; points_above = refl; points = c.in_ok-points.ensures; faces = c.in_ok-faces.ensures; triangles = refl; names = refl; libraries = refl; name = refl })
    first second
