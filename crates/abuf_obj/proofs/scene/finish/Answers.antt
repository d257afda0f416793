use Rattle.std.proofs.Common.{◌<◌, ℕ, List, length, get_or, arith, sym, subst}
use Rattle.std.specs.Prelude.{IfSome}
use Rattle.abuf_obj.proofs.Late.{faces_below}
use Rattle.abuf_obj.proofs.scene.finish.Goals as goal

pub returns-clause-scene : goal.returns-clause-scene
returns-clause-scene c = λ none.
    let r = c.args.reader in
    let below = faces_below (length r.points) (omega (arith, r.few_points)) r.faces none in
    record {
      near = r.near;
      faces = λ k d here. record {
        three = (r.fans k d here).0;
        corners = below k d here;
        name = subst (λ (names : List (List ℕ)). IfSome (get_or r.faces k d).name (λ n. n < length names)) (sym c.into_list.ensures) (r.fans k d here).1;
      };
      few = omega (arith, r.counts, r.few_triangles);
    }
