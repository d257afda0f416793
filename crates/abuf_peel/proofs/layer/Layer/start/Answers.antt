use Rattle.std.proofs.Common.{rules, ◌≡◌, ◌∙◌, ◌*◌, ℕ, length, replicate, ap, ap₂, subst, sym, arith}
use Rattle.std.proofs.lemmas.Grind.{same_number_lists}
use Rattle.abuf_peel.specs.Layers.{StandsFor, count_of, peeled_of, started}
use Rattle.abuf_peel.proofs.Standing.{same_parts, stands_start}
use Rattle.abuf_peel.proofs.layer.Layer.start.Goals as goal
use Rattle.abuf_peel.proofs.layer.Layer.start.Goals.{In_ok-colours}

-- What is seen of the layer.
is : (c : In_ok-colours) → peeled_of c.args.region c.args.pattern c.in_ok-from.from.items c.in_ok-colours.colours.items ≡ started c.args.region c.args.pattern c.args.background
is c =
    let count : c.pixels.result * c.size.result ≡ count_of c.args.region c.args.pattern = ap₂ ◌*◌ c.pixels.ensures.value c.size.ensures in
    let three : length c.args.background ≡ 3 = search rules in
    let from : c.in_ok-from.from.items ≡ replicate (count_of c.args.region c.args.pattern) 0 = search rules in
    let colours : c.in_ok-colours.colours.items ≡ replicate (count_of c.args.region c.args.pattern) c.args.background =
    c.in_ok-colours.ensures.items_if_clones_equal (λ y k. same_number_lists y c.args.background (k.long ∙ sym three) (λ i l. k.at i 0 0 (omega (arith, k.long)))) ∙ ap (λ (n : ℕ). replicate n c.args.background) count in
    same_parts c.args.region c.args.pattern _ _ _ _ from colours

pub returns-clause-value : goal.returns-clause-value
returns-clause-value c = is c

pub returns-clause-layers : goal.returns-clause-layers
returns-clause-layers c = λ tris paints. subst (StandsFor c.args.background tris paints 0) (sym (is c)) (stands_start c.args.background tris paints c.args.region c.args.pattern)
