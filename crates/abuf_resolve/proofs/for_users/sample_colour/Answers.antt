use Rattle.std.proofs.Common.{◌∙◌, ◌≡◌, ◌-◌, ap, ℕ, List, take, drop, length, length-drop, arith}
use Rattle.std.proofs.lemmas.List.{take_all}
use Rattle.abuf_resolve.specs.Words.{folded}
use Rattle.abuf_resolve.proofs.Folds.{from_hidden}
use Rattle.abuf_resolve.proofs.for_users.sample_colour.Goals as goal

pub returns : goal.returns
returns c =
    let first = c.first_seen-first.result in
    let words = c.args.sorted.now in
    let whole : take (length words - first) (drop first words) ≡ drop first words = take_all (length words - first) (drop first words) (omega (arith, length-drop first words)) in
    c.composite_all.ensures
    ∙ (ap (λ (ws : List ℕ). folded c.args.background c.args.paints.now ws) whole
    ∙ from_hidden c.args.paints.now c.args.background words first c.first_seen-first.ensures.hidden)
