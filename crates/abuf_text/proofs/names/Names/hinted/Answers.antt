use Rattle.std.proofs.Common.{◌≡◌, ◌<◌, ◌∙◌, [], get_or, length, sym, subst, arith, ℕ, List, Some}
use Rattle.std.specs.Cmp.Lexicographic.{bytes_decides}
use Rattle.std.proofs.lemmas.List.{get_or_default}
use Rattle.abuf_text.specs.Names.{index_of}
use Rattle.abuf_text.proofs.NameTable.{index_of-at}
use Rattle.abuf_text.proofs.names.Names.hinted.Goals as goal

pub returns-then-eq : goal.returns-then-eq
returns-then-eq c =
    let names : List (List ℕ) = c.self.inside.list.items in
    let i : ℕ = get_or c.self.inside.hints c.slot_of.result 0 in
    let within : i < length names = omega (arith, c.if-at-len.true, c.len.ensures) in
    let same : c.as_slice.result.now ≡ c.args.name.now = (bytes_decides _ _).0 (sym c.eq.ensures ∙ c.if-eq.true) in
    let at : get_or names i [] ≡ c.args.name.now = get_or_default names i [] c.index.result.now within ∙ sym c.index.ensures ∙ sym c.as_slice.ensures ∙ same in
    subst (λ (ns : List (List ℕ)). index_of c.args.name.now ns ≡ Some i) c.self.view_is (index_of-at c.args.name.now names i c.self.invariant.1 within at)
