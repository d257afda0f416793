use Rattle.std.proofs.Common.{◌≡◌, ◌<◌, ◌++◌, ◌∷◌, ◌∙◌, sym, ap, Some, None, subst, length, get_or, List, ℕ, []}
use Rattle.abuf_text.specs.Names.{index_of}
use Rattle.abuf_mtl.specs.Material.{paint_of}
use Rattle.abuf_mtl.specs.Reading.{paint_at}
use Rattle.abuf_num.specs.declared.plain.Paint.{Paint}
use Rattle.abuf_mtl.proofs.Paints.{paint_at-push, index_of-last, index_stands, some_same}
use Rattle.abuf_mtl.proofs.reader.MtlReader.begin_new.Goals as goal

pub invariant_of-self-2-clause-begun_is : goal.invariant_of-self-2-clause-begun_is
invariant_of-self-2-clause-begun_is c = λ k is.
    let names = c.args.self.now.names in
    let name = c.args.name.now in
    let last : length names ≡ k = sym c.len-index.ensures ∙ some_same is in
    subst (λ (ns : List (List ℕ)). (k < length ns) × (index_of (get_or ns k []) ns ≡ Some k)) (sym c.in_ok-push.ensures.ok)
    (subst (λ (j : ℕ). (j < length (names ++ name ∷ [])) × (index_of (get_or (names ++ name ∷ []) j []) (names ++ name ∷ []) ≡ Some j)) last
    (index_stands name (names ++ name ∷ []) (length names) (index_of-last name names c.requires.new)))

pub returns-clause-starts : goal.returns-clause-starts
returns-clause-starts c = λ other.
    let paints : c.push_reserved.new.self.items ≡ c.args.self.now.paints.items ++ paint_of None None ∷ [] =
    c.push_reserved.ensures.items ∙ ap (λ (xs : List Paint). xs ++ paint_of None None ∷ []) c.reserve.ensures.items in
    ap (λ (ns : List (List ℕ)). paint_at ns c.push_reserved.new.self.items other) c.in_ok-push.ensures.ok
    ∙ ap (λ (xs : List Paint). paint_at (c.args.self.now.names ++ c.args.name.now ∷ []) xs other) paints
    ∙ paint_at-push c.args.self.now.names c.args.self.now.paints.items c.args.name.now (paint_of None None) c.args.self.now.beside c.requires.new other
