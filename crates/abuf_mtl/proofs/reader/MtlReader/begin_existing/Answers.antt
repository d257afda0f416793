use Rattle.std.proofs.Common.{◌≡◌, ◌<◌, sym, ap, Some, None, subst, length, get_or, ℕ, []}
use Rattle.abuf_text.specs.Names.{index_of}
use Rattle.abuf_mtl.specs.Material.{paint_of}
use Rattle.abuf_mtl.proofs.Paints.{paint_at-set, name_at, index_stands, some_same}
use Rattle.abuf_mtl.proofs.reader.MtlReader.begin_existing.Goals as goal

pub invariant_of-self-clause-begun_is : goal.invariant_of-self-clause-begun_is
invariant_of-self-clause-begun_is c = λ k is.
    let names = c.args.self.now.names in
    subst (λ (j : ℕ). (j < length names) × (index_of (get_or names j []) names ≡ Some j)) (some_same is) (index_stands c.args.name.now names c.args.index c.requires)

pub returns-clause-starts : goal.returns-clause-starts
returns-clause-starts c = λ other.
    paint_at-set c.args.self.now.names c.args.self.now.paints.items c.args.name.now c.args.index (paint_of None None) c.args.self.now.beside c.requires other

pub returns-clause-current : goal.returns-clause-current
returns-clause-current c = ap Some (sym (name_at c.args.name.now c.args.self.now.names c.args.index c.requires))
