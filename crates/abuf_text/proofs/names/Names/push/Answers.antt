use Rattle.std.proofs.lemmas.Grind.{common_steps}
use Rattle.std.proofs.Common.{length-append, None, rules, arith, subst, ◌≡◌, ◌++◌, ◌∷◌, [], ◌∙◌, ap, sym, ℕ, List, Option, Some, length, cond}
use Rattle.std.specs.Str.{bytes_eq}
use Rattle.abuf_text.specs.Names.{index_of, IsEachOnce}
use Rattle.abuf_text.proofs.NameTable.{at_name-set, index_of-push, each_once-push, index_of-last}
use Rattle.abuf_text.proofs.names.Names.push.Goals as goal

pub invariant_of-self-2 : goal.invariant_of-self-2
invariant_of-self-2 c =
    let key : c.in_ok-key.key.items ≡ c.args.name.now = grind (arith, common_steps) in
    let count : c.len-index.result ≡ length c.self.inside.list.items = search rules in
    let names : c.push_reserved.new.self.items ≡ c.self.inside.list.items ++ c.args.name.now ∷ [] = search rules in
    let none : index_of c.args.name.now c.self.inside.list.items ≡ None = subst (λ (names : List (List ℕ)). index_of c.args.name.now names ≡ None) (sym c.self.view_is) c.requires.new in (
      λ other.
          at_name-set c.args.name.now c.in_ok-key.key c.self.inside.indices c.insert.new.self _ key c.in_ok-insert.ensures.updates other
          ∙ ap (λ (index : Option ℕ). cond (bytes_eq c.args.name.now other) (Some c.len-index.result) index) (c.self.invariant.0 other)
          ∙ ap (λ (n : ℕ). cond (bytes_eq c.args.name.now other) (Some n) (index_of other c.self.inside.list.items)) count
          ∙ index_of-push c.args.name.now other c.self.inside.list.items none
          ∙ ap (index_of other) (sym names),
      subst IsEachOnce (sym names) (each_once-push c.self.inside.list.items c.args.name.now none c.self.invariant.1),
      omega (arith, ap length names, c.requires.few, length-append c.self.inside.list.items (c.args.name.now ∷ []), ap length c.self.view_is),
    )

pub returns-clause-index : goal.returns-clause-index
returns-clause-index c =
    let names : c.push_reserved.new.self.items ≡ c.self.inside.list.items ++ c.args.name.now ∷ [] = search rules in
    let none : index_of c.args.name.now c.self.inside.list.items ≡ None = subst (λ (names : List (List ℕ)). index_of c.args.name.now names ≡ None) (sym c.self.view_is) c.requires.new in
    ap (index_of c.args.name.now) names ∙ index_of-last c.args.name.now c.self.inside.list.items none ∙ ap (λ (names : List (List ℕ)). Some (length names)) c.self.view_is
