use Rattle.std.proofs.Common.{◌∙◌, sym, ap, length}
use Rattle.abuf_text.specs.Statement.{statement}
use Rattle.abuf_text.proofs.Tokens.{statement-none, statement-trim_start}
use Rattle.abuf_text.proofs.statement.Statement.text.Goals as goal

pub returns-clause-left : goal.returns-clause-left
returns-clause-left c = ap statement c.trim_start.ensures ∙ statement-trim_start c.self.inside.left.now ∙ c.self.view_is

pub returns-clause-none : goal.returns-clause-none
returns-clause-none c = λ none. sym c.self.view_is ∙ statement-none c.self.inside.left.now (sym (ap length c.trim_start.ensures) ∙ none)
