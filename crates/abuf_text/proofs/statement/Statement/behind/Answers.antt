use Rattle.std.proofs.Common.{◌∙◌, sym, arith}
use Rattle.abuf_text.proofs.Tokens.{behind-end, behind-space}
use Rattle.abuf_text.proofs.statement.Statement.behind.Goals as goal

pub returns-then-count-text : goal.returns-then-count-text
returns-then-count-text c = behind-end c.args.text.now c.args.count c.requires.token c.if-count-text.true

pub returns-then-is_space : goal.returns-then-is_space
returns-then-is_space c = behind-space c.args.text.now c.args.count c.requires.token (omega arith) (sym c.is_space.ensures ∙ c.if-is_space.true)
