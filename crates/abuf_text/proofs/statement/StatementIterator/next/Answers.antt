use Rattle.std.proofs.Common.{◌≡◌, ◌∷◌, ◌<◌, ℕ, List, length, ◌∙◌, sym, ap, subst, arith, true, false}
use Rattle.std.proofs.lemmas.Bool.Decides.{nat_tests}
use Rattle.abuf_text.specs.Statement.{statement, is_comment}
use Rattle.abuf_text.specs.Rest.{trim_start, first_token}
use Rattle.abuf_text.proofs.Tokens.{statement-none, statement-comment, statement-first, statement-nil, statement-trim_none}
use Rattle.abuf_text.proofs.statement.StatementIterator.next.Goals as goal
use Rattle.abuf_text.proofs.statement.StatementIterator.next.Goals.{Else-begins_comment}

pub returns-then-is_empty-clause-steps : goal.returns-then-is_empty-clause-steps
returns-then-is_empty-clause-steps c =
    let empty : length c.trim_start-text.result.now ≡ 0 = grind (arith, nat_tests) in
    (sym c.self.view_is ∙ statement-none c.self.inside.left.now (sym (ap length c.trim_start-text.ensures) ∙ empty), statement-trim_none c.trim_start-text.result.now empty)

pub returns-then-begins_comment-clause-steps : goal.returns-then-begins_comment-clause-steps
returns-then-begins_comment-clause-steps c =
    let some : 0 < length c.trim_start-text.result.now = grind (arith, nat_tests) in
    let comment : is_comment (first_token (trim_start c.self.inside.left.now)) ≡ true = rw (← c.trim_start-text.ensures, ← c.split_token.ensures.word) (sym c.begins_comment.ensures ∙ c.if-begins_comment.true) in
    (sym c.self.view_is ∙ statement-comment c.self.inside.left.now (subst (λ (t : List ℕ). 0 < length t) c.trim_start-text.ensures some) comment, statement-nil)

first : (c : Else-begins_comment) → c.args.self.now ≡ c.split_token.result.0.now ∷ statement c.split_token.result.1.now
first c =
    let some : 0 < length c.trim_start-text.result.now = grind (arith, nat_tests) in
    let plain : is_comment (first_token (trim_start c.self.inside.left.now)) ≡ false = rw (← c.trim_start-text.ensures, ← c.split_token.ensures.word) (sym c.begins_comment.ensures ∙ c.if-begins_comment.false) in
    rw (c.split_token.ensures.word, c.split_token.ensures.after, c.trim_start-text.ensures)
    (sym c.self.view_is ∙ statement-first c.self.inside.left.now (subst (λ (t : List ℕ). 0 < length t) c.trim_start-text.ensures some) plain)

pub returns-else-begins_comment-clause-steps : goal.returns-else-begins_comment-clause-steps
returns-else-begins_comment-clause-steps c = first (goal.at.returns-else-begins_comment-clause-steps c).Else-begins_comment

pub returns-else-begins_comment-clause-goes : goal.returns-else-begins_comment-clause-goes
returns-else-begins_comment-clause-goes c =
    let e = ap length (first (goal.at.returns-else-begins_comment-clause-goes c).Else-begins_comment) in
    record { on = λ f. (tt, tt, omega (arith, e)); keeps = tt; rests = λ f. tt }
