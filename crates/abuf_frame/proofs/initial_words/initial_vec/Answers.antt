use Rattle.std.proofs.Common.{◌≡◌, ◌+◌, ◌*◌, ◌/◌, ◌%◌, ◌++◌, ℕ, List, take, sym, subst, arith, rules}
use Rattle.abuf_frame.specs.Words.{IsInitial}
use Rattle.abuf_frame.proofs.Initial.{initial_first, initial_more}
use Rattle.abuf_frame.proofs.initial_words.initial_vec.Goals as goal

pub loop-preserved : goal.loop-preserved
loop-preserved c = let n : ℕ = 64 * c.loop.counter in let ws : List ℕ = c.loop.words.items in let row : List ℕ = c.initial_row-row.result in let e : n + 64 ≡ 64 * (c.loop.counter + 1) = omega arith in
    subst (IsInitial c.args.pixels (64 * (c.loop.counter + 1))) (sym c.in_ok-extend_from_slice.ensures.items)
    (subst (λ (m : ℕ). IsInitial c.args.pixels m (ws ++ row)) e (initial_more c.args.pixels n 64 ws row c.loop.invariant c.initial_row-row.ensures))

pub returns : goal.returns
returns c = let pixels : ℕ = c.args.pixels in let nodes : ℕ = c.args.nodes in let ws : List ℕ = c.loop.words.items in let row : List ℕ = c.initial_row-row.result in let rest : ℕ = nodes % 64 in
    let done : c.loop.counter ≡ nodes / 64 = search rules in let e : 64 * c.loop.counter + rest ≡ nodes = omega arith in
    subst (IsInitial pixels nodes) (sym c.in_ok-extend_from_slice-2.ensures.items)
    (subst (λ (m : ℕ). IsInitial pixels m (ws ++ take (2 * rest) row)) e (initial_more pixels (64 * c.loop.counter) rest ws (take (2 * rest) row) c.loop.invariant (initial_first rest 64 row (omega arith) c.initial_row-row.ensures)))
