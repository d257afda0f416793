use Rattle.std.proofs.Common.{ℕ, ◌≡◌, List, ◌++◌, length, map, Some, IfOk, rules, arith, sym, subst, ap, ◌∙◌, length-append}
use Rattle.std.specs.List.Sorted.{IsNonDecreasingBy}
use Rattle.std.proofs.lemmas.List.Elements.{All-pop}
use Rattle.std.proofs.lemmas.List.Sorted.{IsNonDecreasingBy-from_sort_by_key}
use Rattle.std.proofs.lemmas.Result.{IfOk-at_ok}
use Rattle.abuf_share.specs.declared.rule.TurnView.{TurnView}
use Rattle.abuf_share.specs.Numbered.{HasCalled, HasPassed, number_of, value_of}
use Rattle.abuf_share.proofs.Numbers.{are_both, passed_both, sorted_gives}
use Rattle.abuf_share.proofs.numbered.map_numbered.Goals as goal

pub loop-worker-preserved : goal.loop-worker-preserved
loop-worker-preserved g c =
    let i = c.loop-worker.invariant in let desk = c.in_ok-owned.owned in let f = c.args.f.now in let worker = c.in_ok-done.done in
    let popped = All-pop (λ w. IfOk w (λ d. HasCalled g.F.Fn f desk d)) _ _ (Some c.in-Some.worker) c.in-Some.ensures.items i.each in
    let done : HasCalled g.F.Fn f desk worker = IfOk-at_ok (λ d. HasCalled g.F.Fn f desk d) c.in_ok-done.was popped.1 in
    let ns : List ℕ = c.loop-worker.turn.view.drawn in let ms : List ℕ = worker.turn.view.drawn in
    let credit = ap (λ (h : TurnView). h.credit) c.join.ensures.view in let drawn : c.join.new.self.view.drawn ≡ ns ++ ms = ap (λ (h : TurnView). h.drawn) c.join.ensures.view in
    let len = ap (λ (l : List ℕ). length l) drawn ∙ length-append ns ms in
    record {
      table = c.join.ensures.table ∙ i.table;
      whole = omega (arith, i.whole, done.whole, c.in-Some.ensures.cases);
      once = c.join.ensures.each_once;
      passed = λ _. subst (HasPassed desk.limit) (sym drawn) (passed_both desk.limit ns ms done.passed);
      are = rw (drawn, c.in_ok-append.ensures.items) (are_both g.F.Fn f desk.limit ns ms _ _ i.are done.are);
      each = popped.0;
    }

pub returns : goal.returns
returns g c =
    let i = c.loop-worker.invariant in let none = c.in_default.ensures.cases.0 in let count = c.in_ok-workers.ensures.len in let turns = c.in_ok-turns.ensures.len in let most = c.max.ensures in
    let entries = c.loop-worker.entries.items in let sorted = c.sort_unstable_by_key.new.self.items in
    let limit : c.in_ok-owned.owned.limit ≡ c.args.count = c.in_ok-owned.ensures.0 in
    let values : c.in_ok-values.values.items ≡ map value_of sorted = search rules in
    let ascends : IsNonDecreasingBy number_of sorted = IsNonDecreasingBy-from_sort_by_key number_of sorted c.sort_unstable_by_key.ensures.sorted (λ a r q k. search rules) in
    let gives = sorted_gives g.F.Fn c.args.f.now c.in_ok-owned.owned.limit c.loop-worker.turn.view.drawn entries sorted (i.once (omega (arith, i.whole, none))) (i.passed (omega (arith, none, count, turns, most))) i.are c.sort_unstable_by_key.ensures.permutation ascends in
    rw (values, ← limit) record { len = c.in_ok-values.values.ok.0 ∙ (ap length values ∙ gives.0); each = gives.1 }
