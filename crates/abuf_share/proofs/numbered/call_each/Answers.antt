use Rattle.std.proofs.Common.{ℕ, List, [], ◌∷◌, length, arith, sym, subst, ap, ◌∙◌, length-append}
use Rattle.abuf_share.specs.declared.rule.TurnView.{TurnView}
use Rattle.abuf_share.specs.Numbered.{AreOf, HasPassed}
use Rattle.abuf_share.proofs.Numbers.{are_past, passed_both, passed_one}
use Rattle.abuf_share.proofs.numbered.call_each.Goals as goal

pub returns : goal.returns
returns g c =
    let i = c.loop-number.invariant in let limit = c.args.desk.now.limit in let ns : List ℕ = c.loop-number.turn.view.drawn in
    let taken = c.in_default.ensures.number in let number : ℕ = taken.0 in
    let credit = ap (λ (h : TurnView). h.credit) taken.1 in let drawn = ap (λ (h : TurnView). h.drawn) taken.1 in
    let len = ap (λ (l : List ℕ). length l) drawn ∙ length-append ns (number ∷ []) in
    record {
      of_desk = c.in_default.ensures.table ∙ i.table;
      whole = omega (arith, i.whole, i.low, c.requires.limit);
      passed = subst (HasPassed limit) (sym drawn) (passed_both limit ns (number ∷ []) (passed_one limit number taken.3));
      are = subst (λ (l : List ℕ). AreOf g.F.Fn c.args.f.now limit l c.loop-number.entries.items) (sym drawn) (are_past g.F.Fn c.args.f.now limit number ns c.loop-number.entries.items taken.3 i.are);
    }
