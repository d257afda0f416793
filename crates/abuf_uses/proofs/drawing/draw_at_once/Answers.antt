use Rattle.std.proofs.Common.{◌≡◌, ◌≤◌, ◌<◌, ◌+◌, ◌++◌, length, length-append, arith, rules}
use Rattle.std.proofs.lemmas.List.Sorted.{IsPermutation-trans}
use Rattle.abuf_frame.specs.declared.view.View.{View}
use Rattle.abuf_frame.specs.Draws.{Adds, Draws, pairs, payloads_at}
use Rattle.abuf_frame.specs.Closing.{list_at}
use Rattle.abuf_frame.specs.Views.{lost}
use Rattle.abuf_uses.proofs.Payloads.{joined, payloads_permuted}
use Rattle.abuf_uses.proofs.drawing.draw_at_once.Goals as goal

pub returns-clause-lists : goal.returns-clause-lists
returns-clause-lists g c = λ p l.
    let front = c.args.front.now in
    let back = c.args.back.now in
    let v : View = c.join.new.self.view in
    let a : Draws front c.split-right.new.self.view c.left-3-1.given.0.view = search rules in
    let b : Draws back c.split-right.result.view c.right-2-1.given.0.view = search rules in
    let adds : Adds (front ++ back) v.entries =
    joined front back c.split-right.new.self.view c.left-3-1.given.0.view c.split-right.result.view c.right-2-1.given.0.view v
    (search rules) (search rules) a b c.join.ensures.view in
    let nodes : length front + length back ≤ c.in_ok-frame.frame.nodes = search rules in
    let none : lost v.entries ≡ 0 = c.close.ensures.kept (omega (arith, adds.count, length-append front back, nodes)) in
    let here : p < c.in_ok-frame.frame.pixels = search rules in
    IsPermutation-trans (list_at c.close.result p) (payloads_at p (pairs v.entries)) (payloads_at p (front ++ back))
    (c.close.ensures.lists p here) (payloads_permuted p (pairs v.entries) (front ++ back) (adds.carried none))
