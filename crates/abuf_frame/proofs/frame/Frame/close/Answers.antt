use Rattle.std.proofs.Common.{rules, ℕ, ◌∙◌, ap, sym, subst, List, arith}
use Rattle.std.specs.Mem.Slots.{slots_items}
use Rattle.atomic_table.specs.Table.{Final, Seen}
use Rattle.abuf_frame.specs.declared.view.FrameSize.{FrameSize}
use Rattle.abuf_frame.specs.Lawful.{Lawful}
use Rattle.abuf_frame.specs.Pass.{AllInRange}
use Rattle.abuf_frame.specs.Views.{IsSettled, IsWhole}
use Rattle.abuf_frame.proofs.Closes.{Good, closes, lists_length}
use Rattle.abuf_frame.proofs.Ends.{list_pairs}
use Rattle.abuf_frame.proofs.frame.Frame.close.Goals as goal

-- what the words of the closed table are good for
good : (c : goal.After-new) → Good (record { pixels = c.self.inside.pixels; nodes = c.self.inside.nodes }) c.args.pass.view c.new.result
good c = let k : FrameSize = record { pixels = c.self.inside.pixels; nodes = c.self.inside.nodes } in let id = c.pass.inside.seat.id in let v = c.pass.inside.seat.me.0 in
    let whole : IsWhole v = search rules in let settled : IsSettled v = search rules in let sound : AllInRange c.self.inside.pixels c.self.inside.nodes v.entries = search rules in
    let table = c.close_with.result in let words : List ℕ = slots_items table.words in let slots : List (Unit {0}) = slots_items table.slots in
    let final = subst (λ (z : FrameSize). Final (Seen (Lawful z) id v) words slots) c.self.invariant.key_is c.close_with.ensures.values.2 in
    subst (λ h. Good k h.view c.new.result) c.pass.view_is (subst (Good k v) (sym c.new.ensures) (closes k id v whole settled c.self.invariant.sized sound words slots final))

pub invariant_of-result : goal.invariant_of-result
invariant_of-result c = ((good c).0, c.self.invariant.sized)

pub returns-clause-sizes : goal.returns-clause-sizes
returns-clause-sizes c = let n = ap (λ h. h.pixels) c.self.view_is in
    (search rules, search rules, lists_length c.new.result c.self.inside.pixels c.self.inside.nodes 0 c.self.inside.pixels ∙ n)

pub returns-clause-lists : goal.returns-clause-lists
returns-clause-lists c = let n = ap (λ h. h.pixels) c.self.view_is in λ p on. list_pairs p c.args.pass.view.entries _ c.requires.settled ((good c).3 p (omega arith))

pub returns-clause-kept : goal.returns-clause-kept
returns-clause-kept c = let n = ap (λ h. h.nodes) c.self.view_is in let l = (good c).1 in λ few. omega arith

pub returns-clause-lost : goal.returns-clause-lost
returns-clause-lost c = let n = ap (λ h. h.nodes) c.self.view_is in let l = (good c).1 in omega arith

pub returns-clause-walks : goal.returns-clause-walks
returns-clause-walks c = (good c).2

pub returns-clause-chains : goal.returns-clause-chains
returns-clause-chains c = let n = ap (λ h. h.pixels) c.self.view_is in λ p on. (good c).3 p (omega arith)

pub returns-clause-only : goal.returns-clause-only
returns-clause-only c = let n = ap (λ h. h.pixels) c.self.view_is in λ p on l is. (good c).4 p (omega arith) l is
