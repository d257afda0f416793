use Rattle.std.proofs.Common.{◌≡◌, rules, ap, Some, ◌∙◌}
use Rattle.abuf_frame.specs.Views.{stage_of}
use Rattle.abuf_frame.specs.declared.view.Stage.TheVariants.{Swapped}
use Rattle.abuf_frame.proofs.Moves.{links}
use Rattle.abuf_frame.proofs.Tied.{swapped_is, sound_find, some_loose, ties_linked}
use Rattle.abuf_frame.proofs.pass.Pass.link.Goals as goal

pub link_at-requires-clause-sized : goal.link_at-requires-clause-sized
link_at-requires-clause-sized c = let find_view = ap (λ h. stage_of c.args.number h.view.entries) c.self.view_is in let has : stage_of c.args.number c.self.inside.seat.me.0.entries ≡ Some (Swapped (swapped_is c.args.old _ c.requires.swapped).0 (swapped_is c.args.old _ c.requires.swapped).1 c.args.old) = find_view ∙ (swapped_is c.args.old _ c.requires.swapped).2 in
    let i = sound_find _ _ _ _ (Swapped (swapped_is c.args.old _ c.requires.swapped).0 (swapped_is c.args.old _ c.requires.swapped).1 c.args.old) c.self.invariant.sound has in search rules

pub link_at-requires-clause-step : goal.link_at-requires-clause-step
link_at-requires-clause-step c = let find_view = ap (λ h. stage_of c.args.number h.view.entries) c.self.view_is in let has : stage_of c.args.number c.self.inside.seat.me.0.entries ≡ Some (Swapped (swapped_is c.args.old _ c.requires.swapped).0 (swapped_is c.args.old _ c.requires.swapped).1 c.args.old) = find_view ∙ (swapped_is c.args.old _ c.requires.swapped).2 in
    let i = sound_find _ _ _ _ (Swapped (swapped_is c.args.old _ c.requires.swapped).0 (swapped_is c.args.old _ c.requires.swapped).1 c.args.old) c.self.invariant.sound has in
    (search rules, search rules, rw c.frame.invariant.key_is (links record { pixels = c.frame.inside.pixels; nodes = c.frame.inside.nodes } _ _ c.args.number c.self.inside.seat.me c.self.invariant.bare (swapped_is c.args.old _ c.requires.swapped).0 (swapped_is c.args.old _ c.requires.swapped).1 c.args.old has))

pub overflow_sub-self : goal.overflow_sub-self
overflow_sub-self c = let find_view = ap (λ h. stage_of c.args.number h.view.entries) c.self.view_is in let has : stage_of c.args.number c.self.inside.seat.me.0.entries ≡ Some (Swapped (swapped_is c.args.old _ c.requires.swapped).0 (swapped_is c.args.old _ c.requires.swapped).1 c.args.old) = find_view ∙ (swapped_is c.args.old _ c.requires.swapped).2 in
    some_loose _ _ c.args.number c.self.inside.seat.me c.link_at.new.seat.me _ _ _ c.self.invariant _ _ _ has c.link_at.ensures.3

pub invariant_of-self : goal.invariant_of-self
invariant_of-self c = let find_view = ap (λ h. stage_of c.args.number h.view.entries) c.self.view_is in let has : stage_of c.args.number c.self.inside.seat.me.0.entries ≡ Some (Swapped (swapped_is c.args.old _ c.requires.swapped).0 (swapped_is c.args.old _ c.requires.swapped).1 c.args.old) = find_view ∙ (swapped_is c.args.old _ c.requires.swapped).2 in
    ties_linked _ _ c.args.number c.self.inside.seat.me c.link_at.new.seat.me _ _ _ c.self.invariant _ _ _ has c.link_at.ensures.3 (search rules)
