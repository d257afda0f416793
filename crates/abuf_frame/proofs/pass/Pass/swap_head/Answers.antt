use Rattle.std.proofs.Common.{◌<◌, ◌≡◌, rules, ap, Some, ◌∙◌}
use Rattle.abuf_frame.specs.Views.{stage_of}
use Rattle.abuf_frame.specs.declared.view.Stage.TheVariants.{Filled}
use Rattle.abuf_frame.proofs.Moves.{swaps}
use Rattle.abuf_frame.proofs.Tied.{filled_is, sound_find, ties_swapped}
use Rattle.abuf_frame.proofs.pass.Pass.swap_head.Goals as goal

pub swap_at-requires-clause-sized : goal.swap_at-requires-clause-sized
swap_at-requires-clause-sized c = let find_view = ap (λ h. stage_of c.args.number h.view.entries) c.self.view_is in let has : stage_of c.args.number c.self.inside.seat.me.0.entries ≡ Some (Filled c.args.pixel (filled_is c.args.pixel _ c.requires.filled).0) = find_view ∙ (filled_is c.args.pixel _ c.requires.filled).1 in
    let i = sound_find _ _ _ _ (Filled c.args.pixel (filled_is c.args.pixel _ c.requires.filled).0) c.self.invariant.sound has in search rules

pub swap_at-requires-clause-step : goal.swap_at-requires-clause-step
swap_at-requires-clause-step c = let find_view = ap (λ h. stage_of c.args.number h.view.entries) c.self.view_is in let has : stage_of c.args.number c.self.inside.seat.me.0.entries ≡ Some (Filled c.args.pixel (filled_is c.args.pixel _ c.requires.filled).0) = find_view ∙ (filled_is c.args.pixel _ c.requires.filled).1 in
    let i = sound_find _ _ _ _ (Filled c.args.pixel (filled_is c.args.pixel _ c.requires.filled).0) c.self.invariant.sound has in
    let on : c.args.pixel < c.frame.inside.pixels = search rules in
    (search rules, search rules, rw c.frame.invariant.key_is (swaps record { pixels = c.frame.inside.pixels; nodes = c.frame.inside.nodes } _ _ c.args.number c.self.inside.seat.me c.self.invariant.bare c.args.pixel (filled_is c.args.pixel _ c.requires.filled).0 has on))

pub invariant_of-self : goal.invariant_of-self
invariant_of-self c = ties_swapped _ _ c.args.number c.self.inside.seat.me c.swap_at.new.seat.me _ _ _ c.self.invariant c.swap_at.result (search rules)
