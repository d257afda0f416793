use Rattle.std.proofs.Common.{◌<◌, ◌≡◌, rules, ap, Some}
use Rattle.abuf_frame.specs.Views.{stage_of}
use Rattle.abuf_frame.specs.declared.view.Stage.TheVariants.{Claimed}
use Rattle.abuf_frame.proofs.Moves.{fills}
use Rattle.abuf_frame.proofs.Tied.{sound_find, ties_filled}
use Rattle.abuf_frame.proofs.pass.Pass.fill.Goals as goal

pub fill_at-requires-clause-sized : goal.fill_at-requires-clause-sized
fill_at-requires-clause-sized c = let h = ap (λ h. h.view.entries) c.self.view_is in let has : stage_of c.args.number c.self.inside.seat.me.0.entries ≡ Some Claimed = search rules in
    let i : c.args.number < c.self.inside.nodes = sound_find _ _ _ _ Claimed c.self.invariant.sound has in
    let e = ap (λ h. h.frame.nodes) c.self.view_is in let f = ap (λ h. h.nodes) c.frame.view_is in search rules

pub fill_at-requires-clause-step : goal.fill_at-requires-clause-step
fill_at-requires-clause-step c = let has : stage_of c.args.number c.self.inside.seat.me.0.entries ≡ Some Claimed = search rules in
    let i : c.args.number < c.self.inside.nodes = sound_find _ _ _ _ Claimed c.self.invariant.sound has in
    let on : c.args.pixel < c.frame.inside.pixels = search rules in
    (search rules, search rules, rw c.frame.invariant.key_is (fills record { pixels = c.frame.inside.pixels; nodes = c.frame.inside.nodes } _ _ c.args.number c.self.inside.seat.me c.self.invariant.bare c.args.pixel c.args.payload has on))

pub invariant_of-self : goal.invariant_of-self
invariant_of-self c = ties_filled _ _ c.args.number c.self.inside.seat.me c.fill_at.new.seat.me _ _ _ c.self.invariant c.args.pixel c.args.payload (search rules) (search rules)
