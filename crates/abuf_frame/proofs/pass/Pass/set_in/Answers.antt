use Rattle.std.proofs.Common.{ap, ◌∙◌, sym, subst, refl}
use Rattle.abuf_frame.specs.Views.{stage_of}
use Rattle.abuf_frame.specs.Stages.{IsFilled, IsSwapped, filled, swapped}
use Rattle.abuf_frame.specs.declared.view.Stage.TheVariants.{Claimed, Filled}
use Rattle.abuf_frame.proofs.Inserts.{find_moved, set_in_is}
use Rattle.abuf_frame.proofs.pass.Pass.set_in.Goals as goal

pub swap_head-old-requires-clause-filled : goal.swap_head-old-requires-clause-filled
swap_head-old-requires-clause-filled c = let f = ap (λ v. stage_of c.args.number v.entries) c.fill.ensures.view ∙ find_moved c.args.number (filled c.args.pixel c.args.payload) c.args.self.now.view.entries Claimed c.requires.claimed in
    subst (IsFilled c.args.pixel) (sym f) refl

pub link-requires-clause-swapped : goal.link-requires-clause-swapped
link-requires-clause-swapped c = let f = ap (λ v. stage_of c.args.number v.entries) c.fill.ensures.view ∙ find_moved c.args.number (filled c.args.pixel c.args.payload) c.args.self.now.view.entries Claimed c.requires.claimed in
    let g = ap (λ v. stage_of c.args.number v.entries) c.swap_head-old.ensures.view ∙ find_moved c.args.number (swapped c.swap_head-old.result) c.fill.new.self.view.entries (Filled c.args.pixel c.args.payload) f in
    subst (IsSwapped c.swap_head-old.result) (sym g) refl

pub returns-clause-view : goal.returns-clause-view
returns-clause-view c = (c.swap_head-old.result, set_in_is _ _ _ _ _ _ _ _ c.fill.ensures.view c.swap_head-old.ensures.view c.link.ensures.view)
