use Rattle.std.proofs.Common.{◌∙◌, ap}
use Rattle.abuf_frame.specs.Views.{endowment, loose}
use Rattle.abuf_frame.specs.declared.view.View.{View}
use Rattle.abuf_drawing_rows.proofs.draw.shared_diagonal_is_drawn_once.Goals as goal

pub close-closed-requires-clause-frame : goal.close-closed-requires-clause-frame
close-closed-requires-clause-frame g c = c.draw-2.ensures.frame ∙ (c.draw.ensures.frame ∙ c.in_ok-frame.ensures.2)

pub close-closed-requires-clause-whole : goal.close-closed-requires-clause-whole
close-closed-requires-clause-whole g c = c.draw-2.ensures.endowment ∙ (c.draw.ensures.endowment ∙ ap endowment c.in_ok-frame.ensures.3)

pub close-closed-requires-clause-settled : goal.close-closed-requires-clause-settled
close-closed-requires-clause-settled g c = c.draw-2.ensures.loose ∙ (c.draw.ensures.loose ∙ ap (λ (v : View). loose v.entries) c.in_ok-frame.ensures.3)
