use Rattle.std.proofs.Common.{◌∙◌, ap, length, arith, refl}
use Rattle.std.proofs.lemmas.Int.{ints}
use Rattle.abuf_scene.proofs.Putting.{piece_fits}
use Rattle.abuf_scene.proofs.short_texts.drawn_text.Goals as goal

pub short_text_of-requires : goal.short_text_of-requires
short_text_of-requires c =
    piece_fits _ _ _ _ (c.as_slice.ensures.value ∙ c.in_ok-push_coordinate.ensures.text) (ap length c.new-text.ensures.items) refl (c.push_coordinate.ensures.short (omega (arith, ints)))
