use Rattle.std.proofs.Common.{ℕ, List, ap, ◌∙◌, slice_index}
use Rattle.std.specs.Mem.Slots.{slots_items}
use Rattle.abuf_frame.proofs.Closes.{got}
use Rattle.abuf_frame.proofs.frozen_words.FrozenWords.word.Goals as goal

pub returns : goal.returns
returns c = got (slots_items c.get.result.now.words) c.args.i c.word.result c.word.ensures
    ∙ (ap (λ t. slice_index (slots_items t.words) c.args.i) c.get.ensures ∙ ap (λ (ws : List ℕ). slice_index ws c.args.i) c.self.view_is)
