use Rattle.std.proofs.Common.{◌∙◌, []}
use Rattle.std.proofs.lemmas.List.Elements.{All-drop}
use Rattle.abuf_num.specs.declared.plain.PixelSum.{PixelSum}
use Rattle.abuf_pam.specs.Image.{pixel}
use Rattle.abuf_pam.specs.Sums.{HasSums}
use Rattle.abuf_pam.proofs.Fours.{with_four}
use Rattle.abuf_pam.proofs.pixels.push_all_narrow.Goals as goal

pub loop-left-preserved : goal.loop-left-preserved
loop-left-preserved c =
    let other : PixelSum = record { channels = [] } in
    let put = with_four (pixel 255 c.args.samples) other c.loop-left.out.items c.loop-left.left.now c.loop-left-test.true in (
      rw (c.in_ok-push_four.ensures, c.split_at.ensures.front, c.split_at.ensures.back) (put ∙ c.loop-left.invariant.0),
      rw c.split_at.ensures.back (All-drop (HasSums c.args.samples) 4 c.loop-left.left.now c.loop-left.invariant.1),
    )
