use Rattle.std.proofs.Common.{rules, ◌≤◌, ◌≡◌, ◌+◌, ◌*◌, ℕ, arith, ap, sym, ◌∙◌, subst, length}
use Rattle.abuf_raster.specs.Samples.{pixel_centre}
use Rattle.abuf_raster.specs.Values.{Numbers, values_at, plus_all, none_below, AreAtMost}
use Rattle.abuf_raster.specs.TrioNumbers.{numbers_of}
use Rattle.abuf_raster.specs.Walk.{row_hits}
use Rattle.abuf_raster.proofs.Rooms.{more_fits}
use Rattle.abuf_raster.proofs.Changes.{mask_values, mask_outside, values_small, centre_near, room_right, step_right}
use Rattle.abuf_raster.proofs.Counts.{row_count}
use Rattle.abuf_raster.proofs.hit_counts.max_in_row.Goals as goal

pub loop-column-init : goal.loop-column-init
loop-column-init g c = record {
  at = c.requires.start ∙ ap (λ (x : ℕ). values_at c.args.t.now (pixel_centre x c.args.span.y)) (omega arith);
  few = omega arith;
  bound = λ o n is. omega arith;
}

pub plus-requires : goal.plus-requires
plus-requires g c =
    let r = g.V.Width.reach in
    let x : ℕ = c.args.span.x + c.loop-column._column in
    let small : AreAtMost (9 * (r * r)) (numbers_of g.V.Width.number c.loop-column.at) =
    subst (AreAtMost (9 * (r * r))) (sym c.loop-column.invariant.at) (values_small r c.args.t.now (pixel_centre x c.args.span.y) c.requires.wide c.requires.near (centre_near r x c.args.span.y c.requires.wide (omega arith) (omega arith))) in
    more_fits r (numbers_of g.V.Width.number c.loop-column.at) (numbers_of g.V.Width.number c.args.setup.now.samples.max) small c.requires.room

pub plus-at-requires : goal.plus-at-requires
plus-at-requires g c = room_right g.V.Width.reach c.args.t.now c.args.span.x c.args.span.y c.loop-column._column _ _ c.loop-column.invariant.at c.changes-right.ensures c.requires.wide c.requires.near (omega arith) (omega arith)

pub loop-column-preserved : goal.loop-column-preserved
loop-column-preserved g c =
    let i = c.loop-column.invariant in
    let k : ℕ = c.loop-column._column in
    let x : ℕ = c.args.span.x + k in
    let y : ℕ = c.args.span.y in
    let t = c.args.t.now in
    let m : Numbers = numbers_of g.V.Width.number c.args.setup.now.samples.max in
    let tested : c.none_below.result ≡ none_below (plus_all (values_at t (pixel_centre x y)) m) = c.none_below.ensures ∙ (ap none_below c.plus.ensures ∙ ap (λ (n : Numbers). none_below (plus_all n m)) i.at) in
    record {
      at = c.plus-at.ensures ∙ step_right g.V.Width.reach t c.args.span.x y k _ _ i.at c.changes-right.ensures;
      few = search rules;
      bound = λ o n is. row_count t n o c.args.span.x k y c.loop-column.most _ c.none_below.result (i.bound o n is) (λ h. rw h (omega arith))
          (λ h. sym (mask_values t o x y c.requires.positive (length o)) ∙ mask_outside t o (values_at t (pixel_centre x y)) m is.samples.high (sym tested ∙ h));
    }

pub returns-clause-bound : goal.returns-clause-bound
returns-clause-bound g c = λ o n is.
    let all : c.loop-column._column ≡ c.args.span.w = omega arith in
    subst (λ (w : ℕ). length (row_hits c.args.t.now n o c.args.span.x w c.args.span.y) ≤ c.loop-column.most) all (c.loop-column.invariant.bound o n is)
