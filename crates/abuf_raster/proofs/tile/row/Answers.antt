use Rattle.std.proofs.Common.{◌≡◌, ◌≤◌, ◌+◌, ◌*◌, ◌++◌, List, ℕ, true, length, take, arith, ap, ap₂, sym, ◌∙◌, append_assoc, append-nil, subst}
use Rattle.abuf_raster.specs.declared.region.Hit.{Hit}
use Rattle.abuf_raster.specs.Samples.{offsets_of, pixel_centre}
use Rattle.abuf_raster.specs.Coverage.{mask}
use Rattle.abuf_raster.specs.Values.{Numbers, values_at, plus_all, none_below, stays_below, AreAtMost, mask_of_values}
use Rattle.abuf_raster.specs.TrioNumbers.{numbers_of}
use Rattle.abuf_raster.specs.Walk.{row_hits, hit_of, found}
use Rattle.abuf_raster.proofs.Changes.{mask_values, mask_outside, row_outside, values_small, centre_near, room_right, step_right}
use Rattle.abuf_raster.proofs.Blocks.{row_ends, row_more}
use Rattle.abuf_raster.proofs.tile.row.Goals as goal
use Rattle.abuf_raster.proofs.tile.row.Goals.{then-is_tested, else-is_tested+else-stays_below}

pub loop-column-init : goal.loop-column-init
loop-column-init g c = record {
  at = c.requires.start ∙ ap (λ (x : ℕ). values_at c.args.t.now (pixel_centre x c.args.start.span.y)) (omega arith);
  room = omega arith;
  hits = sym (append-nil (take c.args.count c.args.hits.now));
}

pub highest-max-requires : goal.highest-max-requires
highest-max-requires g c = record {
  at = subst (AreAtMost (9 * (g.V.Width.reach * g.V.Width.reach))) (sym c.loop-column.invariant.at)
      (values_small g.V.Width.reach c.args.t.now (pixel_centre (c.args.start.span.x + c.loop-column.column) c.args.start.span.y) c.requires.wide c.requires.near (centre_near g.V.Width.reach (c.args.start.span.x + c.loop-column.column) c.args.start.span.y c.requires.wide (omega arith) (omega arith)));
  max = c.requires.samples.max_small;
}

pub pixel_mask-mask-requires-clause-room : goal.pixel_mask-mask-requires-clause-room
pixel_mask-mask-requires-clause-room g c =
    subst (AreAtMost (9 * (g.V.Width.reach * g.V.Width.reach))) (sym c.loop-column.invariant.at)
    (values_small g.V.Width.reach c.args.t.now (pixel_centre (c.args.start.span.x + c.loop-column.column) c.args.start.span.y) c.requires.wide c.requires.near (centre_near g.V.Width.reach (c.args.start.span.x + c.loop-column.column) c.args.start.span.y c.requires.wide (omega arith) (omega arith)))

pub plus-at-requires : goal.plus-at-requires
plus-at-requires g c = room_right g.V.Width.reach c.args.t.now c.args.start.span.x c.args.start.span.y c.loop-column.column _ _ c.loop-column.invariant.at c.changes-right.ensures c.requires.wide c.requires.near (omega arith) (omega arith)

pub loop-column-preserved : goal.loop-column-preserved
loop-column-preserved g c =
    let i = c.loop-column.invariant in
    let k : ℕ = c.loop-column.column in
    let y : ℕ = c.args.start.span.y in
    let x : ℕ = c.args.start.span.x + k in
    let t = c.args.t.now in
    let n : ℕ = c.args.primitive.number in
    let os = offsets_of c.args.primitive.pattern in
    let max : Numbers = numbers_of g.V.Width.number c.args.primitive.samples.max in
    let old = take c.args.count c.args.hits.now in
    let done = row_hits t n os c.args.start.span.x k y in
    let more : take c.if-is_tested.count c.if-is_tested.hits ≡ old ++ (done ++ found (hit_of n x y (mask t os x y))) = elim c.if-is_tested.branch [
      | then-is_tested w ↦
          let m : w.pixel_mask-mask.result ≡ mask t os x y =
          w.pixel_mask-mask.ensures ∙ (ap (λ (v : Numbers). mask_of_values t os v) i.at ∙ mask_values t os x y c.requires.positive (length os)) in
          ap₂ take w.count-is w.hits-is ∙ (w.put-count.ensures.hits
          ∙ (ap₂ (λ (xs ys : List Hit). xs ++ ys) i.hits (ap (λ (v : ℕ). found (hit_of n x y v)) m)
          ∙ append_assoc old done (found (hit_of n x y (mask t os x y)))))
      | else-is_tested+else-stays_below w ↦
          let none : mask t os x y ≡ 0 =
          sym (mask_values t os x y c.requires.positive (length os))
          ∙ mask_outside t os (values_at t (pixel_centre x y)) max c.requires.samples.high
          (ap (λ (v : Numbers). none_below (plus_all v max)) (sym i.at) ∙ (ap none_below (sym c.highest-max.ensures) ∙ c.is_tested.ensures w.if-is_tested.false)) in
          ap₂ take w.count-is w.hits-is ∙ (i.hits
          ∙ ap (λ (xs : List Hit). old ++ xs) (sym (ap (λ (v : ℕ). done ++ found (hit_of n x y v)) none ∙ append-nil done)))
    ] in
    let few : c.if-is_tested.count ≤ c.args.count + (k + 1) = elim c.if-is_tested.branch [
      | then-is_tested w ↦ omega (arith, i.room, w.put-count.ensures.room, w.count-is)
      | else-is_tested+else-stays_below w ↦ omega (arith, i.room, w.count-is)
    ] in
    record {
      at = c.plus-at.ensures ∙ step_right g.V.Width.reach t c.args.start.span.x y k _ _ i.at c.changes-right.ensures;
      room = few;
      hits = more ∙ ap (λ (xs : List Hit). old ++ xs) (sym (row_more t n os c.args.start.span.x k y));
    }

pub returns-then-stays_below-clause-hits : goal.returns-then-stays_below-clause-hits
returns-then-stays_below-clause-hits g c =
    let i = c.loop-column.invariant in
    let t = c.args.t.now in
    let span = c.args.start.span in
    let os = offsets_of c.args.primitive.pattern in
    let m : Numbers = numbers_of g.V.Width.number c.args.primitive.samples.max in
    let d : Numbers = numbers_of g.V.Width.number c.changes-right.result in
    let stays : stays_below (plus_all (values_at t (pixel_centre (span.x + c.loop-column.column) span.y)) m) d ≡ true =
    ap (λ (n : Numbers). stays_below (plus_all n m) d) (sym i.at) ∙ (ap (λ (n : Numbers). stays_below n d) (sym c.highest-max.ensures) ∙ (sym c.stays_below.ensures ∙ c.if-stays_below.true)) in
    i.hits
    ∙ ap (λ (hs : List Hit). take c.args.count c.args.hits.now ++ hs)
    (row_ends t c.args.primitive.number os span.y span.x span.w c.loop-column.column (omega arith)
    (λ p l h. row_outside t os span.x span.y c.loop-column.column m d c.changes-right.ensures c.requires.positive c.requires.samples.high stays p l))

pub returns-after-loop-column-clause-hits : goal.returns-after-loop-column-clause-hits
returns-after-loop-column-clause-hits g c =
    let all : c.loop-column.column ≡ c.args.start.span.w = omega arith in
    c.loop-column.invariant.hits
    ∙ ap (λ (w : ℕ). take c.args.count c.args.hits.now ++ row_hits c.args.t.now c.args.primitive.number (offsets_of c.args.primitive.pattern) c.args.start.span.x w c.args.start.span.y) all
