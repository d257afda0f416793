use Rattle.std.proofs.Common.{refl, sym, ◌∙◌, ◌≡◌, ◌<◌, ◌++◌, ℕ, List, length, slice_index_or, take, drop, ap, arith}
use Rattle.std.proofs.Math.Seq.{take-append_seam}
use Rattle.abuf_picture.specs.Picture.{fragments}
use Rattle.abuf_watching.proofs.LastLooks.{looked_more, sight_here, sights_more}
use Rattle.abuf_watching.proofs.sighting.look_at_all.Goals as goal

pub loop-place-preserved : goal.loop-place-preserved
loop-place-preserved c =
    let i = c.loop-place.invariant in
    let v = c.args.pass.now.view in
    let w = c.loop-place.pass.view in
    let u = c.look_last.new.pass.view in
    let all = c.args.watch.now in
    let items = fragments all.primitives.triangles.now all.target.pattern all.target.region in
    let saw = c.look_last.ensures.saw in
    let place : ℕ = slice_index_or all.places.now c.loop-place.place-index 0 in
    let within : c.loop-place.place-index < length all.places.now = omega (arith, c.loop-place-test.true, c.loop-place.auto.place-index-end) in
    let room : length c.deref_mut.result.now ≡ length all.primitives.triangles.now = ap (λ (xs : List ℕ). length xs) c.deref_mut.ensures.value ∙ i.room in
    let lens : c.loop-place.out.len ≡ length c.look_last.new.out = sym (c.look_last.ensures.room ∙ c.deref_mut.ensures.len) in
    record {
      same = c.look_last.ensures.frame ∙ i.same;
      room = ap (λ (xs : List ℕ). length xs) (ap (λ (n : ℕ). take n (c.look_last.new.out ++ drop (length c.look_last.new.out) c.loop-place.out.items)) lens ∙ take-append_seam c.look_last.new.out _) ∙ (c.look_last.ensures.room ∙ room);
      looked = looked_more v w u saw.0 i.looked saw.1 c.look_last.ensures.seen;
      words = sights_more items v.entries all.places.now c.loop-place.place-index place c.loop-place.words c.push.new.self c.in_ok-seen.seen within refl c.in_ok-push.ensures.ok i.words
          (sight_here items v.entries w.entries place (length all.primitives.triangles.now) (length c.deref_mut.result.now) c.in_ok-seen.seen i.looked.saw.entries c.one_each_law.ensures room c.in_ok-seen.ensures.words);
    }
