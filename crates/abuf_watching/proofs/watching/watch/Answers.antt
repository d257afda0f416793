use Rattle.std.proofs.Common.{◌≡◌, ◌∙◌, ◌-◌, ◌*◌, ◌<◌, ◌≤◌, ℕ, length, Ok, IfOk, OnOk, ap, sym, subst}
use Rattle.std.specs.List.{AllZip}
use Rattle.abuf_frame.specs.declared.view.View.{View}
use Rattle.abuf_frame.specs.Pass.{PassState}
use Rattle.abuf_fan.specs.Grows.{Grows}
use Rattle.abuf_picture.specs.Picture.{fragments}
use Rattle.abuf_watching.specs.declared.looking.TheConstants.{ROOM}
use Rattle.abuf_watching.specs.Watching.{HasLooked, IsSight}
use Rattle.abuf_watching.proofs.Gathered.{watched}
use Rattle.abuf_watching.proofs.watching.watch.Goals as goal
use Rattle.abuf_watching.proofs.watching.watch.Goals.{in-Ok, in-Err}

pub returns : goal.returns
returns g c =
    let all = c.args.watch.now in
    let ts = all.primitives.triangles.now in
    let r = all.target.region in
    let items = fragments ts all.target.pattern r in
    let u : View = c.join.new.self.view in
    let z : View = c.match-drawn.pass.view in
    let d = c.draw_and_look-drawn in
    let closed = c.close-closed in
    let pixels : c.in_ok-frame.frame.pixels ≡ r.w * r.h = c.in_ok-frame.ensures.0 ∙ c.pixels.ensures.value in
    elim c.match-drawn.branch [
      | in-Ok w ↦
          let is = sym w.words-is ∙ c.in_ok-words.was in
          let sights : AllZip (IsSight items u.entries) all.places.now c.in_ok-words.field-0 = subst (λ x. IfOk x (AllZip (IsSight items u.entries) all.places.now)) is w.look_at_all-words.ensures.words in
          let looked : HasLooked u z = subst (λ (p : PassState). HasLooked u p.view) (sym w.pass-is) w.look_at_all-words.ensures.looked in
          let grows : Grows items c.split-watcher.new.self.view d.new.pass.view = subst (λ x. OnOk x (Grows items c.split-watcher.new.self.view d.new.pass.view)) w.in-Ok.is d.ensures.drawn in
          watched ROOM ts all.target.pattern r all.target.nodes all.places.now d.result.0 c.in_ok-words.field-0 closed.result
          c.in_ok-frame.pass.view c.split-watcher.new.self.view d.new.pass.view c.split-watcher.result.view d.new.watcher.view u z
          c.in_ok-frame.ensures.3 c.split-watcher.ensures.left.1 c.split-watcher.ensures.right.1 grows d.ensures.looks c.join.ensures.view looked sights
          (closed.ensures.sizes.0 ∙ pixels) (closed.ensures.sizes.1 ∙ c.in_ok-frame.ensures.1) (closed.ensures.sizes.2 ∙ pixels) closed.ensures.fragments
          (λ p within. closed.ensures.lists p (subst (λ (n : ℕ). p < n) (sym pixels) within))
          (λ few. closed.ensures.kept (subst (λ (n : ℕ). length z.entries ≤ n) (sym c.in_ok-frame.ensures.1) few))
          (closed.ensures.lost ∙ ap (λ (n : ℕ). length z.entries - n) c.in_ok-frame.ensures.1)
          closed.ensures.walks
      | in-Err w ↦ absurd (subst (λ x. OnOk x ⊥) (sym w.words-is ∙ c.in_ok-words.was) tt)
    ]
