use Rattle.std.proofs.Common.{◌≡◌, ◌∙◌, ◌+◌, ◌%◌, ◌/◌, ◌<◌, ◌≤◌, ◌⊎◌, inl, inr, ℕ, ℤ, List, [], true, subst, ap₂, slice_index_or, arith, rules}
use Rattle.std.specs.List.{All}
use Rattle.std.proofs.lemmas.Bool.{cases_lt}
use Rattle.abuf_raster.specs.Region.{Region}
use Rattle.abuf_raster.specs.Triangle.{Triangle}
use Rattle.abuf_raster.specs.Samples.{offsets_of}
use Rattle.abuf_resolve.specs.Words.{IsFragmentAt}
use Rattle.abuf_drawing_rows.proofs.resolving.holds_fragments.Goals as goal

-- The words are those of fragments in the pixel at this place.
abbrev AreAt : List (ℤ × ℤ) → List Triangle → Region → ℕ → List ℕ → Type 0
AreAt os tris r p = All (IsFragmentAt os tris (r.x0 + p % r.w) (r.y0 + p / r.w))

pub loop-place-preserved : goal.loop-place-preserved
loop-place-preserved c =
    λ p l. go p l (cases_lt p c.loop-place.place) where
      is : c.are_fragments.result ≡ true
      is = search (rules, c.if-not-are_fragments.false)

      list : c.as_slice.result.now ≡ slice_index_or c.args.closed.now.lists c.loop-place.place []
      list = c.as_slice.ensures ∙ c.in_ok-list.ensures

      column : c.x0.result + c.loop-place.place % c.w.result ≡ c.args.region.x0 + c.loop-place.place % c.args.region.w
      column = ap₂ (λ (a b : ℕ). a + c.loop-place.place % b) c.x0.ensures.value c.w.ensures.value

      row : c.y0.result + c.loop-place.place / c.w-in-loop-place.result ≡ c.args.region.y0 + c.loop-place.place / c.args.region.w
      row = ap₂ (λ (a b : ℕ). a + c.loop-place.place / b) c.y0.ensures.value c.w-in-loop-place.ensures.value

      here : AreAt (offsets_of c.args.pattern) c.args.tris.now c.args.region c.loop-place.place (slice_index_or c.args.closed.now.lists c.loop-place.place [])
      here = subst (AreAt (offsets_of c.args.pattern) c.args.tris.now c.args.region c.loop-place.place) list
          (subst (λ (x : ℕ). All (IsFragmentAt (offsets_of c.args.pattern) c.args.tris.now x (c.args.region.y0 + c.loop-place.place / c.args.region.w)) c.as_slice.result.now) column
          (subst (λ (y : ℕ). All (IsFragmentAt (offsets_of c.args.pattern) c.args.tris.now (c.x0.result + c.loop-place.place % c.w.result) y) c.as_slice.result.now) row (c.are_fragments.ensures is)))

      go : (p : ℕ) → p < c.loop-place.place + 1 → (p < c.loop-place.place) ⊎ (c.loop-place.place ≤ p)
          → AreAt (offsets_of c.args.pattern) c.args.tris.now c.args.region p (slice_index_or c.args.closed.now.lists p [])
      go p l (inl m) = c.loop-place.invariant p m
      go p l (inr m) =
          let e : c.loop-place.place ≡ p = omega arith in
          subst (λ (q : ℕ). AreAt (offsets_of c.args.pattern) c.args.tris.now c.args.region q (slice_index_or c.args.closed.now.lists q [])) e here
