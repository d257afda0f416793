-- The primitives that are offered to a region.
use Rattle.std.proofs.Common.{◌≡◌, ℕ, ◌*◌, ◌/◌, ◌%◌, ◌<◌, ◌≤◌, Bool, false, List, [], ◌∷◌, ◌++◌, length, ℤ, ap, ◌∙◌, sym, subst, arith, if◌then◌else◌}
use Rattle.std.proofs.lemmas.List.{append-nil}
use Rattle.std.proofs.lemmas.List.Elements.{filter-append, All-push}
use Rattle.std.proofs.lemmas.List.Sums.{length-filter, count_by-le-length}
use Rattle.std.proofs.lemmas.Nat.{div_below, mod_below}
use Rattle.abuf_raster.specs.declared.pattern.Pattern.{Pattern}
use Rattle.abuf_raster.specs.Triangle.{Triangle}
use Rattle.abuf_raster.specs.Coverage.{covers}
use Rattle.abuf_raster.specs.Region.{Region, IsRegion}
use Rattle.abuf_raster.specs.Samples.{offsets_of}
use Rattle.abuf_resolve.specs.Colour.{triangle_at, covering}
use Rattle.abuf_peel.specs.Layers.{count_of, sample_at, size_of}
use Rattle.abuf_peel.specs.Members.{HaveAll, IsSampleIn, Keep, KeepsOne}
use Rattle.abuf_peel.specs.Next.{Sample, covering_among}

-- The samples of a region lie in it.
pub sample_in : (r : Region) (pattern : Pattern) (j : ℕ) → IsRegion r → 0 < size_of pattern → j < count_of r pattern → IsSampleIn r (offsets_of pattern) (sample_at r (size_of pattern) j)
sample_in r pattern j is some l =
    let w : 0 < r.w = omega (arith, is.w_some) in
    let pixel : j / size_of pattern < r.w * r.h = div_below j (size_of pattern) (r.w * r.h) some l in
    let row : j / size_of pattern / r.w < r.h = div_below (j / size_of pattern) r.w r.h w (omega arith) in
    let column : j / size_of pattern % r.w < r.w = mod_below (j / size_of pattern) r.w w in
    record { x_low = omega arith; x_high = omega arith; y_low = omega arith; y_high = omega arith; known = mod_below j (size_of pattern) some }

-- No more primitives cover a sample than there are members.
pub covering_few : (os : List (ℤ × ℤ)) (tris : List Triangle) (r : Region) (members : List ℕ) (s : Sample) → HaveAll os tris r members → IsSampleIn r os s → length (covering os tris s.x s.y s.k) ≤ length members
covering_few os tris r members s have is =
    let few : length (covering_among os tris s members) ≤ length members = omega (arith, length-filter (λ n. covers (triangle_at tris n) os s.x s.y s.k) members, count_by-le-length (λ n. covers (triangle_at tris n) os s.x s.y s.k) members) in
    omega (arith, ap (λ (ns : List ℕ). length ns) (have.each s is))

-- A number whose primitive covers no sample of the region may be left out.
pub keeps_none : (os : List (ℤ × ℤ)) (tris : List Triangle) (r : Region) (n : ℕ) (t : Triangle) (old : List ℕ) → t ≡ triangle_at tris n → ((s : Sample) → IsSampleIn r os s → covers t os s.x s.y s.k ≡ false) → KeepsOne os tris r n old old
keeps_none os tris r n t old e none among k = record {
  known = k.known;
  each = λ s is.
      let off : covers (triangle_at tris n) os s.x s.y s.k ≡ false = ap (λ (u : Triangle). covers u os s.x s.y s.k) (sym e) ∙ none s is in
      k.each s is
      ∙ sym (filter-append (λ m. covers (triangle_at tris m) os s.x s.y s.k) among (n ∷ [])
      ∙ (ap (λ (v : Bool). covering_among os tris s among ++ (if v then n ∷ [] else [])) off ∙ append-nil (covering_among os tris s among)));
}

-- Or else it is put last.
pub keeps_one : (os : List (ℤ × ℤ)) (tris : List Triangle) (r : Region) (n : ℕ) (old new : List ℕ) → n < length tris → new ≡ old ++ n ∷ [] → KeepsOne os tris r n old new
keeps_one os tris r n old new l e among k =
    let p : (s : Sample) (m : ℕ) → Bool = λ s m. covers (triangle_at tris m) os s.x s.y s.k in
    subst (Keep os tris r (among ++ n ∷ [])) (sym e) (record {
      known = All-push (λ m. m < length tris) old n k.known l;
      each = λ s is. filter-append (p s) old (n ∷ []) ∙ (ap (λ (ns : List ℕ). ns ++ covering_among os tris s (n ∷ [])) (k.each s is) ∙ sym (filter-append (p s) among (n ∷ [])));
    })
