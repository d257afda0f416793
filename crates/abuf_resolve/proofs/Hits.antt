-- The words of all hits at one place of a region: one for each primitive whose mask there is not 0.
use Rattle.std.proofs.Common.{◌≡◌, ℕ, zero, suc, ◌+◌, ◌-◌, ◌*◌, ◌/◌, ◌%◌, ◌<◌, ◌≤◌, ◌⊎◌, inl, inr, Bool, true, false, not, if◌then◌else◌, All, List, [], ◌∷◌, ◌++◌, map, length, ℤ, refl, ap, ap₂, ◌∙◌, sym, arith, Some, None, ◌==◌}
use Rattle.std.specs.List.{filter, filter_map, cons_option, flat_map, range_with_len}
use Rattle.std.proofs.lemmas.Bool.{eq-eqb, ne_eqb, cases_eq}
use Rattle.std.proofs.lemmas.Nat.{div-add-mod'}
use Rattle.std.proofs.lemmas.List.Elements.{All-cons, All-nil, filter-append}
use Rattle.std.proofs.lemmas.List.{map-append, append-nil}
use Rattle.abuf_raster.specs.declared.region.Hit.{Hit}
use Rattle.abuf_raster.specs.Triangle.{Triangle}
use Rattle.abuf_raster.specs.Hits.{hit_at, hits, placed, fragments, all_fragments}
use Rattle.abuf_raster.specs.Coverage.{mask}
use Rattle.abuf_raster.specs.Packing.{packed}
use Rattle.abuf_raster.specs.Region.{Region, IsRegion}
use Rattle.abuf_resolve.specs.Colour.{triangle_at, numbers}
use Rattle.abuf_frame.specs.Draws.{payloads_at}

-- the word of primitive n at pixel (x, y)
abbrev pub word_of : Triangle → List (ℤ × ℤ) → ℕ → ℕ → ℕ → ℕ
word_of t os x y n = packed (record { prim = n; mask = mask t os x y })

-- its word, where its mask is not 0
abbrev pub word_if : Triangle → List (ℤ × ℤ) → ℕ → ℕ → ℕ → List ℕ
word_if t os x y n = if not (mask t os x y == 0) then word_of t os x y n ∷ [] else []

-- The fragments of triangles numbered from n on, as a list over their numbers.
from_number : (os : List (ℤ × ℤ)) (tris : List Triangle) (r : Region) (ts : List Triangle) (n : ℕ) → ((k : ℕ) → k < length ts → triangle_at tris (n + k) ≡ triangle_at ts k)
    → all_fragments ts n os r ≡ flat_map (λ m. fragments (triangle_at tris m) m os r) (range_with_len n (length ts))
from_number os tris r [] n h = refl
from_number os tris r (t ∷ ts) n h =
    let here : n ≡ n + 0 = omega arith in
    ap₂ ◌++◌ (ap (λ (u : Triangle). fragments u n os r) (sym (ap (triangle_at tris) here ∙ h 0 (omega arith))))
    (from_number os tris r ts (n + 1) (λ k l. let e : n + 1 + k ≡ n + suc k = omega arith in ap (triangle_at tris) e ∙ h (suc k) (omega arith)))

-- All fragments are those of all primitives, by their numbers.
pub all_fragments_are : (os : List (ℤ × ℤ)) (tris : List Triangle) (r : Region) → all_fragments tris 0 os r ≡ flat_map (λ n. fragments (triangle_at tris n) n os r) (numbers tris)
all_fragments_are os tris r = from_number os tris r tris 0 (λ k l. let e : 0 + k ≡ k = omega arith in ap (triangle_at tris) e)

-- What holds of a triangle's fragment in each pixel holds of its hits.
pub hits_all : (t : Triangle) (n : ℕ) (os : List (ℤ × ℤ)) (r : Region) (P : Hit → Type 0)
    → ((q : ℕ) → P (record { x = r.x0 + q % r.w; y = r.y0 + q / r.w; fragment = record { prim = n; mask = mask t os (r.x0 + q % r.w) (r.y0 + q / r.w) } }))
    → (qs : List ℕ) → All P (filter_map (hit_at t n os r) qs)
hits_all t n os r P h [] = All-nil P
hits_all t n os r P h (q ∷ qs) =
    elim (mask t os (r.x0 + q % r.w) (r.y0 + q / r.w) == 0) as (λ (v : Bool).
    All P (cons_option (if v then None else Some (record { x = r.x0 + q % r.w; y = r.y0 + q / r.w; fragment = record { prim = n; mask = mask t os (r.x0 + q % r.w) (r.y0 + q / r.w) } })) (filter_map (hit_at t n os r) qs)))
    [ true ↦ hits_all t n os r P h qs | false ↦ All-cons P _ (filter_map (hit_at t n os r) qs) (h q) (hits_all t n os r P h qs) ]

-- The payloads at a place of two lists of entries, one after the other.
pub payloads_at-append : (xs ys : List (ℕ × ℕ)) (p : ℕ) → payloads_at p (xs ++ ys) ≡ payloads_at p xs ++ payloads_at p ys
payloads_at-append xs ys p =
    ap (map (λ (e : ℕ × ℕ). e.1)) (filter-append (λ (e : ℕ × ℕ). e.0 == p) xs ys)
    ∙ map-append (λ (e : ℕ × ℕ). e.1) (filter (λ (e : ℕ × ℕ). e.0 == p) xs) (filter (λ (e : ℕ × ℕ). e.0 == p) ys)

-- The payloads at a place of one more entry.
payloads_at-cons : (e : ℕ × ℕ) (es : List (ℕ × ℕ)) (p : ℕ) → payloads_at p (e ∷ es) ≡ (if e.0 == p then e.1 ∷ [] else []) ++ payloads_at p es
payloads_at-cons e es p =
    elim (e.0 == p) as (λ (v : Bool). map (λ (d : ℕ × ℕ). d.1) (if v then (e ∷ filter (λ (d : ℕ × ℕ). d.0 == p) es) else (filter (λ (d : ℕ × ℕ). d.0 == p) es)) ≡ (if v then e.1 ∷ [] else []) ++ payloads_at p es)
    [ true ↦ refl | false ↦ refl ]

module _ (t : Triangle) (n : ℕ) (os : List (ℤ × ℤ)) (r : Region) (is : IsRegion r) (p : ℕ) where
  -- the hit at place q of the region lies at p exactly where q is p
  step : (q : ℕ) (rest : List Hit) → payloads_at p (map (placed r) (cons_option (hit_at t n os r q) rest))
      ≡ (if q == p then word_if t os (r.x0 + q % r.w) (r.y0 + q / r.w) n else []) ++ payloads_at p (map (placed r) rest)
  step q rest =
      let e : ((r.y0 + q / r.w) - r.y0) * r.w + ((r.x0 + q % r.w) - r.x0) ≡ q = ap₂ (λ (a b : ℕ). a * r.w + b) (omega arith) (omega arith) ∙ div-add-mod' q r.w in
      elim (mask t os (r.x0 + q % r.w) (r.y0 + q / r.w) == 0) as (λ (v : Bool).
      payloads_at p (map (placed r) (cons_option (if v then None else Some (record { x = r.x0 + q % r.w; y = r.y0 + q / r.w; fragment = record { prim = n; mask = mask t os (r.x0 + q % r.w) (r.y0 + q / r.w) } })) rest))
      ≡ (if q == p then if not v then word_of t os (r.x0 + q % r.w) (r.y0 + q / r.w) n ∷ [] else [] else []) ++ payloads_at p (map (placed r) rest)) [
        | true ↦ elim (q == p) as (λ (v : Bool). payloads_at p (map (placed r) rest) ≡ (if v then [] else []) ++ payloads_at p (map (placed r) rest)) [ true ↦ refl | false ↦ refl ]
        | false ↦ payloads_at-cons (((r.y0 + q / r.w) - r.y0) * r.w + ((r.x0 + q % r.w) - r.x0), word_of t os (r.x0 + q % r.w) (r.y0 + q / r.w) n) (map (placed r) rest) p
            ∙ ap (λ (v : ℕ). (if v == p then word_of t os (r.x0 + q % r.w) (r.y0 + q / r.w) n ∷ [] else []) ++ payloads_at p (map (placed r) rest)) e
      ]

  -- no place of the range is p
  other : (count a : ℕ) → (p < a) ⊎ (a + count ≤ p) → payloads_at p (map (placed r) (filter_map (hit_at t n os r) (range_with_len a count))) ≡ []
  other zero a h = refl
  other (suc count) a (inl h) = step a (filter_map (hit_at t n os r) (range_with_len (a + 1) count)) ∙ rw (ne_eqb a p (λ e. omega arith)) (other count (a + 1) (inl (omega arith)))
  other (suc count) a (inr h) = step a (filter_map (hit_at t n os r) (range_with_len (a + 1) count)) ∙ rw (ne_eqb a p (λ e. omega arith)) (other count (a + 1) (inr (omega arith)))

  -- A range that has the place gives the primitive's word there, or nothing.
  within : (count a : ℕ) → a ≤ p → p < a + count → payloads_at p (map (placed r) (filter_map (hit_at t n os r) (range_with_len a count))) ≡ word_if t os (r.x0 + p % r.w) (r.y0 + p / r.w) n
  within zero a l h = absurd (omega arith)
  within (suc count) a l h = go (λ m. within count (a + 1) m (omega arith)) (cases_eq a p) where
    go : (a + 1 ≤ p → payloads_at p (map (placed r) (filter_map (hit_at t n os r) (range_with_len (a + 1) count))) ≡ word_if t os (r.x0 + p % r.w) (r.y0 + p / r.w) n)
        → (a ≡ p) ⊎ (a ≡ p → ⊥)
        → payloads_at p (map (placed r) (cons_option (hit_at t n os r a) (filter_map (hit_at t n os r) (range_with_len (a + 1) count)))) ≡ word_if t os (r.x0 + p % r.w) (r.y0 + p / r.w) n
    go later (inl e) =
        let first : (if a == p then word_if t os (r.x0 + a % r.w) (r.y0 + a / r.w) n else []) ≡ word_if t os (r.x0 + p % r.w) (r.y0 + p / r.w) n = rw (eq-eqb a p e) (ap (λ (q : ℕ). word_if t os (r.x0 + q % r.w) (r.y0 + q / r.w) n) e) in
        step a (filter_map (hit_at t n os r) (range_with_len (a + 1) count)) ∙ (ap₂ ◌++◌ first (other count (a + 1) (inl (omega arith))) ∙ append-nil (word_if t os (r.x0 + p % r.w) (r.y0 + p / r.w) n))
    go later (inr f) = step a (filter_map (hit_at t n os r) (range_with_len (a + 1) count)) ∙ rw (ne_eqb a p f) (later (omega arith))

  -- So do the hits of the primitive.
  pub hits_of_one : p < r.w * r.h → payloads_at p (map (placed r) (hits t n os r)) ≡ word_if t os (r.x0 + p % r.w) (r.y0 + p / r.w) n
  hits_of_one h = within (r.w * r.h) 0 (omega arith) (omega arith)

-- The words of the fragments of several primitives at a place,
words_of : (os : List (ℤ × ℤ)) (tris : List Triangle) (r : Region) (is : IsRegion r) (p : ℕ) → p < r.w * r.h → (ns : List ℕ)
    → payloads_at p (flat_map (λ n. fragments (triangle_at tris n) n os r) ns) ≡ flat_map (λ n. word_if (triangle_at tris n) os (r.x0 + p % r.w) (r.y0 + p / r.w) n) ns
words_of os tris r is p h [] = refl
words_of os tris r is p h (n ∷ ns) =
    payloads_at-append (fragments (triangle_at tris n) n os r) (flat_map (λ m. fragments (triangle_at tris m) m os r) ns) p
    ∙ ap₂ ◌++◌ (hits_of_one (triangle_at tris n) n os r is p h) (words_of os tris r is p h ns)

-- and of all.
pub words_are : (os : List (ℤ × ℤ)) (tris : List Triangle) (r : Region) → IsRegion r → (p : ℕ) → p < r.w * r.h
    → payloads_at p (all_fragments tris 0 os r) ≡ flat_map (λ n. word_if (triangle_at tris n) os (r.x0 + p % r.w) (r.y0 + p / r.w) n) (numbers tris)
words_are os tris r is p h = ap (payloads_at p) (all_fragments_are os tris r) ∙ words_of os tris r is p h (numbers tris)

-- Words that some of several numbers have are the words of these.
pub chosen : (p : ℕ → Bool) (w : ℕ → ℕ) (ns : List ℕ) → flat_map (λ n. if p n then w n ∷ [] else []) ns ≡ map w (filter p ns)
chosen p w [] = refl
chosen p w (n ∷ ns) =
    ap (λ (ws : List ℕ). (if p n then w n ∷ [] else []) ++ ws) (chosen p w ns)
    ∙ elim (p n) as (λ (v : Bool). (if v then w n ∷ [] else []) ++ map w (filter p ns) ≡ map w (if v then n ∷ filter p ns else filter p ns)) [ true ↦ refl | false ↦ refl ]
