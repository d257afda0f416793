-- Rows of an image that follow each other.
use Rattle.std.proofs.Common.{◌≡◌, ℕ, ◌+◌, ◌<◌, List, ◌++◌, ap, ap₂, ◌∙◌, sym, subst, arith}
use Rattle.std.proofs.lemmas.List.Elements.{All-append}
use Rattle.abuf_num.specs.declared.plain.PixelSum.{PixelSum}
use Rattle.abuf_raster.specs.Samples.{offsets_of}
use Rattle.abuf_resolve.specs.Sums.{region_sums, IsSmall}
use Rattle.abuf_resolve.proofs.Stacked.{sums_stacked}
use Rattle.abuf_raster.specs.Region.{Region}
use Rattle.abuf_peel.specs.Members.{Keep}
use Rattle.abuf_peel.specs.Rows.{AreSums, HaveAllIn, rows_of}
use Rattle.abuf_peel.specs.declared.input.PeelInput.{PeelInput}

-- The sums of some rows, and of those after them.
pub sums_more : (input : PeelInput) (y a b z : ℕ) (xs ys : List PixelSum) → y + a ≡ z → AreSums input y a xs → AreSums input z b ys → AreSums input y (a + b) (xs ++ ys)
sums_more input y a b z xs ys e p q =
    let sums_of : ℕ → ℕ → List PixelSum = λ top count. region_sums (offsets_of input.pattern) input.background input.tris.now input.paints.now (rows_of input top count) in
    record {
      value = ap₂ ◌++◌ p.value q.value
          ∙ (ap (λ (k : ℕ). sums_of y a ++ sums_of k b) (sym e)
          ∙ sums_stacked 0 y input.width input.size.width_some (offsets_of input.pattern) input.background input.tris.now input.paints.now a b);
      small = All-append (IsSmall _) xs ys p.small q.small;
    }

-- The primitives that are kept for a row, of those that are kept for the rows around it.
pub row_members : (input : PeelInput) (y rows i : ℕ) (outer r : Region) (chunk among members : List ℕ) → outer ≡ rows_of input y rows → r ≡ rows_of input (y + i) 1 → among ≡ chunk → i < rows
    → HaveAllIn input outer chunk → Keep (offsets_of input.pattern) input.tris.now r among members → HaveAllIn input (rows_of input (y + i) 1) members
row_members input y rows i outer r chunk among members e f g l have k =
    let all : HaveAllIn input (rows_of input y rows) chunk = subst (λ (q : Region). HaveAllIn input q chunk) e have in
    let kept : Keep (offsets_of input.pattern) input.tris.now (rows_of input (y + i) 1) chunk members =
    subst (λ (ns : List ℕ). Keep (offsets_of input.pattern) input.tris.now (rows_of input (y + i) 1) ns members) g (subst (λ (q : Region). Keep (offsets_of input.pattern) input.tris.now q among members) f k) in
    record {
      known = kept.known;
      each = λ s is. kept.each s is ∙ all.each s (record { x_low = is.x_low; x_high = is.x_high; y_low = omega (arith, is.y_low); y_high = omega (arith, is.y_high); known = is.known });
    }
