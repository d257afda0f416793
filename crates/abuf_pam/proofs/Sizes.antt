-- How many bytes an image has.
use Rattle.std.proofs.Common.{◌≡◌, ℕ, ◌+◌, ◌*◌, ◌/◌, ◌%◌, ◌++◌, Bool, true, false, if◌then◌else◌, eqb, List, [], ◌∷◌, length, flat_map, slice_index_or, length-append, refl, ap, ◌∙◌, arith}
use Rattle.abuf_num.specs.declared.plain.PixelSum.{PixelSum}
use Rattle.abuf_pam.specs.Image.{narrow, wide, pixel, pixel_size, header, image}

pixel_length : (maxval samples : ℕ) (p : PixelSum) → length (pixel maxval samples p) ≡ pixel_size maxval
pixel_length maxval samples p = go (eqb maxval 255) where
  value : Bool → ℕ → List ℕ
  value b sum = if b then narrow samples sum ∷ [] else (wide samples sum / 256 ∷ wide samples sum % 256 ∷ [])

  go : (b : Bool) → length (value b (slice_index_or p.channels 0 0) ++ value b (slice_index_or p.channels 1 0) ++ value b (slice_index_or p.channels 2 0)) ≡ (if b then 3 else 6)
  go true = refl
  go false = refl

pixels_length : (maxval samples : ℕ) (sums : List PixelSum) → length (flat_map (pixel maxval samples) sums) ≡ pixel_size maxval * length sums
pixels_length maxval samples [] = omega arith
pixels_length maxval samples (p ∷ sums) =
    length-append (pixel maxval samples p) (flat_map (pixel maxval samples) sums)
    ∙ omega (arith, pixel_length maxval samples p, pixels_length maxval samples sums)

-- the header, and so many bytes for each pixel
pub image_length : (width height maxval samples pixels : ℕ) (sums : List PixelSum) → length sums ≡ pixels
    → length (image width height maxval samples sums) ≡ length (header width height maxval) + pixel_size maxval * pixels
unfolding image
image_length width height maxval samples pixels sums count =
    length-append (header width height maxval) (flat_map (pixel maxval samples) sums)
    ∙ ap (λ (n : ℕ). length (header width height maxval) + n) (pixels_length maxval samples sums ∙ ap (λ (n : ℕ). pixel_size maxval * n) count)
