-- The colours of some of a pixel's samples, summed.
use Rattle.std.specs.Prelude.{◌≡◌, ℕ, zero, suc, ◌+◌, ◌-◌, ◌<◌, ◌≤◌, ◌^◌, ◌==◌, Bool, true, not, if◌then◌else◌, count_ones, List, [], ◌∷◌, slice_index}
use Rattle.std.specs.Int.{bit_at}
use Rattle.abuf_num.specs.declared.plain.PixelSum.{PixelSum}
use Rattle.abuf_resolve.specs.declared.colour_sum.ColourSum.{ColourSum}
use Rattle.abuf_resolve.specs.Sums.{IsSmall}

-- The set of this mask has sample k.
abbrev pub in_set : ℕ → ℕ → Bool
in_set set k = bit_at set k == 1

-- The sum of the values of those of 0 to n - 1 that pass the test.
abbrev pub total : (ℕ → Bool) → (ℕ → ℕ) → ℕ → ℕ
total p value zero = 0
total p value (suc n) = total p value n + (if p n then value n else 0)

-- The sums of the colours of those of samples 0 to n - 1 that pass the test.
abbrev pub sums_where : (ℕ → Bool) → (ℕ → List ℕ) → ℕ → PixelSum
sums_where p colours n = record {
  channels =
      total p (λ k. slice_index (colours k) 0) n
      ∷ total p (λ k. slice_index (colours k) 1) n
      ∷ total p (λ k. slice_index (colours k) 2) n
      ∷ [];
}

-- The sums are those of the colours of the samples that were added.
abbrev pub Holds : (ℕ → List ℕ) → ColourSum → Type 0
Holds colours t = t.sums ≡ sums_where (λ k. not (in_set t.rest k)) colours t.samples

-- The samples of the set that are left have this colour.
abbrev pub HaveColour : (ℕ → List ℕ) → ColourSum → ℕ → List ℕ → Type 0
HaveColour colours t set colour = (k : ℕ) → k < t.samples → in_set t.rest k ≡ true → in_set set k ≡ true → colours k ≡ colour

-- What is left are samples of the pixel, and no channel is above what the others give.
pub record IsFair (t : ColourSum) : Type 0 where
  pub few : t.samples ≤ 16
  pub left : t.rest < 2 ^ t.samples
  pub small : IsSmall (t.samples - count_ones t.rest) t.sums
