-- The rows of the bands.
use Rattle.std.proofs.Common.{◌≡◌, ℕ, ◌+◌, ◌-◌, ◌*◌, ◌/◌, ◌≤◌, arith}
use Rattle.std.proofs.lemmas.Nat.{le-div}
use Rattle.std.proofs.Math.Nat.{div-mul-le_self, div-le_of_le-mul, mul-div_cancel_left}
use Rattle.abuf_band.specs.Rows.{first_row}

-- The first band begins at the top,
pub first_row_zero : (height count : ℕ) → first_row height count 0 ≡ 0
first_row_zero height count =
    let least : 0 * height / count ≤ 0 = div-le_of_le-mul count (omega arith) in
    omega arith

-- and the last one ends at the bottom.
pub first_row_all : (height count : ℕ) → 1 ≤ count → first_row height count count ≡ height
first_row_all height count some = mul-div_cancel_left height (omega arith)

-- Where there are no more bands than rows, each band has a row at least.
pub first_row_rises : (height count k : ℕ) → 1 ≤ count → count ≤ height → first_row height count k + 1 ≤ first_row height count (k + 1)
first_row_rises height count k some few =
    let below : k * height / count * count ≤ k * height = div-mul-le_self (k * height) count in
    le-div (k * height / count + 1) ((k + 1) * height) count (omega arith) (omega arith)

-- The rows above a band and its own are those above the next.
pub rows_next : (height count k : ℕ) → 1 ≤ count → count ≤ height
    → first_row height count k + (first_row height count (k + 1) - first_row height count k) ≡ first_row height count (k + 1)
rows_next height count k some few = omega (arith, first_row_rises height count k some few)
