use Rattle.std.proofs.Common.{arith, ◌≡◌, pos, to_z, of_z, w64, w32, ◌+ℤ◌, ◌*ℤ◌, ◌+◌, ◌*◌}
use Rattle.std.proofs.lemmas.Int.{ints}
use Rattle.abuf_raster.proofs.pattern.sample_position.Goals as goal
use Rattle.abuf_raster.specs.Samples.{sample_position}

pub returns-clause-value : goal.returns-clause-value
returns-clause-value c = λ i. record { x = ex i; y = ey i } where
  ex : to_z w64 (of_z w64 (to_z w64 (256 * c.args.x + 128) +ℤ to_z w64 (of_z w64 (pos 16 *ℤ to_z w64 (of_z w64 (to_z w32 (of_z w32 c.args.offset.0))))))) ≡ (sample_position c.args.offset c.args.x c.args.y).x
  ex = omega (arith, ints)

  ey : to_z w64 (of_z w64 (to_z w64 (256 * c.args.y + 128) +ℤ to_z w64 (of_z w64 (pos 16 *ℤ to_z w64 (of_z w64 (to_z w32 (of_z w32 c.args.offset.1))))))) ≡ (sample_position c.args.offset c.args.x c.args.y).y
  ey = omega (arith, ints)
