use Rattle.std.proofs.Common.{◌≡◌, ◌+◌, ◌^◌, ◌<◌, ◌≤◌, ℕ, ℤ, List, pos, neg_ℤ, inl, inr, arith, length, get_or, subst, ap, to_z, of_z, w64, unsigned_abs, ◌∙◌}
use Rattle.std.proofs.lemmas.List.{length-set, get_or-set_same, get_or-set_other}
use Rattle.std.proofs.lemmas.Bool.{cases_lt}
use Rattle.abuf_raster.specs.Samples.{offsets_of}
use Rattle.abuf_raster.specs.Values.{sample_change}
use Rattle.abuf_raster.proofs.Bounds.{back64}
use Rattle.abuf_raster.proofs.setup.limits_from.Goals as goal
use Rattle.abuf_raster.proofs.setup.limits_from.Goals.{then-from-k, else-from-k}

pub loop-k-preserved : goal.loop-k-preserved
loop-k-preserved c =
    let k : ℕ = c.loop-k.k in
    let from : ℕ = c.args.from in
    let i = c.loop-k.invariant in
    let old : List ℤ = c.loop-k.limits in
    let now : List ℤ = c.if-from-k.limits in
    let os = offsets_of c.args.pattern in
    let limit : ℕ → ℤ = λ j. neg_ℤ (sample_change c.args.a c.args.b os (from + j)) in
    elim c.if-from-k.branch as (λ _. (length now ≡ 8) × ((j : ℕ) → j < k + 1 → from + j < length os → (get_or now j (pos 0) ≡ limit j) × (unsigned_abs (limit j) ≤ 2 ^ 54))) [
      | then-from-k w ↦
          let x : ℤ = to_z w64 (of_z w64 w.sample_limit.result) in
          let e = w.sample_limit.ensures in
          let is : x ≡ limit k = back64 w.sample_limit.result (omega (arith, e.small)) ∙ e.value in (
            ap length w.limits-is ∙ (length-set old k x ∙ i.0),
            λ j l m. elim (cases_lt j k) as (λ _. (get_or now j (pos 0) ≡ limit j) × (unsigned_abs (limit j) ≤ 2 ^ 54)) [
              | inl f ↦ (ap (λ (xs : List ℤ). get_or xs j (pos 0)) w.limits-is ∙ (get_or-set_other old k j x (pos 0) (λ e. omega arith) ∙ (i.1 j f m).0), (i.1 j f m).1)
              | inr f ↦ let z : j ≡ k = omega arith in
                  rw z (ap (λ (xs : List ℤ). get_or xs k (pos 0)) w.limits-is ∙ (get_or-set_same old k x (pos 0) (omega arith) ∙ is), subst (λ (n : ℤ). unsigned_abs n ≤ 2 ^ 54) e.value e.small)
            ],
          )
      | else-from-k w ↦ (
        ap length w.limits-is ∙ i.0,
        λ j l m. let f : j < k = omega (arith, w.if-from-k.false) in (ap (λ (xs : List ℤ). get_or xs j (pos 0)) w.limits-is ∙ (i.1 j f m).0, (i.1 j f m).1),
      )
    ]

pub returns : goal.returns
returns c = record { each = λ k l m. (c.loop-k.invariant.1 k (omega arith) m).0; small = λ k l m. (c.loop-k.invariant.1 k (omega arith) m).1 }
